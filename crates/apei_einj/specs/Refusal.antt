-- Why an entry of an injection table is refused, and which actions it has to have.
use Rattle.std.specs.Prelude.{ℕ, Bool, ◌+◌, ◌^◌, not, ◌&&◌, ◌||◌, ◌==◌, nat_lt, is_none, if◌then◌else◌, List, [], ◌∷◌, Option, Some, None}
use Rattle.std.specs.Option.{option_or}
use Rattle.apei_base.specs.Region.{gas_refusal}
use Rattle.apei_base.specs.declared.gas.GasError.{GasError}
use Rattle.apei_base.specs.declared.gas.GasError.TheVariants.{PastEnd}
use Rattle.apei_einj.specs.Anchor.{anchor_of}
use Rattle.apei_einj.specs.declared.entry.Entry.{Entry}
use Rattle.apei_einj.specs.declared.error.EinjError.{EinjError}
use Rattle.apei_einj.specs.declared.error.EinjError.TheVariants.{Instruction, Register, Missing}

-- the entry is of action 8, and the 36 bytes of the address structure at its register pass the greatest address
-- (ACPI 6.5, 18.6.4; own choice)
abbrev pub is_cut_off : Entry → Bool
is_cut_off entry = (entry.action == 8) && nat_lt (2 ^ 64) (entry.register.address + 36)

-- why the register of an entry is refused, the first reason (own choice)
abbrev pub register_reason : Entry → Option GasError
register_reason entry = option_or (gas_refusal entry.register) (if is_cut_off entry then Some PastEnd else None)

-- the refusal for the register of the entry at an offset
abbrev pub register_refusal : ℕ → Option GasError → Option EinjError
register_refusal at None = None
register_refusal at (Some why) = Some (Register at why)

-- why an entry is refused: its instruction is above 4, or its register is refused, which a no operation has none of
-- (ACPI 6.5, 18.6.2; own choice)
abbrev pub entry_refusal : Entry → Option EinjError
entry_refusal entry =
    if nat_lt 4 entry.instruction then Some (Instruction entry.at)
    else if entry.instruction == 4 then None
    else register_refusal entry.at (register_reason entry)

-- why entries are refused: the first reason along the table
unfoldable pub first_refusal : List Entry → Option EinjError
first_refusal [] = None
first_refusal (entry ∷ entries) = option_or (entry_refusal entry) (first_refusal entries)

-- an action has no anchor among the entries
abbrev pub lacks : ℕ → List Entry → Bool
lacks action entries = is_none (anchor_of action entries)

-- an action is missing: it has no anchor; the error type may be set by action 2 or by action 8 (own choice)
abbrev pub is_missing : ℕ → List Entry → Bool
is_missing action entries = lacks action entries && (not (action == 2) || lacks 8 entries)

-- the first of some actions that is missing
unfoldable pub first_missing : List Entry → List ℕ → Option EinjError
first_missing entries [] = None
first_missing entries (action ∷ actions) = if is_missing action entries then Some (Missing action) else first_missing entries actions

-- which action is missing, the first in this order (own choice)
abbrev pub missing_refusal : List Entry → Option EinjError
missing_refusal entries = first_missing entries (1 ∷ 2 ∷ 3 ∷ 5 ∷ 6 ∷ 7 ∷ [])
