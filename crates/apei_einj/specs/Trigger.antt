-- The trigger table: what it says, why it is refused, and how it is run (ACPI 6.5, 18.6.5).
use Rattle.std.specs.Prelude.{ℕ, ◌+◌, ◌*◌, ◌/◌, not, ◌||◌, ◌&&◌, ◌==◌, nat_lt, is_some, List, [], ◌∷◌, length, Option, None, Result}
use Rattle.std.specs.Option.{option_or}
use Rattle.apei_base.specs.Bus.{Access}
use Rattle.apei_base.specs.Number.{number_at}
use Rattle.apei_base.specs.Refusal.{first_of}
use Rattle.apei_base.specs.Region.{gas_refusal}
use Rattle.apei_einj.specs.Entry.{pieces_of, entries_from, of_action}
use Rattle.apei_einj.specs.Part.{Then, Gives, Tests, Takes, TakesAny, Acts}
use Rattle.apei_einj.specs.declared.entry.Entry.{Entry}
use Rattle.apei_einj.specs.declared.injected.InjectError.{InjectError}
use Rattle.apei_einj.specs.declared.injected.InjectError.TheVariants.{Trigger}

-- the size of the header that the header states, at offset 0 (ACPI 6.5, 18.6.5)
abbrev pub header_size : List ℕ → ℕ
header_size header = number_at 0 4 header

-- the size of the whole table, at offset 8 (ACPI 6.5, 18.6.5)
abbrev pub table_size : List ℕ → ℕ
table_size header = number_at 8 4 header

-- how many entries stand behind the header, at offset 12 (ACPI 6.5, 18.6.5)
abbrev pub trigger_count : List ℕ → ℕ
trigger_count header = number_at 12 4 header

-- why the header is refused: a size other than 16, a table that is shorter than its header or longer than 4,096 bytes, or
-- one that is not the header and its entries of 32 bytes each (own choice)
abbrev pub trigger_header_refusal : List ℕ → Option InjectError
trigger_header_refusal header = first_of (
    (not (header_size header == 16), Trigger 1) ∷
    (nat_lt (table_size header) 16 || nat_lt 4096 (table_size header), Trigger 2) ∷
    (not (table_size header == 16 + 32 * trigger_count header), Trigger 3) ∷ [])

-- the entries behind the header, of which the first stands at 16 (ACPI 6.5, 18.6.5)
unfoldable pub trigger_entries : List ℕ → List Entry
trigger_entries bytes = entries_from 16 (pieces_of (length bytes / 32) bytes)

-- why an entry of the trigger action is refused: its instruction is above 4, or it has a register that names no region
-- (own choice)
abbrev pub trigger_reason : Entry → Option InjectError
trigger_reason entry = first_of (
    (nat_lt 4 entry.instruction, Trigger 4) ∷
    (nat_lt entry.instruction 4 && is_some (gas_refusal entry.register), Trigger 5) ∷ [])

-- the first reason along the entries
unfoldable pub first_reason : List Entry → Option InjectError
first_reason [] = None
first_reason (entry ∷ entries) = option_or (trigger_reason entry) (first_reason entries)

-- why the entries are refused, those of the trigger action alone
abbrev pub trigger_refusal : List ℕ → Option InjectError
trigger_refusal bytes = first_reason (of_action 0xff (trigger_entries bytes))

module _ {S : Type 0} (step : S → Access → S → Type 0) where
  -- So many bytes of entries behind the header at an address: they are copied and tested, and then those of the trigger
  -- action are run, on the value 0 (ACPI 6.5, 18.6.5).
  unfoldable pub TriggersBehind : ℕ → ℕ → S → Result (Unit {0}) InjectError → S → Type 0
  TriggersBehind address n =
      Then (TakesAny step (address + 16) n) (λ bytes.
      Then (Tests (trigger_refusal bytes)) (λ _.
      Then (Acts step (trigger_entries bytes) 0xff 0) (λ _.
      Gives tt)))

  -- The trigger table at an address: its header is copied and tested, and then its entries are (ACPI 6.5, 18.6.5).
  unfoldable pub Triggers : ℕ → S → Result (Unit {0}) InjectError → S → Type 0
  Triggers address =
      Then (Takes step address 16) (λ header.
      Then (Tests (trigger_header_refusal header)) (λ _.
      TriggersBehind address (32 * trigger_count header)))
