-- Why a source is refused behind other sources of its table.
use Rattle.std.specs.Prelude.{◌≡◌, ℕ, ◌==◌, nat_lt, nat_le, if◌then◌else◌, Bool, List, [], ◌∷◌, ◌++◌, length, Option, Some, None, is_some, unwrap_or}
use Rattle.std.specs.List.{flat_map, filter, list_any}
use Rattle.apei_base.specs.Refusal.{first_of}
use Rattle.apei_base.specs.Region.{gas_refusal}
use Rattle.apei_base.specs.declared.gas.GasError.{GasError}
use Rattle.apei_base.specs.declared.gas.GasError.TheVariants.{Space}
use Rattle.apei_hest.specs.declared.error.HestError.{HestError}
use Rattle.apei_hest.specs.declared.error.HestError.TheVariants.{DuplicateId, Register, BlockLength, TooMany}
use Rattle.apei_hest.specs.declared.source.Ack2.{Ack2}
use Rattle.apei_hest.specs.declared.source.Ghes.{Ghes}
use Rattle.apei_hest.specs.declared.source.Source.{Source}
use Rattle.apei_hest.specs.declared.source.Source.TheVariants as sources

-- the generic source that a source is, if it is one
abbrev pub ghes_in : Source → List Ghes
ghes_in (sources.Skipped kind id at length) = []
ghes_in (sources.Ghes ghes) = ghes ∷ []

-- the generic sources, of types 9 and 10, in order
abbrev pub generic : List Source → List Ghes
generic found = flat_map ghes_in found

-- the enabled ones among them
abbrev pub enabled : List Source → List Ghes
enabled found = filter (λ ghes. ghes.enabled) (generic found)

-- one of them has this id
abbrev pub has_id : ℕ → List Source → Bool
has_id id found = list_any (λ ghes. ghes.id == id) (generic found)

-- why the read ack register of a source is refused, where it has one
abbrev pub ack_refusal : Option Ack2 → Option GasError
ack_refusal None = None
ack_refusal (Some ack) = gas_refusal ack.register

-- the row of a register of a source: it is refused for a reason
abbrev pub register_row : ℕ → Option GasError → Bool × HestError
register_row id why = (is_some why, Register id (unwrap_or why Space))

-- why an enabled source is refused behind so many enabled ones: they are 64 already, or a register is refused, the status
-- address before the read ack register, or its block has no room for a header of 20 bytes (own choice)
abbrev pub enabled_rows : ℕ → Ghes → List (Bool × HestError)
enabled_rows before ghes =
    (nat_le 64 before, TooMany) ∷
    register_row ghes.id (gas_refusal ghes.status) ∷
    register_row ghes.id (ack_refusal ghes.ack) ∷
    (nat_lt ghes.block_length 20, BlockLength ghes.id) ∷ []

-- why a source is refused behind others of its table, the first reason: a generic source has the id of another one,
-- enabled or not, or it is enabled and refused as such; no other source is refused (own choice)
abbrev pub source_refusal : List Source → Source → Option HestError
source_refusal before (sources.Skipped kind id at length) = None
source_refusal before (sources.Ghes ghes) = first_of (
    (has_id ghes.id before, DuplicateId ghes.id) ∷
    (if ghes.enabled then enabled_rows (length (enabled before)) ghes else []))

-- none of the sources is refused behind those before it
abbrev pub AreAccepted : List Source → List Source → Type 0
AreAccepted before [] = Unit {0}
AreAccepted before (source ∷ later) = (source_refusal before source ≡ None) × AreAccepted (before ++ source ∷ []) later
