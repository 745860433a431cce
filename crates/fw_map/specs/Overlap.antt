-- Registers that cannot be told apart.
use Rattle.std.specs.Prelude.{◌≡◌, ◌≤◌, ◌<◌, ℕ, Bool, true, false, not, ◌&&◌, List, length, slice_index_or, Option, Some, None, IsTrue}
use Rattle.apei_base.specs.declared.region.Space.{Space}
use Rattle.fw_map.specs.Runs.{has_cell, shares}
use Rattle.fw_map.specs.declared.error.Owner.{Owner}
use Rattle.fw_map.specs.declared.error.Owner.TheVariants.{Source, Injection}
use Rattle.fw_map.specs.declared.error.FwError.{FwError}
use Rattle.fw_map.specs.declared.error.FwError.TheVariants.{Overlap, Room, Narrow, OutOfMemory}
use Rattle.fw_map.specs.declared.run.Register.{Register}
use Rattle.fw_map.specs.declared.run.Run.{Run}

-- the register is of the injection table
abbrev pub is_injection : Owner → Bool
is_injection (Source id) = false
is_injection Injection = true

-- two registers share a cell, and are not both of the injection table: they have different owners, or are the two of one
-- source (own choice)
abbrev pub clash : Register → Register → Bool
clash one other = shares one.run other.run && not (is_injection one.owner && is_injection other.owner)

-- no two of the first so many registers clash
abbrev pub AreApartBelow : List Register → ℕ → Type 0
AreApartBelow registers n = (i j : ℕ) (none : Register) → i < j → j < n
    → clash (slice_index_or registers i none) (slice_index_or registers j none) ≡ false

-- no two of the registers clash
abbrev pub AreApart : List Register → Type 0
AreApart registers = AreApartBelow registers (length registers)

-- The registers at two places clash: the later one is the first that clashes with an earlier one, and the earlier one the
-- first that it clashes with (own choice).
pub record IsFirstClash (registers : List Register) (earlier later : ℕ) : Type 0 where
  pub order : earlier < later
  pub within : later < length registers
  pub clashes : (none : Register) → clash (slice_index_or registers earlier none) (slice_index_or registers later none) ≡ true
  pub apart : AreApartBelow registers later
  pub first : (k : ℕ) (none : Register) → k < earlier
      → clash (slice_index_or registers k none) (slice_index_or registers later none) ≡ false

-- the cell is the lowest one that both runs have
pub record IsLowestShared (one other : Run) (space : Space) (address : ℕ) : Type 0 where
  pub one_has : IsTrue (has_cell one space address)
  pub other_has : IsTrue (has_cell other space address)
  pub lowest : (lower : ℕ) → IsTrue (has_cell one space lower) → IsTrue (has_cell other space lower) → address ≤ lower

-- An overlap of an earlier register and a later one names the owners, and the lowest cell that both have (own choice).
pub record Names (earlier later : Register) (first second : Owner) (space : Space) (address : ℕ) : Type 0 where
  pub first_is : first ≡ earlier.owner
  pub second_is : second ≡ later.owner
  pub cell : IsLowestShared earlier.run later.run space address

-- registers overlap: this names the first two that clash
abbrev pub IsOverlap : List Register → Owner → Owner → Space → ℕ → Type 0
IsOverlap registers first second space address = (i j : ℕ) × IsFirstClash registers i j
    × ((none : Register) → Names (slice_index_or registers i none) (slice_index_or registers j none) first second space address)

-- the place of the first register that clashes with a later one, none where none does
abbrev pub IsFirstOf : List Register → Register → Option ℕ → Type 0
IsFirstOf registers later None = (k : ℕ) (none : Register) → k < length registers → clash (slice_index_or registers k none) later ≡ false
IsFirstOf registers later (Some place) =
    (place < length registers) × ((none : Register) → clash (slice_index_or registers place none) later ≡ true)
    × ((k : ℕ) (none : Register) → k < place → clash (slice_index_or registers k none) later ≡ false)

-- the refusal names an overlap of the two
abbrev pub NamesError : Register → Register → FwError → Type 0
NamesError earlier later (Overlap first second space address) = Names earlier later first second space address
NamesError earlier later Room = ⊥
NamesError earlier later (Narrow id) = ⊥
NamesError earlier later OutOfMemory = ⊥

-- the refusal names the first overlap of the registers
abbrev pub IsOverlapError : List Register → FwError → Type 0
IsOverlapError registers error = (i j : ℕ) × IsFirstClash registers i j
    × ((none : Register) → NamesError (slice_index_or registers i none) (slice_index_or registers j none) error)

-- why registers are refused: an overlap, or want of memory before one was looked for
abbrev pub Overlaps : List Register → FwError → Type 0
Overlaps registers (Overlap first second space address) = IsOverlap registers first second space address
Overlaps registers Room = ⊥
Overlaps registers (Narrow id) = ⊥
Overlaps registers OutOfMemory = Unit {0}
