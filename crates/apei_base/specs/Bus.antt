-- What a bus shows: its cells, and one access after another.
use Rattle.std.specs.Prelude.{◌≡◌, ◌<◌, ◌≤◌, ℕ, zero, suc, ◌+◌, ◌/◌, ◌%◌, ◌^◌, Bool, true, false, ◌&&◌, ◌==◌, nat_lt, if◌then◌else◌, List, [], ◌∷◌, length, Option, Some, None, IfSome, unwrap_or, Result, IfOk, OnOk, OnErr}
use Rattle.byteorder.specs.Endian.{little_number}
use Rattle.apei_base.specs.declared.region.Region.{Region}
use Rattle.apei_base.specs.declared.region.Space.{Space}
use Rattle.apei_base.specs.declared.region.Space.TheVariants.{Memory, Port}

-- what one access reaches: a space, the address of the first cell, and how wide it is in bits (ACPI 6.5, 5.2.3.2)
pub record Reach : Type 0 where
  pub space : Space
  pub address : ℕ
  pub width : ℕ

-- what a region is reached by
abbrev pub reach_of : Region → Reach
reach_of region = record { space = region.space; address = region.address; width = region.width }

-- both are memory, or both are ports
abbrev pub same_space : Space → Space → Bool
same_space Memory Memory = true
same_space Memory Port = false
same_space Port Memory = false
same_space Port Port = true

-- both reach the same cells in one access
abbrev pub same_reach : Reach → Reach → Bool
same_reach one other =
    same_space one.space other.space && (one.address == other.address) && (one.width == other.width)

-- One access that succeeded, with what it answered: a read of a value, a write of a value, or a copy of memory from an
-- address on (own choice).
pub data Access : Type 0 where
  Reads : Reach → ℕ → Access
  Writes : Reach → ℕ → Access
  Copies : ℕ → List ℕ → Access

-- the write of a value to a region: its low bits, as many as the region is wide (ACPI 6.5, 5.2.3.2)
abbrev pub write_of : Region → ℕ → Access
write_of region value = Writes (reach_of region) (value % 2 ^ region.width)

-- One access and no other: it led from one state to the other, or it failed and left the state (own choice).
pub record IsOneAccess {S T E : Type 0} (step : S → Access → S → Type 0) (access : T → Access) (before : S) (result : Result T E) (after : S) : Type 0 where
  pub ok : IfOk result (λ value. step before (access value) after)
  pub err : OnErr result (after ≡ before)

-- The count of failed accesses rose by one where the call failed, so that no access follows the one that failed; it is
-- what it was where the call did not fail, and never falls (own choice).
pub record CountsFaults {T E : Type 0} (result : Result T E) (before after : ℕ) : Type 0 where
  pub cause : OnErr result (after ≡ before + 1)
  pub unfailed : OnOk result (after ≡ before)
  pub grows : before ≤ after

-- the byte in each cell, by space and address; none where no cell is mapped
abbrev pub Cells : Type 0
Cells = Space → ℕ → Option ℕ

-- the byte that is read there: 0 where no cell is mapped, and past the greatest address, 2 ^ 64 - 1 (own choice)
abbrev pub byte_at : Cells → Space → ℕ → ℕ
byte_at cells space address = if nat_lt address (2 ^ 64) then unwrap_or (cells space address) 0 else 0

-- so many bytes that are read from an address on
unfoldable pub bytes_at : Cells → Space → ℕ → ℕ → List ℕ
bytes_at cells space address zero = []
bytes_at cells space address (suc n) = byte_at cells space address ∷ bytes_at cells space (address + 1) n

-- the value that is read there: the number in its bytes, the lowest first (ACPI 6.5, 5.2)
abbrev pub value_at : Cells → Reach → ℕ
value_at cells reach = little_number (reach.width / 8) (bytes_at cells reach.space reach.address (reach.width / 8))

-- what an access answers where the cells are told: a read their value, a copy their bytes, and a write nothing
abbrev pub Answers : Option Cells → Access → Type 0
Answers told (Reads reach value) = IfSome told (λ cells. value ≡ value_at cells reach)
Answers told (Writes reach value) = Unit {0}
Answers told (Copies address bytes) = IfSome told (λ cells. bytes ≡ bytes_at cells Memory address (length bytes))

-- an access that only looks: a read or a copy
abbrev pub IsLook : Access → Type 0
IsLook (Reads reach value) = Unit {0}
IsLook (Writes reach value) = ⊥
IsLook (Copies address bytes) = Unit {0}

-- Cells that were told are told afterwards, and one that was not mapped is not (own choice).
abbrev pub KeepsUnmapped : Option Cells → Option Cells → Type 0
KeepsUnmapped None after = Unit {0}
KeepsUnmapped (Some before) None = ⊥
KeepsUnmapped (Some before) (Some after) = (space : Space) (address : ℕ) → before space address ≡ None → after space address ≡ None
