-- A bus in memory: which cells are mapped, and what one access does to them.
use Rattle.std.specs.Prelude.{◌≡◌, ℕ, ◌+◌, ◌-◌, ◌/◌, ◌^◌, Bool, ◌&&◌, nat_lt, nat_le, if◌then◌else◌, List, length, slice_index, Option, Some, None}
use Rattle.std.specs.List.{list_any}
use Rattle.std.specs.Option.{option_map}
use Rattle.std.specs.BTreeMap.{get}
use Rattle.std.specs.Ordering.{nat_cmp}
use Rattle.byteorder.specs.Endian.{little_bytes}
use Rattle.fault_plan.specs.Plan.{Calls, no_calls, with_call, fails_next, one_if}
use Rattle.apei_base.specs.Bus.{Reach, Access, Reads, Writes, Copies, Cells, same_space, value_at, bytes_at}
use Rattle.apei_base.specs.declared.region.Space.{Space}
use Rattle.apei_base.specs.declared.region.Space.TheVariants.{Memory, Port}
use Rattle.apei_mem_bus.specs.declared.mem_bus.MemBus.{MemBus}

-- the cells of two spaces (own choice)
abbrev pub both_spaces : (ℕ → Option ℕ) → (ℕ → Option ℕ) → Cells
both_spaces memory ports Memory = memory
both_spaces memory ports Port = ports

-- the cells of a bus in memory (own choice)
abbrev pub cells_of : MemBus → Cells
cells_of bus = both_spaces (get nat_cmp bus.memory) (get nat_cmp bus.ports)

-- the numbered accesses (own choice)
abbrev pub accesses_of : MemBus → Calls
accesses_of bus = bus.attempts.plan

-- how many accesses have failed (own choice)
abbrev pub failed_of : MemBus → ℕ
failed_of bus = bus.attempts.faults

-- an address is one of so many from a first one on; there is none past 2 ^ 64 - 1 (own choice)
abbrev pub is_in_run : ℕ → ℕ → ℕ → Bool
is_in_run first count address = nat_le first address && nat_lt address (first + count) && nat_lt address (2 ^ 64)

-- a cell is in one of the runs, each with its space, its first address and its length in bytes (own choice)
abbrev pub is_in_runs : List (Space × ℕ × ℕ) → Space → ℕ → Bool
is_in_runs runs space address = list_any (λ run. same_space run.0 space && is_in_run run.1 run.2 address) runs

-- one space after bytes were written from an address on: a cell that is not mapped drops its byte (own choice)
abbrev pub with_bytes : (ℕ → Option ℕ) → ℕ → List ℕ → ℕ → Option ℕ
with_bytes cells first bytes address =
    if is_in_run first (length bytes) address then option_map (λ old. slice_index bytes (address - first)) (cells address)
    else cells address

-- the cells after a value was written to a region, the lowest byte first (ACPI 6.5, 5.2)
abbrev pub with_value : Cells → Reach → ℕ → Cells
with_value cells reach value space address =
    if same_space reach.space space then with_bytes (cells space) reach.address (little_bytes (reach.width / 8) value) address
    else cells space address

-- An access that succeeds: a read answers the value and a copy the bytes that stand there, and both change nothing; a
-- write changes the cells of its region (own choice).
abbrev pub IsMemStep : Cells → Access → Cells → Type 0
IsMemStep before (Reads reach value) after = (value ≡ value_at before reach) × (after ≡ before)
IsMemStep before (Writes reach value) after = (space : Space) (address : ℕ) → after space address ≡ with_value before reach value space address
IsMemStep before (Copies address bytes) after = (bytes ≡ bytes_at before Memory address (length bytes)) × (after ≡ before)

-- the runs of cells are mapped, all 0, and no access was made yet (own choice)
pub record IsMapped (bus : MemBus) (runs : List (Space × ℕ × ℕ)) (failing : List ℕ) : Type 0 where
  pub cells : (space : Space) (address : ℕ) → cells_of bus space address ≡ (if is_in_runs runs space address then Some 0 else None)
  pub calls : accesses_of bus ≡ no_calls failing
  pub faults : failed_of bus ≡ 0

-- One access, which failed or not: it is counted, and fails exactly where it is to fail (own choice).
pub record IsCounted (old new : MemBus) (failed : Bool) : Type 0 where
  pub counted : accesses_of new ≡ with_call (accesses_of old)
  pub planned : failed ≡ fails_next (accesses_of old)
  pub raised : failed_of new ≡ failed_of old + one_if failed
