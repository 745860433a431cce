-- Which cells a list of runs maps.
use Rattle.std.specs.Prelude.{◌≡◌, ℕ, ◌+◌, ◌^◌, Bool, ◌&&◌, nat_lt, nat_le, if◌then◌else◌, List, Some, None}
use Rattle.std.specs.List.{list_any}
use Rattle.apei_base.specs.Bus.{Cells, same_space}
use Rattle.apei_base.specs.declared.region.Space.{Space}

-- an address is one of so many from a first one on; there is none past 2 ^ 64 - 1 (own choice)
abbrev pub is_in_run : ℕ → ℕ → ℕ → Bool
is_in_run first count address = nat_le first address && nat_lt address (first + count) && nat_lt address (2 ^ 64)

-- a cell is in one of the runs, each with its space, its first address and its length in bytes (own choice)
abbrev pub is_in_runs : List (Space × ℕ × ℕ) → Space → ℕ → Bool
is_in_runs runs space address = list_any (λ run. same_space run.0 space && is_in_run run.1 run.2 address) runs

-- exactly the cells of the runs are mapped, all 0 (own choice)
abbrev pub IsMapped : Cells → List (Space × ℕ × ℕ) → Type 0
IsMapped cells runs = (space : Space) (address : ℕ) → cells space address ≡ (if is_in_runs runs space address then Some 0 else None)
