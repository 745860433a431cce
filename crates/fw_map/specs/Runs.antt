-- Runs of cells, and when two of them share one.
use Rattle.std.specs.Prelude.{ℕ, ◌+◌, max, Bool, ◌&&◌, nat_lt, nat_le, List, IsTrue}
use Rattle.std.specs.List.{list_any}
use Rattle.apei_base.specs.Bus.{same_space}
use Rattle.apei_base.specs.declared.region.Space.{Space}
use Rattle.fw_map.specs.declared.run.Run.{Run}

-- the address behind the last cell of a run (own choice)
abbrev pub end_of : Run → ℕ
end_of run = run.first + run.bytes

-- a run has this cell (own choice)
abbrev pub has_cell : Run → Space → ℕ → Bool
has_cell run space address = same_space run.space space && nat_le run.first address && nat_lt address (end_of run)

-- the lowest address from which on both runs have begun (own choice)
abbrev pub both_begun : Run → Run → ℕ
both_begun one other = max one.first other.first

-- two runs share a cell: in one space, where both have begun, neither has ended (own choice)
abbrev pub shares : Run → Run → Bool
shares one other =
    same_space one.space other.space && nat_lt (both_begun one other) (end_of one) && nat_lt (both_begun one other) (end_of other)

-- a run shares a cell with one of some runs (own choice)
abbrev pub is_taken : List Run → Run → Bool
is_taken runs run = list_any (λ taken. shares taken run) runs

-- there is a cell that both runs have (own choice)
abbrev pub HaveCommonCell : Run → Run → Type 0
HaveCommonCell one other = (space : Space) × (address : ℕ) × IsTrue (has_cell one space address) × IsTrue (has_cell other space address)
