-- A new machine: its registers are those of an injection table, and its cells are 0 (own choice).
use Rattle.std.specs.Prelude.{◌≡◌, ℕ, ◌/◌, not, ◌==◌, map, List, [], ◌∷◌, ◌++◌, Some, None}
use Rattle.std.specs.List.{filter}
use Rattle.apei_base.specs.Region.{space_of, access_width}
use Rattle.apei_base.specs.declared.region.Space.{Space}
use Rattle.apei_base.specs.declared.region.Space.TheVariants.{Memory}
use Rattle.apei_einj.specs.Anchor.{anchor_of}
use Rattle.apei_einj.specs.declared.entry.Entry.{Entry}
use Rattle.fw_cells.specs.Mapping.{IsMapped}
use Rattle.fw_einj.specs.Machine.{Machine}
use Rattle.fw_einj.specs.declared.board.Asked.{Asked}
use Rattle.fw_einj.specs.declared.board.Asked.TheVariants.{Structure, Field}
use Rattle.fw_einj.specs.declared.board.Board.{Board}

-- The error type is told in the address structure at the anchor of action 8, or, where there is none, in the field of the
-- anchor of action 2.
abbrev pub IsAsked : List Entry → Asked → Type 0
IsAsked entries (Structure structure) = (anchor : Entry) × (anchor_of 8 entries ≡ Some anchor) × (structure.at ≡ anchor.register.address)
IsAsked entries (Field register) = (anchor_of 8 entries ≡ None) × (anchor_of 2 entries ≡ Some register.entry)

-- The registers are those of the anchors, and the trigger table and the trigger cell are at these addresses.
pub record IsBoard (entries : List Entry) (table cell : ℕ) (board : Board) : Type 0 where
  pub trigger : anchor_of 1 entries ≡ Some board.trigger.entry
  pub types : anchor_of 3 entries ≡ Some board.types.entry
  pub execute : anchor_of 5 entries ≡ Some board.execute.entry
  pub busy : anchor_of 6 entries ≡ Some board.busy.entry
  pub status : anchor_of 7 entries ≡ Some board.status.entry
  pub asked : IsAsked entries board.asked
  pub table_at : board.table ≡ table
  pub cell_at : board.cell ≡ cell

-- the cells of the register of an entry: their space, the address of the first, and how many they are
abbrev pub register_run : Entry → Space × ℕ × ℕ
register_run entry = (space_of entry.register.space, entry.register.address, access_width entry.register / 8)

-- the cells of the registers of entries that are no no operations
abbrev pub register_runs : List Entry → List (Space × ℕ × ℕ)
register_runs entries = map register_run (filter (λ entry. not (entry.instruction == 4)) entries)

-- the cells of the address structure, where there is one (ACPI 6.5, 18.6.4)
abbrev pub structure_runs : Asked → List (Space × ℕ × ℕ)
structure_runs (Structure structure) = (Memory, structure.at, 36) ∷ []
structure_runs (Field register) = []

-- the cells that the port reaches: those of the registers, of the address structure, of the trigger table and of the trigger
-- cell
abbrev pub port_runs : List Entry → Board → List (Space × ℕ × ℕ)
port_runs entries board =
    register_runs entries ++ (structure_runs board.asked ++ ((Memory, board.table, 48) ∷ (Memory, board.cell, 4) ∷ []))

-- The machine of an injection table, before it is set up: its cells are 0, and it is neither busy nor armed.
pub record IsNew (entries : List Entry) (table cell : ℕ) (machine : Machine) : Type 0 where
  pub board : IsBoard entries table cell machine.board
  pub mapped : IsMapped machine.cells (port_runs entries machine.board)
  pub idle : machine.busy ≡ 0
  pub unarmed : machine.armed ≡ None
  pub unmade : machine.made ≡ None
