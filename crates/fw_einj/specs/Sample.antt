-- The machine of an injection table of the sample's shape, at rest (own choice; the sample "injection" of docs/FORMATS.md).
use Rattle.std.specs.Prelude.{◌≡◌, ◌<◌, ◌≤◌, ℕ, ◌+◌, ◌^◌, true, List, [], ◌∷◌, Option, None}
use Rattle.std.proofs.Common.{refl}
use Rattle.apei_base.specs.Bus.{Cells, value_at}
use Rattle.apei_base.specs.declared.region.Space.{Space}
use Rattle.apei_base.specs.declared.region.Space.TheVariants.{Memory, Port}
use Rattle.apei_einj.specs.Injection.{type_refusal}
use Rattle.apei_einj.specs.Part.{memory_reach}
use Rattle.apei_einj.specs.Request.{is_error_type, flags_of, processor_of, address_of, mask_of, pcie_of}
use Rattle.apei_einj.specs.declared.entry.Entry.{Entry}
use Rattle.apei_einj.specs.declared.request.Request.{Request}
use Rattle.fw_einj.specs.Machine.{Machine}
use Rattle.fw_einj.specs.declared.board.Asked.TheVariants.{Structure}
use Rattle.fw_einj.specs.declared.board.Board.{Board}
use Rattle.fw_einj.specs.declared.injection.Injection.{Injection}
use Rattle.fw_einj.specs.declared.port.Made.{Made}
use Rattle.fw_einj.specs.declared.setup.Setup.{Setup}

-- its nine entries, of the actions 0 to 8
abbrev pub begin_entry : Entry
begin_entry = record {
  at = 48;
  action = 0;
  instruction = 4;
  flags = 0;
  register = record { space = 0; bit_width = 0; bit_offset = 0; access = 0; address = 0 };
  value = 0;
  mask = 0;
}

abbrev pub trigger_entry : Entry
trigger_entry = record {
  at = 80;
  action = 1;
  instruction = 0;
  flags = 0;
  register = record { space = 0; bit_width = 64; bit_offset = 0; access = 4; address = 0x7e000000 };
  value = 0;
  mask = 0xffffffffffffffff;
}

abbrev pub set_type_entry : Entry
set_type_entry = record {
  at = 112;
  action = 2;
  instruction = 2;
  flags = 0;
  register = record { space = 0; bit_width = 32; bit_offset = 0; access = 3; address = 0x7e000008 };
  value = 0;
  mask = 0xffffffff;
}

abbrev pub types_entry : Entry
types_entry = record {
  at = 144;
  action = 3;
  instruction = 0;
  flags = 0;
  register = record { space = 0; bit_width = 32; bit_offset = 0; access = 3; address = 0x7e00000c };
  value = 0;
  mask = 0xffffffff;
}

abbrev pub end_entry : Entry
end_entry = record {
  at = 176;
  action = 4;
  instruction = 4;
  flags = 0;
  register = record { space = 0; bit_width = 0; bit_offset = 0; access = 0; address = 0 };
  value = 0;
  mask = 0;
}

abbrev pub execute_entry : Entry
execute_entry = record {
  at = 208;
  action = 5;
  instruction = 3;
  flags = 0;
  register = record { space = 1; bit_width = 8; bit_offset = 0; access = 1; address = 0xb2 };
  value = 0x9a;
  mask = 0xff;
}

abbrev pub busy_entry : Entry
busy_entry = record {
  at = 240;
  action = 6;
  instruction = 1;
  flags = 0;
  register = record { space = 0; bit_width = 32; bit_offset = 0; access = 3; address = 0x7e000010 };
  value = 1;
  mask = 1;
}

abbrev pub status_entry : Entry
status_entry = record {
  at = 272;
  action = 7;
  instruction = 0;
  flags = 0;
  register = record { space = 0; bit_width = 8; bit_offset = 1; access = 3; address = 0x7e000010 };
  value = 0;
  mask = 0xff;
}

abbrev pub structure_entry : Entry
structure_entry = record {
  at = 304;
  action = 8;
  instruction = 2;
  flags = 0;
  register = record { space = 0; bit_width = 32; bit_offset = 0; access = 3; address = 0x7e000040 };
  value = 0;
  mask = 0xffffffff;
}

abbrev pub sample_entries : List Entry
sample_entries =
    begin_entry ∷ trigger_entry ∷ set_type_entry ∷ types_entry ∷ end_entry ∷ execute_entry ∷ busy_entry ∷ status_entry ∷ structure_entry ∷ []

-- the registers of its machine, with the addresses of the trigger table and of the trigger cell
abbrev pub sample_board : ℕ → ℕ → Board
sample_board table cell = record {
  trigger = record { entry = trigger_entry; accepted = refl };
  types = record { entry = types_entry; accepted = refl };
  execute = record { entry = execute_entry; accepted = refl };
  busy = record { entry = busy_entry; accepted = refl };
  status = record { entry = status_entry; accepted = refl };
  asked = Structure (record { at = 0x7e000040; whole = refl });
  table = table;
  cell = cell;
}

-- its machine at rest: neither busy nor armed
abbrev pub at_rest : ℕ → ℕ → Setup → Cells → Option Made → Machine
at_rest table cell setup cells made = record {
  board = sample_board table cell;
  setup = setup;
  cells = cells;
  busy = 0;
  armed = None;
  made = made;
}

-- so many cells from a first one on are mapped
abbrev pub AreMapped : Cells → Space → ℕ → ℕ → Type 0
AreMapped cells space first n = (k : ℕ) → k < n → cells space (first + k) ≡ None → ⊥

-- Its cells at rest, with this trigger table and trigger cell: all that it needs are mapped, the table lies below the cell and
-- both below the registers, its types are those of its setup, and its register of busy and status is 0.
pub record AreAtRest (table cell : ℕ) (setup : Setup) (cells : Cells) : Type 0 where
  pub table_below : table + 48 ≤ cell
  pub cell_below : cell + 4 ≤ 0x7e000000
  pub registers : AreMapped cells Memory 0x7e000000 0x14
  pub structure : AreMapped cells Memory 0x7e000040 36
  pub port : AreMapped cells Port 0xb2 1
  pub table_mapped : AreMapped cells Memory table 48
  pub cell_mapped : AreMapped cells Memory cell 4
  pub types : value_at cells (memory_reach 0x7e00000c 32) ≡ setup.available
  pub status : value_at cells (memory_reach 0x7e000010 32) ≡ 0
  pub told : value_at cells (memory_reach 0x7e000000 64) < 2 ^ 64

-- The numbers of a request are of the widths that the address structure has for them (ACPI 6.5, 18.6.4).
pub record FitsStructure (request : Request) : Type 0 where
  pub typed : is_error_type request.error ≡ true
  pub error_fits : request.error < 2 ^ 32
  pub processor_fits : processor_of request.place < 2 ^ 32
  pub address_fits : address_of request.place < 2 ^ 64
  pub mask_fits : mask_of request.place < 2 ^ 64
  pub pcie_fits : pcie_of request.place < 2 ^ 32

-- what the machine is told of a request
abbrev pub asked_injection : Request → Injection
asked_injection request = record {
  error = request.error;
  flags = flags_of request.place;
  processor = processor_of request.place;
  address = address_of request.place;
  mask = mask_of request.place;
  pcie = pcie_of request.place;
}

-- The setup lets a request be injected: its type is among the types, which are 32 bits, the command status is 0, and the
-- machine is busy for fewer reads than an injection waits.
pub record LetsIn (setup : Setup) (request : Request) : Type 0 where
  pub fits : setup.available < 2 ^ 32
  pub available : type_refusal request setup.available ≡ None
  pub status : setup.status ≡ 0
  pub busy : setup.busy < 1000
