-- The machine that injects: what it holds, and what an access leaves (own choice).
use Rattle.std.specs.Prelude.{◌≡◌, ℕ, ◌+◌, ◌-◌, ◌^◌, Bool, not, ◌&&◌, ◌||◌, ◌==◌, nat_lt, bit_and, if◌then◌else◌, List, [], ◌∷◌, ◌++◌, length, slice_index, Option, Some, None}
use Rattle.byteorder.specs.Endian.{little_bytes}
use Rattle.apei_base.specs.Bus.{Cells, Reach, Access, Reads, Writes, Copies, value_at, bytes_at}
use Rattle.apei_base.specs.declared.region.Space.TheVariants.{Memory}
use Rattle.apei_einj.specs.Action.{entry_reach}
use Rattle.apei_einj.specs.Part.{memory_reach}
use Rattle.apei_einj.specs.Request.{is_error_type}
use Rattle.fw_cells.specs.Changes.{with_bytes_at, with_value}
use Rattle.fw_cells.specs.Runs.{cells_of}
use Rattle.fw_einj.specs.Class.{class_of}
use Rattle.fw_einj.specs.Field.{shares, field_in, field_set}
use Rattle.fw_einj.specs.declared.board.Asked.{Asked}
use Rattle.fw_einj.specs.declared.board.Asked.TheVariants.{Structure, Field}
use Rattle.fw_einj.specs.declared.board.Board.{Board}
use Rattle.fw_einj.specs.declared.class.Class.{Class}
use Rattle.fw_einj.specs.declared.class.Class.TheVariants as classes
use Rattle.fw_einj.specs.declared.injection.Injection.{Injection}
use Rattle.fw_einj.specs.declared.port.EinjPort.{EinjPort}
use Rattle.fw_einj.specs.declared.port.Made.{Made}
use Rattle.fw_einj.specs.declared.register.Register.{Register}
use Rattle.fw_einj.specs.declared.setup.Setup.{Setup}

-- Its registers and its setup, the cells that its port reaches, how many reads find it busy yet, what it is armed with, and
-- what the last trigger made.
pub record Machine : Type 0 where
  pub board : Board
  pub setup : Setup
  pub cells : Cells
  pub busy : ℕ
  pub armed : Option Injection
  pub made : Option Made

-- the machine of a port
abbrev pub machine_of : EinjPort → Machine
machine_of port = record {
  board = port.board;
  setup = port.setup;
  cells = cells_of port.cells;
  busy = port.busy;
  armed = port.armed;
  made = port.made;
}

-- the machine is set up: the field of the types that can be injected becomes what is available
unfoldable pub set_up : Setup → Machine → Machine
set_up setup machine = record machine {
  setup = setup;
  cells = field_set machine.board.types setup.available machine.cells;
}

-- what the last trigger made was taken
unfoldable pub settled : Machine → Machine
settled machine = record machine { made = None }

-- the error type that it is told: the first field of the address structure where there is one, else the field of action 2
unfoldable pub type_in : Asked → Cells → ℕ
type_in (Structure structure) cells = value_at cells (memory_reach structure.at 32)
type_in (Field register) cells = field_in register cells

-- the command status: that of the setup, and 2 where that is 0 and the type is not exactly one of the bits 0 to 11
abbrev pub command_status : Setup → ℕ → ℕ
command_status setup error = if (setup.status == 0) && not (is_error_type error) then 2 else setup.status

-- what the busy field is set to while the machine is busy: 1 where it is read, and the value where it is compared
abbrev pub busy_value : Register → ℕ
busy_value register = if register.entry.instruction == 0 then 1 else register.entry.value

-- what it is set to where the machine is not busy: 0 where it is read, and the complement of the value where it is compared
abbrev pub idle_value : Register → ℕ
idle_value register = if register.entry.instruction == 0 then 0 else 2 ^ 64 - 1 - register.entry.value

-- the machine becomes busy for so many reads as its setup says, and tells whether it is
unfoldable pub busy_begun : Machine → Machine
busy_begun machine = record machine {
  busy = machine.setup.busy;
  cells =
      field_set machine.board.busy (if machine.setup.busy == 0 then idle_value machine.board.busy else busy_value machine.board.busy)
      machine.cells;
}

-- it tells the command status
unfoldable pub status_told : ℕ → Machine → Machine
status_told status machine = record machine { cells = field_set machine.board.status status machine.cells }

-- The trigger table: its header says 16 bytes of its own, revision 1, 48 bytes in all and 1 entry. The entry is of the
-- trigger action, 0xFF, and writes its value, instruction 3; its register is the trigger cell, in memory, of 32 bits from
-- bit 0 on, read in 4 bytes; its value is 1 under a mask of 32 bits (ACPI 6.5, 18.6.5).
abbrev pub table_bytes : ℕ → List ℕ
table_bytes cell =
    little_bytes 4 16 ++ (little_bytes 4 1 ++ (little_bytes 4 48 ++ (little_bytes 4 1
    ++ (0xff ∷ 3 ∷ 0 ∷ 0 ∷ 0 ∷ 32 ∷ 0 ∷ 3 ∷ []
    ++ (little_bytes 8 cell ++ (little_bytes 8 1 ++ little_bytes 8 0xffffffff))))))

-- it writes the trigger table
unfoldable pub table_written : Machine → Machine
table_written machine = record machine {
  cells = with_bytes_at machine.cells Memory machine.board.table (table_bytes machine.board.cell);
}

-- it tells where the trigger table is
unfoldable pub table_told : Machine → Machine
table_told machine = record machine { cells = field_set machine.board.trigger machine.board.table machine.cells }

-- the number in so many bits of the address structure, from an offset in bytes on (ACPI 6.5, 18.6.4)
abbrev pub told_at : ℕ → ℕ → ℕ → Cells → ℕ
told_at at offset width cells = value_at cells (memory_reach (at + offset) width)

-- the fields of the address structure, all 0 where there is none, with the error type (ACPI 6.5, 18.6.4)
unfoldable pub injection_in : ℕ → Asked → Cells → Injection
injection_in error (Structure structure) cells = record {
  error = error;
  flags = told_at structure.at 8 32 cells;
  processor = told_at structure.at 12 32 cells;
  address = told_at structure.at 16 64 cells;
  mask = told_at structure.at 24 64 cells;
  pcie = told_at structure.at 32 32 cells;
}
injection_in error (Field register) cells = record { error = error; flags = 0; processor = 0; address = 0; mask = 0; pcie = 0 }

-- it is armed with the type and the fields
unfoldable pub armed_with : ℕ → Machine → Machine
armed_with error machine = record machine { armed = Some (injection_in error machine.board.asked machine.cells) }

-- it is not armed
unfoldable pub disarmed : Machine → Machine
disarmed machine = record machine { armed = None }

-- where the command status is 0 the trigger table is written and told, and the machine is armed; else it is not armed
unfoldable pub decided : ℕ → ℕ → Machine → Machine
decided error status machine = if status == 0 then armed_with error (table_told (table_written machine)) else disarmed machine

-- it acts on a type, and with a command status: it becomes busy, tells the status, and decides
unfoldable pub acted_on : ℕ → ℕ → Machine → Machine
acted_on error status machine = decided error status (status_told status (busy_begun machine))

-- the type that it is told, and then all of these in order
unfoldable pub acted : Machine → Machine
acted machine =
    acted_on (type_in machine.board.asked machine.cells)
    (command_status machine.setup (type_in machine.board.asked machine.cells)) machine

-- a write through its port makes it act: it touches the register of action 5, and, where that is written with the value of
-- its entry, leaves the field equal to the value under the mask
unfoldable pub is_begun : Reach → Machine → Bool
is_begun reach machine =
    shares reach (entry_reach machine.board.execute.entry)
    && (not (machine.board.execute.entry.instruction == 3)
    || (field_in machine.board.execute machine.cells == bit_and machine.board.execute.entry.value machine.board.execute.entry.mask))

-- it acts after such a write
unfoldable pub after_command : Reach → Machine → Machine
after_command reach machine = if is_begun reach machine then acted machine else machine

-- the trigger cell
abbrev pub trigger_reach : Machine → Reach
trigger_reach machine = memory_reach machine.board.cell 32

-- the position of a class among the routes
abbrev pub class_index : Class → ℕ
class_index classes.Processor = 0
class_index classes.Memory = 1
class_index classes.Pcie = 2
class_index classes.Platform = 3

-- the source that tells the errors of a class
abbrev pub route_of : Setup → Class → ℕ
route_of setup of = slice_index setup.routes (class_index of)

-- what a trigger makes: the block of the injection, for the source of its class
abbrev pub made_of : Setup → Injection → Made
made_of setup injection = record { source = route_of setup (class_of injection.error); injection = injection }

-- a trigger makes what the machine is armed with, sets the trigger cell to 0, and ends the arming
unfoldable pub triggered_by : Option Injection → Machine → Machine
triggered_by None machine = machine
triggered_by (Some injection) machine = record machine {
  cells = with_value machine.cells (trigger_reach machine) 0;
  armed = None;
  made = Some (made_of machine.setup injection);
}

-- a write through its port triggers: it touches the trigger cell, and leaves 1 in it
unfoldable pub is_triggered : Reach → Machine → Bool
is_triggered reach machine =
    shares reach (trigger_reach machine) && (value_at machine.cells (trigger_reach machine) == 1)

-- the machine after such a write
unfoldable pub after_trigger : Reach → Machine → Machine
after_trigger reach machine = if is_triggered reach machine then triggered_by machine.armed machine else machine

-- a value is written to a region
unfoldable pub written : Reach → ℕ → Machine → Machine
written reach value machine = record machine { cells = with_value machine.cells reach value }

-- a write, and then what the firmware does after it
unfoldable pub after_write : Reach → ℕ → Machine → Machine
after_write reach value machine = after_trigger reach (after_command reach (written reach value machine))

-- so many reads less find the machine busy, and after the last it tells that it is not
unfoldable pub counted_down : Machine → Machine
counted_down machine = record machine {
  busy = machine.busy - 1;
  cells = if machine.busy - 1 == 0 then field_set machine.board.busy (idle_value machine.board.busy) machine.cells else machine.cells;
}

-- a read that shares a cell with the register of action 6 counts down, while the machine is busy
unfoldable pub after_read : Reach → Machine → Machine
after_read reach machine =
    if shares reach (entry_reach machine.board.busy.entry) && nat_lt 0 machine.busy then counted_down machine else machine

-- An access: a read answers the value and a copy the bytes that stand there before it. A copy changes nothing.
abbrev pub IsMachineStep : Machine → Access → Machine → Type 0
IsMachineStep before (Reads reach value) after = (value ≡ value_at before.cells reach) × (after ≡ after_read reach before)
IsMachineStep before (Writes reach value) after = after ≡ after_write reach value before
IsMachineStep before (Copies address bytes) after = (bytes ≡ bytes_at before.cells Memory address (length bytes)) × (after ≡ before)
