-- What an access of the machine answers, and which cells it leaves unmapped.
use Rattle.std.proofs.Common.{◌≡◌, ◌==◌, ◌-◌, ◌/◌, ℕ, Bool, true, false, cond, if◌then◌else◌, List, Option, Some, None, ap, ◌∙◌}
use Rattle.std.specs.Option.{option_map}
use Rattle.apei_base.specs.Bus.{Cells, Reach, Access, Reads, Writes, Copies, Answers, KeepsUnmapped, same_space, value_at}
use Rattle.apei_base.specs.declared.region.Space.{Space}
use Rattle.apei_base.specs.declared.region.Space.TheVariants.{Memory}
use Rattle.apei_einj.specs.Action.{entry_reach, with_field}
use Rattle.byteorder.specs.Endian.{little_bytes}
use Rattle.fw_cells.specs.Changes.{with_bytes_at, with_value}
use Rattle.fw_einj.specs.Field.{field_set}
use Rattle.fw_einj.specs.Machine.{Machine, IsMachineStep, busy_begun, status_told, table_written, table_told, armed_with, disarmed, decided, acted_on, acted, after_command, is_begun, triggered_by, after_trigger, is_triggered, written, after_write, table_bytes, trigger_reach, counted_down, after_read}
use Rattle.fw_einj.specs.declared.injection.Injection.{Injection}
use Rattle.fw_einj.specs.declared.register.Register.{Register}

-- a read answers the value of its cells, and a copy their bytes
pub machine_answers : (before after : Machine) (access : Access) → IsMachineStep before access after → Answers (Some before.cells) access
machine_answers before after (Reads reach value) step = step.0
machine_answers before after (Writes reach value) step = tt
machine_answers before after (Copies address bytes) step = step.0

-- cells that are not mapped in the one are not in the other
abbrev Keeps : Cells → Cells → Type 0
Keeps one other = (space : Space) (address : ℕ) → one space address ≡ None → other space address ≡ None

-- what is none is replaced by none
none_stays : (b c : Bool) (old : Option ℕ) (f : ℕ → ℕ) → old ≡ None → (if b then (if c then option_map f old else old) else old) ≡ None
none_stays true true old f is_none = ap (option_map f) is_none
none_stays true false old f is_none = is_none
none_stays false c old f is_none = is_none

bytes_keep : (cells : Cells) (of : Space) (first : ℕ) (bytes : List ℕ) → Keeps cells (with_bytes_at cells of first bytes)
bytes_keep cells of first bytes space address is_none = none_stays (same_space of space) _ (cells space address) _ is_none

value_keeps : (cells : Cells) (reach : Reach) (value : ℕ) → Keeps cells (with_value cells reach value)
value_keeps cells reach value = bytes_keep cells reach.space reach.address (little_bytes (reach.width / 8) value)

field_keeps : (register : Register) (value : ℕ) (cells : Cells) → Keeps cells (field_set register value cells)
unfolding field_set
field_keeps register value cells = value_keeps cells (entry_reach register.entry) (with_field register.entry (value_at cells (entry_reach register.entry)) value)

then_keeps : (one two three : Cells) → Keeps one two → Keeps two three → Keeps one three
then_keeps one two three first second space address is_none = second space address (first space address is_none)

-- either of two is kept
either_keeps : (b : Bool) (before one other : Machine) → Keeps before.cells one.cells → Keeps before.cells other.cells → Keeps before.cells (cond b one other).cells
either_keeps true before one other first second = first
either_keeps false before one other first second = second

decided_keeps : (error status : ℕ) (machine : Machine) → Keeps machine.cells (decided error status machine).cells
unfolding decided armed_with table_told table_written disarmed
decided_keeps error status machine =
    either_keeps (status == 0) machine (armed_with error (table_told (table_written machine))) (disarmed machine)
    (then_keeps machine.cells (table_written machine).cells _ (bytes_keep machine.cells Memory machine.board.table (table_bytes machine.board.cell))
    (field_keeps machine.board.trigger machine.board.table (table_written machine).cells))
    (λ space address is_none. is_none)

acted_keeps : (machine : Machine) → Keeps machine.cells (acted machine).cells
unfolding acted acted_on status_told busy_begun
acted_keeps machine =
    then_keeps machine.cells (busy_begun machine).cells _ (field_keeps machine.board.busy _ machine.cells)
    (then_keeps (busy_begun machine).cells (status_told _ (busy_begun machine)).cells _ (field_keeps machine.board.status _ (busy_begun machine).cells)
    (decided_keeps _ _ (status_told _ (busy_begun machine))))

command_keeps : (reach : Reach) (machine : Machine) → Keeps machine.cells (after_command reach machine).cells
unfolding after_command
command_keeps reach machine = either_keeps (is_begun reach machine) machine (acted machine) machine (acted_keeps machine) (λ space address is_none. is_none)

triggered_keeps : (armed : Option Injection) (machine : Machine) → Keeps machine.cells (triggered_by armed machine).cells
unfolding triggered_by
triggered_keeps None machine = λ space address is_none. is_none
triggered_keeps (Some injection) machine = value_keeps machine.cells (trigger_reach machine) 0

trigger_keeps : (reach : Reach) (machine : Machine) → Keeps machine.cells (after_trigger reach machine).cells
unfolding after_trigger
trigger_keeps reach machine =
    either_keeps (is_triggered reach machine) machine (triggered_by machine.armed machine) machine (triggered_keeps machine.armed machine)
    (λ space address is_none. is_none)

write_keeps : (reach : Reach) (value : ℕ) (machine : Machine) → Keeps machine.cells (after_write reach value machine).cells
unfolding after_write written
write_keeps reach value machine =
    then_keeps machine.cells (written reach value machine).cells _ (value_keeps machine.cells reach value)
    (then_keeps (written reach value machine).cells (after_command reach (written reach value machine)).cells _
    (command_keeps reach (written reach value machine)) (trigger_keeps reach (after_command reach (written reach value machine))))

idle_keeps : (b : Bool) (register : Register) (value : ℕ) (cells : Cells) → Keeps cells (cond b (field_set register value cells) cells)
idle_keeps true register value cells = field_keeps register value cells
idle_keeps false register value cells = λ space address is_none. is_none

read_keeps : (reach : Reach) (machine : Machine) → Keeps machine.cells (after_read reach machine).cells
unfolding after_read counted_down
read_keeps reach machine =
    either_keeps _ machine (counted_down machine) machine (idle_keeps (machine.busy - 1 == 0) machine.board.busy _ machine.cells)
    (λ space address is_none. is_none)

-- no access maps a cell
pub machine_unmapped : (before after : Machine) (access : Access) → IsMachineStep before access after → KeepsUnmapped (Some before.cells) (Some after.cells)
machine_unmapped before after (Reads reach value) step space address is_none =
    ap (λ (machine : Machine). machine.cells space address) step.1 ∙ read_keeps reach before space address is_none
machine_unmapped before after (Writes reach value) step space address is_none =
    ap (λ (machine : Machine). machine.cells space address) step ∙ write_keeps reach value before space address is_none
machine_unmapped before after (Copies address bytes) step space at is_none =
    ap (λ (machine : Machine). machine.cells space at) step.1 ∙ is_none
