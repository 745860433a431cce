-- What the tables and the settings of a script say of a machine, as the laws of a ledger tell it.
use Rattle.std.specs.Prelude.{◌≤◌, ◌<◌, ℕ, zero, suc, length, slice_get, Option, Some, None, is_some}
use Rattle.std.specs.List.{AllByRecursion}
use Rattle.ghes_call.specs.Receive.{AckRuleSeen, register_of, acknowledgement}
use Rattle.ghes_ledger.specs.Plan.{Plan}
use Rattle.ghes_nmi.specs.Receive.{ack_seen}
use Rattle.ghes_lines.specs.declared.machine.Machine.{Machine}
use Rattle.ghes_lines.specs.declared.machine.Source.{Source}
use Rattle.fw_port.specs.Port.{cell_in}

-- what a source has, by its position; without a source it has nothing
abbrev pub id_of : Option Source → ℕ
id_of None = 0
id_of (Some source) = source.id

abbrev pub limit_of : Option Source → ℕ
limit_of None = 0
limit_of (Some source) = source.receive.limit

abbrev pub server_of : Option Source → ℕ
server_of None = 0
server_of (Some source) = source.server

abbrev pub rule_of : Option Source → Option AckRuleSeen
rule_of None = None
rule_of (Some source) = ack_seen source.receive.ack

abbrev pub first_cell : Option Source → ℕ
first_cell None = 0
first_cell (Some source) = cell_in (register_of (ack_seen source.receive.ack)) source.cell

-- what a read ack register holds after so many acknowledgements, told what it held at first (ACPI 6.5, 18.3.2.8)
abbrev pub cell_after : Option AckRuleSeen → ℕ → ℕ → ℕ
cell_after None cell n = cell
cell_after (Some rule) cell zero = cell
cell_after (Some rule) cell (suc n) = acknowledgement rule (cell_after (Some rule) cell n)

-- the plan of a machine; its report cache has four places
abbrev pub plan_of : Machine → Plan
plan_of machine = record {
  sources = length machine.sources.items;
  id = λ s. id_of (slice_get machine.sources.items s);
  limit = λ s. limit_of (slice_get machine.sources.items s);
  server = λ s. server_of (slice_get machine.sources.items s);
  has_ack = λ s. is_some (rule_of (slice_get machine.sources.items s));
  cell = λ s n. cell_after (rule_of (slice_get machine.sources.items s)) (first_cell (slice_get machine.sources.items s)) n;
  contexts = machine.contexts;
  slots = machine.slots;
  places = 4;
}

-- what holds of a source of a machine of so many contexts, whose blocks have at most so many bytes
pub record FitsSource (contexts block_len : ℕ) (source : Source) : Type 0 where
  pub header : 20 ≤ source.receive.limit
  pub limit : source.receive.limit ≤ block_len
  pub server : source.server < contexts

-- what holds of a machine whose blocks have at most so many bytes
pub record IsMachine (block_len : ℕ) (machine : Machine) : Type 0 where
  pub few : length machine.sources.items ≤ 65536
  pub sources : AllByRecursion (FitsSource machine.contexts block_len) machine.sources.items
