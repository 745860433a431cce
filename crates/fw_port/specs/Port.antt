-- A port of one error source, as callers see it.
use Rattle.std.specs.Prelude.{◌≡◌, ◌≤◌, ◌%◌, Option, Some, None, ℕ, ◌+◌, ◌^◌, Bool, false, ◌&&◌, nat_lt, if◌then◌else◌, List, [], ◌∷◌, ◌++◌, length, option_map}
use Rattle.fault_plan.specs.Plan.{Calls, no_calls, with_failing, with_call, fails_next, one_if}
use Rattle.apei_base.specs.Bus.{Reach, reach_of}
use Rattle.apei_base.specs.Firmware.{Layout, Seen}
use Rattle.fw_port.specs.declared.layout.SourceLayout.{SourceLayout}
use Rattle.fw_port.specs.declared.memory.SourceMemory.{SourceMemory}
use Rattle.fw_port.specs.declared.port.SourcePort.{SourcePort}

-- where a source stands (own choice)
abbrev pub layout_of : SourceLayout → Layout
layout_of layout = record {
  status = reach_of layout.status;
  area = layout.area;
  room = layout.room;
  ack = option_map reach_of layout.ack;
}

-- what firmware and receiver did to the memory of a source, of which no access is to fail (own choice)
abbrev pub seen_of : SourceMemory → Seen
seen_of m = record {
  layout = layout_of m.layout;
  cell = m.cell;
  made = m.made.items;
  acknowledged = m.acknowledged;
  waits = m.waits;
  planned = 0;
}

-- the numbered accesses (own choice)
abbrev pub accesses_of : SourcePort → Calls
accesses_of port = port.attempts.plan

-- how many accesses failed (own choice)
abbrev pub faults_of : SourcePort → ℕ
faults_of port = port.attempts.faults

-- what the port means: its memory, and as many accesses at most are to fail as were named (own choice)
abbrev pub seen : SourcePort → Seen
seen port = record (seen_of port.memory) { planned = length port.attempts.plan.failing }

-- a source that nothing has happened to (own choice)
abbrev pub unused : Layout → Seen
unused layout = record { layout = layout; cell = 0; made = []; acknowledged = 0; waits = false; planned = 0 }

-- the source after firmware raised one more block, the last of its list (own choice)
abbrev pub raised : List ℕ → Seen → Seen
raised block seen = record seen { made = seen.made ++ block ∷ [] }

-- the low bits of a value, as many as a register is wide; 0 where there is none (own choice)
abbrev pub cell_in : Option Reach → ℕ → ℕ
cell_in None value = 0
cell_in (Some register) value = value % 2 ^ register.width

-- the source where the read ack register holds the low bits of another value (own choice)
abbrev pub with_cell : ℕ → Seen → Seen
with_cell value seen = record seen { cell = cell_in seen.layout.ack value }

-- what a read ack register holds, if there is one (own choice)
abbrev pub cell_of : Option Reach → ℕ → Option ℕ
cell_of None cell = None
cell_of (Some register) cell = Some cell

-- The accesses where the n-th from here on is named to fail as well: one that was named already is not named twice, and
-- there is no access 0, nor one past number 2 ^ 64 - 1 (own choice).
abbrev pub with_named : ℕ → Calls → Calls
with_named n calls = if nat_lt 0 n && nat_lt (calls.made + n) (2 ^ 64) then with_failing (calls.made + n) calls else calls

-- One access, which failed or not: it is counted, and fails exactly where its number was named; that raises the count of
-- faults by one (own choice).
pub record IsCounted (old new : SourcePort) (failed : Bool) : Type 0 where
  pub counted : accesses_of new ≡ with_call (accesses_of old)
  pub planned : failed ≡ fails_next (accesses_of old)
  pub raised : faults_of new ≡ faults_of old + one_if failed

-- nothing was raised and no access was made yet (own choice)
pub record IsUnused (port : SourcePort) (layout : Layout) : Type 0 where
  pub seen : seen port ≡ unused layout
  pub accesses : accesses_of port ≡ no_calls []
  pub faults : faults_of port ≡ 0

-- no access was made, failed or named (own choice)
pub record KeepsAccesses (old new : SourcePort) : Type 0 where
  pub accesses : accesses_of new ≡ accesses_of old
  pub faults : faults_of new ≡ faults_of old

-- all is the same but which accesses are to fail, and at most one more is (own choice)
pub record IsOtherwiseSame (old new : SourcePort) : Type 0 where
  pub otherwise : seen new ≡ record (seen old) { planned = length (accesses_of new).failing }
  pub more : (seen new).planned ≤ (seen old).planned + 1
  pub faults : faults_of new ≡ faults_of old
