-- What a ledger keeps, and what one more entry adds to it.
use Rattle.std.specs.Prelude.{ℕ, ◌+◌, Bool, List, [], ◌∷◌, ◌++◌, length, Option, Some, None}
use Rattle.cper_block.specs.declared.malformed.Malformed.{Malformed}
use Rattle.ghes_call.specs.declared.call.Call.{Call}
use Rattle.ghes_call.specs.Packet.{PacketSeen}
use Rattle.ghes_ledger.specs.declared.ledger.Taken.{Taken}
use Rattle.ghes_ledger.specs.declared.ledger.Taken.TheVariants.{Delivered, Dropped}
use Rattle.ghes_ledger.specs.declared.ledger.Reported.{Reported}
use Rattle.ghes_ledger.specs.declared.ledger.Reported.TheVariants.{New, Repeat}
use Rattle.ghes_ledger.specs.declared.ledger.Report.{Report}
use Rattle.ghes_ledger.specs.declared.ledger.PanicEntry.{PanicEntry}
use Rattle.ghes_ledger.specs.declared.ledger.InjectionEnd.{InjectionEnd}
use Rattle.ghes_ledger.specs.declared.ledger.Mark.{Mark}

-- the lists of a ledger (own choice)
pub record Kept : Type 0 where
  pub calls : List Call
  pub taken : List Taken
  pub reports : List Report
  pub panic : List PanicEntry
  pub injections : List InjectionEnd
  pub peeks : List ℕ
  pub marks : List Mark

-- a ledger of nothing (own choice)
abbrev pub nothing_kept : Kept
nothing_kept = record { calls = []; taken = []; reports = []; panic = []; injections = []; peeks = []; marks = [] }

-- how a delivery is told: as a repeat of the report that a look found, and else as the next report (own choice)
abbrev pub told_as : Option ℕ → ℕ → Reported
told_as (Some number) count = Repeat number
told_as None count = New (count + 1)

-- what becomes of a packet that is taken: it is dropped for its reason, where it has one, and else it is delivered (own choice)
abbrev pub taken_by : Option Malformed → Reported → PacketSeen → Taken
taken_by (Some reason) reported packet = Dropped packet.source packet.seq packet.bytes reason
taken_by None reported packet = Delivered packet.source packet.seq packet.bytes reported

-- what becomes of a packet by the reason that it has (own choice)
abbrev pub taken_of : Reported → PacketSeen → Taken
taken_of reported packet = taken_by packet.reason reported packet

-- the report that a taken block makes at a time: a new delivery makes one (own choice)
abbrev pub report_at : ℕ → Taken → List Report
report_at time (Delivered source seq bytes (New number)) = record { source = source; seq = seq; time = time; bytes = bytes } ∷ []
report_at time (Delivered source seq bytes (Repeat number)) = []
report_at time (Dropped source seq bytes reason) = []

-- a ledger with one more taken block at a time, and the report that it makes (own choice)
abbrev pub with_entry : ℕ → Taken → Kept → Kept
with_entry time entry kept = record kept { taken = kept.taken ++ entry ∷ []; reports = kept.reports ++ report_at time entry }

-- a ledger with one more packet that is taken at a time, where a look found this report (own choice)
abbrev pub with_taken : ℕ → Option ℕ → PacketSeen → Kept → Kept
with_taken time found packet kept = with_entry time (taken_of (told_as found (length kept.reports)) packet) kept

-- a packet in the panic list, as one that was pending or as a fatal one (own choice)
abbrev pub panic_entry : Bool → PacketSeen → PanicEntry
panic_entry fatal packet = record { source = packet.source; seq = packet.seq; bytes = packet.bytes; reason = packet.reason; fatal = fatal }

-- the mark of a line after which the ledger is this (own choice)
abbrev pub mark_of : ℕ → Kept → Mark
mark_of line kept = record { line = line; calls = length kept.calls; taken = length kept.taken }
