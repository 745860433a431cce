-- What each end of a call answers and leaves of the source's memory, by its reply.
use Rattle.std.specs.Prelude.{◌≡◌, ℕ, ◌+◌, Bool, true, false, if◌then◌else◌, List, slice_index, slice_set, Option}
use Rattle.apei_base.specs.Firmware.{Seen, cleared}
use Rattle.ghes_call.specs.Receive.{AckRuleSeen}
use Rattle.ghes_call.specs.Call.{Failure, BeforeCleared, Saw, acknowledges, ack_of, acknowledged_by}
use Rattle.ghes_call.specs.declared.call.AckState.{AckState}
use Rattle.ghes_call.specs.declared.call.AckState.TheVariants.{NotAsked}
use Rattle.ghes_call.specs.declared.call.Outcome.{Outcome}
use Rattle.ghes_call.specs.declared.call.Outcome.TheVariants.{Nothing, Queued, Malformed, Duplicate, Fatal, NoSlot, Fault, Stopped}
use Rattle.ghes_call.specs.declared.call.Reply.{Reply}
use Rattle.ghes_nmi.specs.Steps.{failure_of, CountsAck}

-- a call answered that the panic word was set
abbrev pub is_stopped : Outcome → Bool
is_stopped Stopped = true
is_stopped Nothing = false
is_stopped (Queued number) = false
is_stopped (Malformed number reason) = false
is_stopped (Duplicate number report) = false
is_stopped (Fatal number) = false
is_stopped NoSlot = false
is_stopped Fault = false

-- a call answered that each slot was taken
abbrev pub is_no_slot : Outcome → Bool
is_no_slot NoSlot = true
is_no_slot Nothing = false
is_no_slot (Queued number) = false
is_no_slot (Malformed number reason) = false
is_no_slot (Duplicate number report) = false
is_no_slot (Fatal number) = false
is_no_slot Fault = false
is_no_slot Stopped = false

-- where an access of a call failed, by what it answered (own choice)
abbrev pub failure_by : Outcome → AckState → Failure
failure_by Fault ack = BeforeCleared
failure_by Nothing ack = failure_of ack
failure_by (Queued number) ack = failure_of ack
failure_by (Malformed number reason) ack = failure_of ack
failure_by (Duplicate number report) ack = failure_of ack
failure_by (Fatal number) ack = failure_of ack
failure_by NoSlot ack = failure_of ack
failure_by Stopped ack = failure_of ack

-- what a call answers that is to answer this, but that the clear may fail
abbrev pub or_fault : Outcome → Outcome → Outcome
or_fault Fault wanted = Fault
or_fault Nothing wanted = wanted
or_fault (Queued number) wanted = wanted
or_fault (Malformed number reason) wanted = wanted
or_fault (Duplicate number report) wanted = wanted
or_fault (Fatal number) wanted = wanted
or_fault NoSlot wanted = wanted
or_fault Stopped wanted = wanted

-- what a reply leaves of the memory: a block that it acknowledged is cleared, and then the register acknowledged
abbrev pub left_by : Option AckRuleSeen → Reply → Seen → Seen
left_by rule reply port =
    if acknowledges reply.outcome then acknowledged_by rule (failure_by reply.outcome reply.ack) (cleared port) else port

-- the state of the acknowledgement by where an access failed
abbrev pub ack_by : Option AckRuleSeen → Reply → AckState
ack_by rule reply = if acknowledges reply.outcome then ack_of rule (failure_by reply.outcome reply.ack) else NotAsked

-- the count of failed accesses rose exactly where the reply says that an access failed, and then by one
abbrev pub CountsCall : Outcome → AckState → ℕ → ℕ → Type 0
CountsCall Fault ack before after = after ≡ before + 1
CountsCall Nothing ack before after = CountsAck ack before after
CountsCall (Queued number) ack before after = CountsAck ack before after
CountsCall (Malformed number reason) ack before after = CountsAck ack before after
CountsCall (Duplicate number report) ack before after = CountsAck ack before after
CountsCall (Fatal number) ack before after = CountsAck ack before after
CountsCall NoSlot ack before after = CountsAck ack before after
CountsCall Stopped ack before after = CountsAck ack before after

-- what a call saw, by what it answered (own choice)
abbrev pub saw_by : Seen → Option ℕ → Reply → Saw
saw_by port hit reply = record {
  panic = is_stopped reply.outcome;
  port = port;
  hit = hit;
  full = is_no_slot reply.outcome;
  failed = failure_by reply.outcome reply.ack;
}

-- how many blocks of each source are acknowledged behind a call
abbrev pub counted : Outcome → ℕ → List ℕ → List ℕ
counted outcome source before =
    if acknowledges outcome then slice_set before source (slice_index before source + 1) else before
