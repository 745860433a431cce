-- What one call of the receive path is: by what it saw, what it answers and what it leaves of the source's memory.
use Rattle.std.specs.Prelude.{◌≡◌, ℕ, Bool, true, false, if◌then◌else◌, List, Option, Some, None}
use Rattle.apei_base.specs.Firmware.{Seen, standing, standing_number, cleared, ack_written}
use Rattle.cper_block.specs.Image.{image_of, image_reason, is_fatal}
use Rattle.cper_block.specs.declared.malformed.Malformed.{Malformed as Reason}
use Rattle.ghes_call.specs.Receive.{AckRuleSeen, ReceiveSeen, acknowledgement}
use Rattle.ghes_call.specs.declared.call.AckState.{AckState}
use Rattle.ghes_call.specs.declared.call.AckState.TheVariants.{NotAsked, Done, Failed}
use Rattle.ghes_call.specs.declared.call.Outcome.{Outcome}
use Rattle.ghes_call.specs.declared.call.Outcome.TheVariants.{Nothing, Queued, Malformed, Duplicate, Fatal, NoSlot, Fault, Stopped}

-- where an access of a call failed: nowhere, at or before the clear, or behind it (own choice)
pub data Failure : Type 0 where
  Nowhere : Failure
  BeforeCleared : Failure
  BehindCleared : Failure

-- What a call saw: whether it loaded the panic word as set, what the source's memory meant before it, the report that the
-- list of reports which it saw hits, whether it saw each slot taken, and where an access failed (own choice).
pub record Saw : Type 0 where
  pub panic : Bool
  pub port : Seen
  pub hit : Option ℕ
  pub full : Bool
  pub failed : Failure

-- an access failed at or before the clear
abbrev pub failed_before : Failure → Bool
failed_before Nowhere = false
failed_before BeforeCleared = true
failed_before BehindCleared = false

-- The outcome of a well-formed image that is not fatal, which a look at the reports and the slots decide (own choice).
abbrev pub outcome_of_news : ℕ → Option ℕ → Bool → Outcome
outcome_of_news number (Some report) full = Duplicate number report
outcome_of_news number None true = NoSlot
outcome_of_news number None false = Queued number

-- the outcome of a standing block, by the reason of its image and whether that is fatal (own choice)
abbrev pub outcome_of_image : ℕ → Option Reason → Bool → Option ℕ → Bool → Outcome
outcome_of_image number (Some reason) fatal hit true = NoSlot
outcome_of_image number (Some reason) fatal hit false = Malformed number reason
outcome_of_image number None true hit full = Fatal number
outcome_of_image number None false hit full = outcome_of_news number hit full

-- the outcome by the block that stands under a limit
abbrev pub outcome_of_block : ℕ → ℕ → Option (List ℕ) → Option ℕ → Bool → Outcome
outcome_of_block limit number None hit full = Nothing
outcome_of_block limit number (Some block) hit full =
    outcome_of_image number (image_reason limit block) (is_fatal (image_of limit block)) hit full

-- What a call answers: the first of these that holds. The panic word was seen set; an access failed at or before the
-- clear; no block stands; its image is fatal; a report has the same bytes; no slot is free; it is malformed; it is queued
-- (after Linux 6.1, drivers/acpi/apei/ghes.c; the order: own choice).
abbrev pub outcome_of : ℕ → Saw → Outcome
outcome_of limit saw =
    if saw.panic then Stopped
    else if failed_before saw.failed then Fault
    else outcome_of_block limit (standing_number saw.port) (standing saw.port) saw.hit saw.full

-- whether an outcome acknowledges a block
abbrev pub acknowledges : Outcome → Bool
acknowledges Nothing = false
acknowledges (Queued number) = true
acknowledges (Malformed number reason) = true
acknowledges (Duplicate number report) = true
acknowledges (Fatal number) = true
acknowledges NoSlot = false
acknowledges Fault = false
acknowledges Stopped = false

-- what became of the acknowledgement of a cleared block: it is asked for with a rule, and failed where an access behind
-- the clear failed
abbrev pub ack_of : Option AckRuleSeen → Failure → AckState
ack_of None failed = NotAsked
ack_of (Some rule) Nowhere = Done
ack_of (Some rule) BeforeCleared = Done
ack_of (Some rule) BehindCleared = Failed

-- what the register was left with behind a clear: acknowledged, or as the clear left it
abbrev pub acknowledged_by : Option AckRuleSeen → Failure → Seen → Seen
acknowledged_by None failed port = port
acknowledged_by (Some rule) Nowhere port = ack_written (acknowledgement rule port.cell) port
acknowledged_by (Some rule) BeforeCleared port = ack_written (acknowledgement rule port.cell) port
acknowledged_by (Some rule) BehindCleared port = port

-- What a call leaves of the memory: a block that it acknowledged is cleared, and then the register acknowledged; without
-- one everything is as it was (ACPI 6.5, 18.3.2.8).
abbrev pub port_after : ReceiveSeen → Saw → Seen
port_after receive saw =
    if acknowledges (outcome_of receive.limit saw) then acknowledged_by receive.ack saw.failed (cleared saw.port) else saw.port

abbrev pub ack_after : ReceiveSeen → Saw → AckState
ack_after receive saw =
    if acknowledges (outcome_of receive.limit saw) then ack_of receive.ack saw.failed else NotAsked

-- One call on a source, by what it saw: its outcome, the state of the acknowledgement, and the memory behind it.
pub record IsCall (receive : ReceiveSeen) (saw : Saw) (outcome : Outcome) (ack : AckState) (after : Seen) : Type 0 where
  pub answers : outcome ≡ outcome_of receive.limit saw
  pub acknowledged : ack ≡ ack_after receive saw
  pub leaves : after ≡ port_after receive saw
