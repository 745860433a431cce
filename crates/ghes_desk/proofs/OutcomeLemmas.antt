-- The outcome of a call that found a block is the one that the table of outcomes gives.
use Rattle.std.proofs.Common.{◌≡◌, ◌∙◌, ℕ, Bool, true, false, List, [], sym, ap, refl, Option, Some, None, unwrap_or}
use Rattle.std.specs.Prelude.{is_some, IsTrue, if◌then◌else◌, Result, Ok, Err, IfOk}
use Rattle.std.proofs.lemmas.Bool.{false≢true}
use Rattle.apei_base.specs.Firmware.{Seen, standing, standing_number}
use Rattle.cper_block.specs.Image.{image_of, image_reason, is_fatal}
use Rattle.cper_block.specs.declared.malformed.Malformed.{Malformed as Reason}
use Rattle.ghes_call.specs.Call.{failed_before, outcome_of, outcome_of_image, outcome_of_block}
use Rattle.ghes_call.specs.declared.call.AckState.{AckState}
use Rattle.ghes_call.specs.declared.call.AckState.TheVariants.{NotAsked, Done, Failed}
use Rattle.ghes_call.specs.declared.call.Outcome.{Outcome}
use Rattle.ghes_call.specs.declared.call.Outcome.TheVariants.{Nothing, Queued, Malformed, Duplicate, Fatal, NoSlot, Fault, Stopped}
use Rattle.ghes_nmi.specs.Steps.{says, failure_of}
use Rattle.ghes_desk.specs.Call.{or_fault, saw_by}
use Rattle.ghes_desk.specs.Found.{standing_says, outcome_said}

-- what holds of the value of a call, and what follows of it
pub ok_more : {T E : Type 0} (P Q : T → Type 0) (result : Result T E) → ((value : T) → P value → Q value) → IfOk result P → IfOk result Q
ok_more P Q (Ok value) more holds = more value holds
ok_more P Q (Err error) more holds = holds

-- what an image says leads to the outcome of its reason and severity
said_is_image : (number : ℕ) (reason : Option Reason) (fatal : Bool) (hit : Option ℕ) (full : Bool) → outcome_said number (says reason fatal) hit full ≡ outcome_of_image number reason fatal hit full
said_is_image number (Some reason) fatal hit true = refl
said_is_image number (Some reason) fatal hit false = refl
said_is_image number None true hit full = refl
said_is_image number None false hit full = refl

-- and so for a block that stands
block_is : (limit number : ℕ) (stands : Option (List ℕ)) (hit : Option ℕ) (full : Bool) → IsTrue (is_some stands) → outcome_said number (says (image_reason limit (unwrap_or stands [])) (is_fatal (image_of limit (unwrap_or stands [])))) hit full ≡ outcome_of_block limit number stands hit full
block_is limit number None hit full stands = absurd (false≢true stands)
block_is limit number (Some block) hit full stands = said_is_image number (image_reason limit block) (is_fatal (image_of limit block)) hit full

-- an acknowledgement never failed before the clear
not_before : (ack : AckState) → failed_before (failure_of ack) ≡ false
not_before NotAsked = refl
not_before Done = refl
not_before Failed = refl

module _ (limit : ℕ) (port : Seen) (hit : Option ℕ) (full : Bool) (ack : AckState) (stands : IsTrue (is_some (standing port))) where
  by_block : (outcome : Outcome) → outcome ≡ outcome_said (standing_number port) (standing_says limit port) hit full → outcome ≡ (if failed_before (failure_of ack) then Fault else outcome_of_block limit (standing_number port) (standing port) hit full)
  by_block outcome is =
      is ∙ block_is limit (standing_number port) (standing port) hit full stands
      ∙ sym (ap (λ b. if b then Fault else outcome_of_block limit (standing_number port) (standing port) hit full) (not_before ack))

  pub found_outcome : (outcome : Outcome) → outcome ≡ or_fault outcome (outcome_said (standing_number port) (standing_says limit port) hit full) → outcome ≡ outcome_of limit (saw_by port hit full record { outcome = outcome; ack = ack })
  found_outcome Nothing is = by_block Nothing is
  found_outcome (Queued number) is = by_block (Queued number) is
  found_outcome (Malformed number reason) is = by_block (Malformed number reason) is
  found_outcome (Duplicate number report) is = by_block (Duplicate number report) is
  found_outcome (Fatal number) is = by_block (Fatal number) is
  found_outcome NoSlot is = by_block NoSlot is
  found_outcome Fault is = refl
  found_outcome Stopped is = by_block Stopped is
