-- What a call answers says of the block that stands, of the slots, and of the laws of a call.
use Rattle.std.proofs.Common.{◌≡◌, ◌≤◌, ℕ, ◌+◌, Bool, true, false, cond, ◌&&◌, ◌⊎◌, inl, inr, List, ◌∷◌, length, refl, sym, ap, subst, ◌∙◌, arith, Option, Some, None}
use Rattle.std.specs.Prelude.{is_some, slice_get, if◌then◌else◌}
use Rattle.std.specs.List.{AllByRecursion}
use Rattle.apei_base.specs.Firmware.{Seen, standing as stands_in}
use Rattle.cper_block.specs.Image.{image_of, image_reason, is_fatal}
use Rattle.cper_block.specs.declared.malformed.Malformed.{Malformed as Reason}
use Rattle.ghes_call.specs.Call.{failed_before, ack_of, outcome_of, outcome_of_image, outcome_of_block}
use Rattle.ghes_call.specs.Receive.{AckRuleSeen, ReceiveSeen}
use Rattle.ghes_call.specs.declared.call.AckState.{AckState}
use Rattle.ghes_call.specs.declared.call.AckState.TheVariants.{NotAsked, Done, Failed}
use Rattle.ghes_call.specs.declared.call.Outcome.{Outcome}
use Rattle.ghes_call.specs.declared.call.Outcome.TheVariants.{Nothing, Queued, Malformed, Duplicate, Fatal, NoSlot, Fault, Stopped}
use Rattle.ghes_ledger.specs.History.{Executed, calls_in, taken_in}
use Rattle.ghes_ledger.specs.Lawful.{IsAsked, FitsBlock, FitsSlots, FitsStop, FitsHit, FitsLook}
use Rattle.ghes_ledger.specs.Names.{queued_names}
use Rattle.ghes_ledger.specs.Outcomes.{number_of, acknowledges}
use Rattle.ghes_ledger.specs.Plan.{Plan}
use Rattle.ghes_ledger.specs.Queue.{queue, acknowledged, standing}
use Rattle.ghes_ledger.specs.Reports.{hit}
use Rattle.ghes_ledger.specs.declared.ledger.Report.{Report}
use Rattle.ghes_nmi.specs.Steps.{failure_of}
use Rattle.ghes_desk.specs.Call.{ack_by, saw_by}
use Rattle.ghes_lines.specs.Follows.{IsTied}
use Rattle.ghes_call.specs.declared.call.Call.{Call}

-- the block that stands by the history is the one that stands in the memory
pub standing_is : (plan : Plan) (receive : ReceiveSeen) (s : ℕ) (before : List Executed) (past : List Call) (fails : ℕ) (port : Seen) (faults : ℕ) → IsTied plan receive s (queue s before) past fails port faults → standing s before past ≡ stands_in port
standing_is plan receive s before past fails port faults t =
    ap (λ b. cond b None (slice_get (queue s before) (acknowledged s past))) (sym t.waits_is)
    ∙ ap (λ n. cond port.waits None (slice_get (queue s before) n)) (sym t.acknowledged_is)
    ∙ ap (λ xs. cond port.waits None (slice_get xs port.acknowledged)) (sym t.made_is)

-- where a block stands, nothing is awaited, and it is the next of its source
pub stands_idle : (waits : Bool) (got : Option (List ℕ)) (block : List ℕ) → cond waits None got ≡ Some block → (waits ≡ false) × (got ≡ Some block)
stands_idle true got block is = absurd cc
stands_idle false got block is = (refl, is)

-- an acknowledgement never failed before the clear
not_before : (ack : AckState) → failed_before (failure_of ack) ≡ false
not_before NotAsked = refl
not_before Done = refl
not_before Failed = refl

-- an access failed, or the outcome is that of the block that stands
module _ (limit : ℕ) (port : Seen) (found : Option ℕ) (full : Bool) (ack : AckState) where
  abbrev clean : Outcome
  clean = outcome_of_block limit (port.acknowledged + 1) (stands_in port) found full

  not_failed : (outcome : Outcome) → outcome ≡ (if failed_before (failure_of ack) then Fault else clean) → (outcome ≡ Fault) ⊎ (outcome ≡ clean)
  not_failed outcome is = inr (is ∙ ap (λ b. if b then Fault else clean) (not_before ack))

  pub fault_or : (outcome : Outcome) → outcome ≡ outcome_of limit (saw_by port found full record { outcome = outcome; ack = ack }) → (outcome ≡ Fault) ⊎ (outcome ≡ clean)
  fault_or Nothing is = not_failed Nothing is
  fault_or (Queued n) is = not_failed (Queued n) is
  fault_or (Malformed n reason) is = not_failed (Malformed n reason) is
  fault_or (Duplicate n report) is = not_failed (Duplicate n report) is
  fault_or (Fatal n) is = not_failed (Fatal n) is
  fault_or NoSlot is = not_failed NoSlot is
  fault_or Fault is = inl refl
  fault_or Stopped is = not_failed Stopped is

-- an outcome is for the block of this number, or for none
abbrev pub IsFor : ℕ → Outcome → Type 0
IsFor number (Queued n) = n ≡ number
IsFor number (Malformed n reason) = n ≡ number
IsFor number (Duplicate n report) = n ≡ number
IsFor number (Fatal n) = n ≡ number
IsFor number _ = Unit {0}

-- a slot is free where an outcome takes one
abbrev pub IsFree : Bool → Outcome → Type 0
IsFree full (Queued n) = full ≡ false
IsFree full (Malformed n reason) = full ≡ false
IsFree full _ = Unit {0}

-- each slot is taken
abbrev SlotsAreTaken : Plan → List Executed → Executed → Type 0
SlotsAreTaken plan before line = plan.slots + length (taken_in before) ≤ length (queued_names (calls_in (line ∷ before)))

-- what an outcome says
pub record Says (plan : Plan) (before : List Executed) (line : Executed) (limit n bound : ℕ) (full : Bool) (stands : Option (List ℕ)) (outcome : Outcome) : Type 0 where
  pub for : IsFor n outcome
  pub free : IsFree full outcome
  pub made : AllByRecursion (λ number. number ≤ bound) (number_of outcome)
  pub block : FitsBlock limit stands outcome
  pub slots : FitsSlots plan before line outcome
  pub stop : FitsStop line outcome

module _ (plan : Plan) (before : List Executed) (line : Executed) (limit n bound : ℕ) (stands : Option (List ℕ)) where
  says_image : (block : List ℕ) (reason : Option Reason) (fatal : Bool) (found : Option ℕ) (full : Bool) → stands ≡ Some block → image_reason limit block ≡ reason → is_fatal (image_of limit block) ≡ fatal → n ≤ bound → (full ≡ true → SlotsAreTaken plan before line) → Says plan before line limit n bound full stands (outcome_of_image n reason fatal found full)
  says_image block (Some reason) fatal found true is why severe within many = record {
    for = tt;
    free = tt;
    made = tt;
    block = (block, is, λ none. let never : Some reason ≡ None = sym why ∙ none in absurd cc);
    slots = omega (arith, many refl);
    stop = tt;
  }
  says_image block (Some reason) fatal found false is why severe within many = record { for = refl; free = refl; made = (within, tt); block = (block, is, why); slots = tt; stop = tt }
  says_image block None true found full is why severe within many = record { for = refl; free = tt; made = (within, tt); block = (block, is, (why, severe)); slots = tt; stop = tt }
  says_image block None false (Some report) full is why severe within many = record { for = refl; free = tt; made = (within, tt); block = (block, is, (why, severe)); slots = tt; stop = tt }
  says_image block None false None true is why severe within many = record { for = tt; free = tt; made = tt; block = (block, is, λ none. severe); slots = omega (arith, many refl); stop = tt }
  says_image block None false None false is why severe within many = record { for = refl; free = refl; made = (within, tt); block = (block, is, (why, severe)); slots = tt; stop = tt }

  says_nothing : (full : Bool) → stands ≡ None → Says plan before line limit n bound full stands Nothing
  says_nothing full none = record { for = tt; free = tt; made = tt; block = ap is_some none; slots = tt; stop = tt }

  says_fault : (full : Bool) → Says plan before line limit n bound full stands Fault
  says_fault full = record { for = tt; free = tt; made = tt; block = tt; slots = tt; stop = tt }

  -- by the block that stands
  says_block : (got : Option (List ℕ)) (found : Option ℕ) (full : Bool) → stands ≡ got → ((block : List ℕ) → got ≡ Some block → n ≤ bound) → (full ≡ true → SlotsAreTaken plan before line) → Says plan before line limit n bound full stands (outcome_of_block limit n got found full)
  says_block None found full is within many = says_nothing full is
  says_block (Some block) found full is within many = says_image block (image_reason limit block) (is_fatal (image_of limit block)) found full is refl refl (within block refl) many

  -- by what the call saw
  pub says_call : (got : Option (List ℕ)) (found : Option ℕ) (full : Bool) (outcome : Outcome) → stands ≡ got → ((block : List ℕ) → got ≡ Some block → n ≤ bound) → (full ≡ true → SlotsAreTaken plan before line) → (outcome ≡ Fault) ⊎ (outcome ≡ outcome_of_block limit n got found full) → Says plan before line limit n bound full stands outcome
  says_call got found full outcome is within many which = elim which [
    | inl fault ↦ subst (λ o. Says plan before line limit n bound full stands o) (sym fault) (says_fault full)
    | inr block ↦ subst (λ o. Says plan before line limit n bound full stands o) (sym block) (says_block got found full is within many)
  ]

-- what a look at the reports says of an outcome
fits_hit : (reason : Option Reason) (fatal : Bool) (found : Option ℕ) (full : Bool) (n : ℕ) → FitsHit reason found (outcome_of_image n reason fatal found full)
fits_hit (Some reason) fatal found true n = tt
fits_hit (Some reason) fatal found false n = tt
fits_hit None true found full n = tt
fits_hit None false (Some report) full n = refl
fits_hit None false None true n = refl
fits_hit None false None false n = refl

look_block : (k limit n now : ℕ) (reports : List Report) (got : Option (List ℕ)) (full : Bool) (found : Option ℕ) → ((block : List ℕ) → got ≡ Some block → found ≡ hit k reports (image_of limit block) now) → FitsLook k limit got reports now (outcome_of_block limit n got found full)
look_block k limit n now reports None full found is = tt
look_block k limit n now reports (Some block) full found is =
    subst (λ (f : Option ℕ). FitsHit (image_reason limit block) f (outcome_of_image n (image_reason limit block) (is_fatal (image_of limit block)) found full)) (is block refl)
    (fits_hit (image_reason limit block) (is_fatal (image_of limit block)) found full n)

look_fault : (k limit now : ℕ) (reports : List Report) (stands : Option (List ℕ)) → FitsLook k limit stands reports now Fault
look_fault k limit now reports None = tt
look_fault k limit now reports (Some block) = fault_hits (image_reason limit block) (hit k reports (image_of limit block) now) where
  fault_hits : (reason : Option Reason) (found : Option ℕ) → FitsHit reason found Fault
  fault_hits None found = tt
  fault_hits (Some reason) found = tt

pub look_call : (k limit n now : ℕ) (reports : List Report) (stands got : Option (List ℕ)) (found : Option ℕ) (full : Bool) (outcome : Outcome) → stands ≡ got → ((block : List ℕ) → got ≡ Some block → found ≡ hit k reports (image_of limit block) now) → (outcome ≡ Fault) ⊎ (outcome ≡ outcome_of_block limit n got found full) → FitsLook k limit stands reports now outcome
look_call k limit n now reports stands got found full outcome is hits which = elim which [
  | inl fault ↦ subst (λ o. FitsLook k limit stands reports now o) (sym fault) (look_fault k limit now reports stands)
  | inr block ↦ subst (λ o. FitsLook k limit stands reports now o) (sym block) (subst (λ st. FitsLook k limit st reports now (outcome_of_block limit n got found full)) (sym is) (look_block k limit n now reports got full found hits))
]

-- the register is asked exactly where a block was acknowledged and there is one
asked_ack : (rule : Option AckRuleSeen) (ack : AckState) → ack ≡ ack_of rule (failure_of ack) → IsAsked (is_some rule) ack
asked_ack None ack is = is
asked_ack (Some rule) NotAsked is = absurd cc
asked_ack (Some rule) Done is = λ none. absurd cc
asked_ack (Some rule) Failed is = λ none. absurd cc

pub asked_is : (rule : Option AckRuleSeen) (outcome : Outcome) (ack : AckState) → ack ≡ ack_by rule (record { outcome = outcome; ack = ack }) → IsAsked (acknowledges outcome && is_some rule) ack
asked_is rule Nothing ack is = is
asked_is rule (Queued n) ack is = asked_ack rule ack is
asked_is rule (Malformed n reason) ack is = asked_ack rule ack is
asked_is rule (Duplicate n report) ack is = asked_ack rule ack is
asked_is rule (Fatal n) ack is = asked_ack rule ack is
asked_is rule NoSlot ack is = is
asked_is rule Fault ack is = is
asked_is rule Stopped ack is = is
