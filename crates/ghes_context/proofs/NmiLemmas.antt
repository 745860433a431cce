-- What a call answered and left is a call by what it saw.
use Rattle.std.proofs.Common.{◌≡◌, ◌∙◌, ⊎_elim, ℕ, ◌+◌, ◌≤◌, true, List, [], ◌∷◌, ◌++◌, length, length-append, arith, sym, ap, refl, subst, Some}
use Rattle.std.specs.Prelude.{if◌then◌else◌, IfSome, slice_get}
use Rattle.std.proofs.lemmas.Bool.{false≢true}
use Rattle.apei_base.specs.Firmware.{Seen, cleared}
use Rattle.ghes_call.specs.Call.{acknowledges, ack_of, acknowledged_by, outcome_of}
use Rattle.ghes_call.specs.declared.call.AckState.{AckState}
use Rattle.ghes_call.specs.declared.call.AckState.TheVariants.{NotAsked, Done, Failed}
use Rattle.ghes_call.specs.declared.call.Outcome.{Outcome}
use Rattle.ghes_call.specs.declared.call.Outcome.TheVariants.{Nothing, Queued, Malformed, Duplicate, Fatal, NoSlot, Fault, Stopped}
use Rattle.ghes_call.specs.declared.call.Reply.{Reply}
use Rattle.ghes_rule.specs.declared.views.PacketView.{PacketView}
use Rattle.ghes_rule.specs.declared.views.PassView.{PassView}
use Rattle.ghes_rule.specs.Finds.{after_finds}
use Rattle.ghes_rule.specs.Kept.{turn}
use Rattle.ghes_rule.specs.Moves.{with_load, with_claim}
use Rattle.ghes_throttle.specs.Reports.{hit}
use Rattle.ghes_throttle.specs.Shown.{Known}
use Rattle.ghes_nmi.specs.Receive.{ack_seen}
use Rattle.ghes_nmi.specs.Steps.{CountsAck, failure_of}
use Rattle.ghes_nmi.specs.declared.receive.Receive.{Receive}
use Rattle.ghes_context.specs.Context.{ContextSeen}
use Rattle.ghes_context.specs.Ends.{is_stopped, is_no_slot, failure_by, left_by, ack_by, CountsCall, saw_by}
use Rattle.ghes_context.specs.Found.{standing_image}
use Rattle.ghes_context.specs.Nmi.{CountsFailure, IsNmi}
use Rattle.ghes_context.specs.Told.{HasClaimed, HasFoundAll, HasTold, slot_spent, standing_packet}

-- behind its load a call loads the panic word no more
told_loads : (k : ℕ) (packet : PacketView) (v v' : PassView) (outcome : Outcome) → HasTold k packet v v' outcome → v'.loads ≡ v.loads
told_loads k packet v v' Nothing is = ap (λ (z : PassView). z.loads) is
told_loads k packet v v' Stopped is = ap (λ (z : PassView). z.loads) is
told_loads k packet v v' (Duplicate number report) is = ap (λ (z : PassView). z.loads) is
told_loads k packet v v' (Queued number) is = ap (λ (z : PassView). z.loads) is.view
told_loads k packet v v' (Malformed number reason) is = ap (λ (z : PassView). z.loads) is.view
told_loads k packet v v' (Fatal number) is = ap (λ (z : PassView). z.loads) is
told_loads k packet v v' NoSlot is = ap (λ (z : PassView). z.loads) is.view
told_loads k packet v v' Fault is = ⊎_elim (λ same. ap (λ (z : PassView). z.loads) same) (λ claimed. ap (λ (z : PassView). z.loads) claimed.view) is

-- a call that answered that there is no slot looked at each
told_full : (k : ℕ) (packet : PacketView) (v v' : PassView) (outcome : Outcome) → HasTold k packet v v' outcome → is_no_slot outcome ≡ true → HasFoundAll k v v'
told_full k packet v v' Nothing is full = absurd (false≢true full)
told_full k packet v v' Stopped is full = absurd (false≢true full)
told_full k packet v v' (Duplicate number report) is full = absurd (false≢true full)
told_full k packet v v' (Queued number) is full = absurd (false≢true full)
told_full k packet v v' (Malformed number reason) is full = absurd (false≢true full)
told_full k packet v v' (Fatal number) is full = absurd (false≢true full)
told_full k packet v v' NoSlot is full = is
told_full k packet v v' Fault is full = absurd (false≢true full)

-- a claim of a slot adds one claim, and nothing else adds any
slot_claims : (outcome : Outcome) (slot turn : ℕ) (packet : PacketView) (v : PassView) → (slot_spent outcome slot turn packet v).claims ≡ v.claims
slot_claims Nothing slot turn packet v = refl
slot_claims Stopped slot turn packet v = refl
slot_claims (Duplicate number report) slot turn packet v = refl
slot_claims (Queued number) slot turn packet v = refl
slot_claims (Malformed number reason) slot turn packet v = refl
slot_claims (Fatal number) slot turn packet v = refl
slot_claims NoSlot slot turn packet v = refl
slot_claims Fault slot turn packet v = refl

claimed_one : (k : ℕ) (packet : PacketView) (v v' : PassView) (outcome : Outcome) → HasClaimed k packet v v' outcome → length v'.claims ≤ length v.claims + 1
claimed_one k packet v v' outcome is =
    let claims : v'.claims ≡ v.claims ++ turn is.slot is.turn ∷ [] = ap (λ (z : PassView). z.claims) is.view ∙ slot_claims outcome is.slot is.turn packet (with_claim (after_finds v is.slot is.finds) is.slot is.turn) in
    let one : length v'.claims ≡ length v.claims + 1 = ap length claims ∙ length-append v.claims (turn is.slot is.turn ∷ []) in
    omega (arith, one)

same_claims : (v v' : PassView) → v'.claims ≡ v.claims → length v'.claims ≤ length v.claims + 1
same_claims v v' is = let same : length v'.claims ≡ length v.claims = ap length is in omega (arith, same)

pub told_claims : (k : ℕ) (packet : PacketView) (v v' : PassView) (outcome : Outcome) → HasTold k packet v v' outcome → length v'.claims ≤ length v.claims + 1
told_claims k packet v v' Nothing is = same_claims v v' (ap (λ (z : PassView). z.claims) is)
told_claims k packet v v' Stopped is = same_claims v v' (ap (λ (z : PassView). z.claims) is)
told_claims k packet v v' (Duplicate number report) is = same_claims v v' (ap (λ (z : PassView). z.claims) is)
told_claims k packet v v' (Queued number) is = claimed_one k packet v v' (Queued number) is
told_claims k packet v v' (Malformed number reason) is = claimed_one k packet v v' (Malformed number reason) is
told_claims k packet v v' (Fatal number) is = same_claims v v' (ap (λ (z : PassView). z.claims) is)
told_claims k packet v v' NoSlot is = same_claims v v' (ap (λ (z : PassView). z.claims) is.view)
told_claims k packet v v' Fault is = ⊎_elim (λ same. same_claims v v' (ap (λ (z : PassView). z.claims) same)) (λ claimed. claimed_one k packet v v' Fault claimed) is

-- the count rose where the acknowledgement failed
ack_counted : (ack : AckState) (before after : ℕ) → CountsAck ack before after → CountsFailure (failure_of ack) before after
ack_counted NotAsked before after is = is
ack_counted Done before after is = is
ack_counted Failed before after is = is

-- the count rose where the reply says that an access failed
call_counted : (outcome : Outcome) (ack : AckState) (before after : ℕ) → CountsCall outcome ack before after → CountsFailure (failure_by outcome ack) before after
call_counted Fault ack before after is = is
call_counted Nothing ack before after is = ack_counted ack before after is
call_counted (Queued number) ack before after is = ack_counted ack before after is
call_counted (Malformed number reason) ack before after is = ack_counted ack before after is
call_counted (Duplicate number report) ack before after is = ack_counted ack before after is
call_counted (Fatal number) ack before after is = ack_counted ack before after is
call_counted NoSlot ack before after is = ack_counted ack before after is
call_counted Stopped ack before after is = ack_counted ack before after is

module _ (k source now : ℕ) (before after : ContextSeen) (port port' : Seen) (faults faults' : ℕ) (reply : Reply) (receive : Receive) where
  call_is : reply.outcome ≡ outcome_of receive.limit (saw_by port (hit after.reports.list (standing_image receive.limit port) now) reply) → port' ≡ left_by (ack_seen receive.ack) reply port → reply.ack ≡ ack_by (ack_seen receive.ack) reply → CountsCall reply.outcome reply.ack faults faults' → HasTold k (standing_packet source receive.limit port) (with_load before.pass.view (is_stopped reply.outcome)) after.pass.view reply.outcome → IsNmi k source now before after port port' faults faults' reply receive
  call_is answered left ack counted told =
      let rule = ack_seen receive.ack in let failed = failure_by reply.outcome reply.ack in record {
        saw = saw_by port (hit after.reports.list (standing_image receive.limit port) now) reply;
        seen = record {
          panic = told_loads k _ _ after.pass.view reply.outcome told;
          port_is = refl;
          hit_is = refl;
          full = told_full k _ _ after.pass.view reply.outcome told;
          failed = call_counted reply.outcome reply.ack faults faults' counted;
        };
        call = record {
          answers = answered;
          acknowledged = ack ∙ ap (λ o. if acknowledges o then ack_of rule failed else NotAsked) answered;
          leaves = left ∙ ap (λ o. if acknowledges o then acknowledged_by rule failed (cleared port) else port) answered;
        };
        told = told;
      }

  -- and so for the source of the context that was asked for, by the reports that the reader saw
  pub nmi_is : (sources : List Receive) (reports : Known) → slice_get sources source ≡ Some receive → after.reports ≡ reports → reply.outcome ≡ outcome_of receive.limit (saw_by port (hit reports.list (standing_image receive.limit port) now) reply) → port' ≡ left_by (ack_seen receive.ack) reply port → reply.ack ≡ ack_by (ack_seen receive.ack) reply → CountsCall reply.outcome reply.ack faults faults' → HasTold k (standing_packet source receive.limit port) (with_load before.pass.view (is_stopped reply.outcome)) after.pass.view reply.outcome → IfSome (slice_get sources source) (IsNmi k source now before after port port' faults faults' reply)
  nmi_is sources reports there same answered left ack counted told =
      subst (λ o. IfSome o (IsNmi k source now before after port port' faults faults' reply)) (sym there)
      (call_is (subst (λ (r : Known). reply.outcome ≡ outcome_of receive.limit (saw_by port (hit r.list (standing_image receive.limit port) now) reply)) (sym same) answered) left ack counted told)
