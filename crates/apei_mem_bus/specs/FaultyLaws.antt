-- What a memory means does not change by how many accesses are to fail.
use Rattle.std.proofs.Common.{◌≡◌, ◌≤◌, ◌+◌, ℕ, Bool, true, false, cond, length, refl, ap, arith, nat_le}
use Rattle.std.proofs.lemmas.List.Sums.{count_by-le-length}
use Rattle.fault_plan.specs.Plan.{Calls}
use Rattle.apei_base.specs.Bus.{Access, Reads, Writes, Copies}
use Rattle.apei_mem_bus.specs.Failures.{AreDue}
use Rattle.apei_mem_bus.specs.Faulty.{with_planned}
use Rattle.apei_base.specs.Firmware.{Seen, cleared, ack_written, IsAnswered, IsSound, after_access}

-- failures that have come due are planned
pub few_planned : {faults : ℕ} (calls : Calls) → AreDue faults calls → faults ≤ length calls.failing
few_planned calls few = let most = count_by-le-length (λ number. nat_le number calls.made) calls.failing in omega (arith, few.due)

-- equal states mean the same
pub planned_same : {State : Type 0} {seen known : Seen} (one other : State × ℕ) → one ≡ other → (one.0 ≡ other.0 → seen ≡ known) → with_planned one.1 seen ≡ with_planned other.1 known
planned_same one other equal same = cc (same (ap (λ state. state.0) equal), ap (λ state. state.1) equal)

-- one of three meanings, each with more that is planned
planned_choice : (b c : Bool) (more : ℕ) (x y z : Seen) → cond b (with_planned more x) (cond c (with_planned more y) (with_planned more z)) ≡ with_planned more (cond b x (cond c y z))
planned_choice true c more x y z = refl
planned_choice false true more x y z = refl
planned_choice false false more x y z = refl

-- what an access leaves, with more that is planned
planned_after : (access : Access) (more : ℕ) (seen : Seen) → after_access access (with_planned more seen) ≡ with_planned more (after_access access seen)
unfolding after_access
planned_after (Reads reach value) more seen = refl
planned_after (Copies address bytes) more seen = refl
planned_after (Writes reach value) more seen = planned_choice _ _ more (cleared seen) (ack_written value seen) seen

-- what an access answers does not depend on what is planned
planned_answered : (access : Access) (more : ℕ) (seen : Seen) → IsAnswered access seen → IsAnswered access (with_planned more seen)
unfolding IsAnswered
planned_answered (Reads reach value) more seen answered = answered
planned_answered (Writes reach value) more seen answered = tt
planned_answered (Copies address bytes) more seen answered = answered

-- a step of the inner memory is a step
pub planned_moves : (access : Access) (now then : ℕ) (before after : Seen) → now ≡ then → IsAnswered access before × (after ≡ after_access access before) → IsAnswered access (with_planned then before) × (with_planned now after ≡ after_access access (with_planned then before))
planned_moves access now then before after kept moved =
    (planned_answered access then before moved.0, cc (planned_after access then before, moved.1, kept))

-- faults by plan are planned
pub planned_sound : {seen : Seen} {faults own more : ℕ} → IsSound seen faults → own ≤ more → IsSound (with_planned more seen) (faults + own)
planned_sound sound few = record {
  placed = sound.placed;
  apart = sound.apart;
  other = sound.other;
  fits = sound.fits;
  raised = sound.raised;
  few = sound.few;
  made = sound.made;
  awaited = sound.awaited;
  planned = omega (arith, sound.planned);
}
