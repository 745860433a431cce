-- How the memory of a source and the calls so far stay tied.
use Rattle.std.proofs.Common.{◌≡◌, ◌≤◌, ℕ, suc, ◌+◌, Bool, true, false, cond, eqb, ltb, ◌&&◌, ◌||◌, List, [], ◌∷◌, ◌++◌, length, refl, sym, ap, subst, ◌∙◌, arith, append-nil, Option, Some, None}
use Rattle.std.specs.Prelude.{is_some, filter}
use Rattle.std.proofs.lemmas.Bool.{ltb-false, eq-eqb}
use Rattle.std.proofs.lemmas.List.{length-append}
use Rattle.std.proofs.lemmas.List.Concat.{flat_map-append}
use Rattle.std.proofs.lemmas.List.Elements.{filter-append}
use Rattle.apei_base.specs.Firmware.{Seen, cleared}
use Rattle.ghes_call.specs.Call.{ack_of, acknowledged_by}
use Rattle.ghes_call.specs.Receive.{AckRuleSeen, ReceiveSeen, IsOfSource, register_of, acknowledgement}
use Rattle.ghes_call.specs.declared.call.AckState.{AckState}
use Rattle.ghes_call.specs.declared.call.AckState.TheVariants.{NotAsked, Done, Failed}
use Rattle.ghes_call.specs.declared.call.Call.{Call}
use Rattle.ghes_call.specs.declared.call.Outcome.{Outcome}
use Rattle.ghes_ledger.specs.Lawful.{written_to}
use Rattle.ghes_ledger.specs.Outcomes.{number_of, is_fault, is_done, is_failed}
use Rattle.ghes_ledger.specs.Plan.{Plan}
use Rattle.ghes_ledger.specs.Queue.{number_by, numbers_of, acknowledged, stuck_calls, faulty_calls}
use Rattle.ghes_nmi.specs.Steps.{failure_of, CountsAck}
use Rattle.ghes_lines.specs.Follows.{IsTied}
use Rattle.ghes_lines.specs.Machine.{cell_after}

-- what one more call adds to the counts of a source
abbrev one_if : Bool → ℕ
one_if true = 1
one_if false = 0

one_more : (b : Bool) (call : Call) → length (cond b (call ∷ []) []) ≡ one_if b
one_more true call = refl
one_more false call = refl

count_push : (test : Call → Bool) (past : List Call) (call : Call) → length (filter test (past ++ call ∷ [])) ≡ length (filter test past) + one_if (test call)
count_push test past call = ap length (filter-append test past (call ∷ [])) ∙ length-append (filter test past) (filter test (call ∷ [])) ∙ ap (λ n. length (filter test past) + n) (one_more (test call) call)

numbers_push : (s : ℕ) (past : List Call) (call : Call) → acknowledged s (past ++ call ∷ []) ≡ acknowledged s past + length (cond (eqb call.source s) (number_of call.reply.outcome) [])
numbers_push s past call =
    ap length (flat_map-append (number_by s) past (call ∷ [])) ∙ length-append (numbers_of s past) (number_by s call ++ [])
    ∙ ap (λ xs. acknowledged s past + length xs) (append-nil (number_by s call))

-- a call on another source adds no failed call
pub faulty_other : (s : ℕ) (past : List Call) (call : Call) → eqb call.source s ≡ false → length (faulty_calls s (past ++ call ∷ [])) ≡ length (faulty_calls s past)
faulty_other s past call other =
    count_push (λ c. eqb c.source s && (is_fault c.reply.outcome || is_failed c.reply.ack)) past call
    ∙ ap (λ b. length (faulty_calls s past) + one_if (b && (is_fault call.reply.outcome || is_failed call.reply.ack))) other ∙ omega arith

-- a call on another source changes nothing
module _ (plan : Plan) (receive : ReceiveSeen) (s : ℕ) (made : List (List ℕ)) (past : List Call) (fails : ℕ) (port : Seen) (faults : ℕ) (call : Call) where
  pub tied_other : eqb call.source s ≡ false → IsTied plan receive s made past fails port faults → IsTied plan receive s made (past ++ call ∷ []) fails port faults
  tied_other other t =
      let none : (test : Call → Bool) → length (filter (λ c. eqb c.source s && test c) (past ++ call ∷ [])) ≡ length (filter (λ c. eqb c.source s && test c) past) =
      λ test. count_push (λ c. eqb c.source s && test c) past call ∙ ap (λ b. length (filter (λ c. eqb c.source s && test c) past) + one_if (b && test call)) other ∙ omega arith in
      let same : acknowledged s (past ++ call ∷ []) ≡ acknowledged s past = numbers_push s past call ∙ ap (λ b. acknowledged s past + length (cond b (number_of call.reply.outcome) [])) other ∙ omega arith in
      record {
        source = t.source;
        made_is = t.made_is;
        acknowledged_is = t.acknowledged_is ∙ sym same;
        waits_is = t.waits_is ∙ ap (λ n. ltb 0 n) (sym (none (λ c. is_failed c.reply.ack)));
        cell_is = t.cell_is ∙ ap (plan.cell s) (sym (none (λ c. is_done c.reply.ack)));
        failed = omega (arith, t.failed, none (λ c. is_fault c.reply.outcome || is_failed c.reply.ack));
        planned = t.planned;
      }

abbrev with_state : Seen → ℕ → ℕ → Bool → Seen
with_state port cell count waits = record port { cell = cell; acknowledged = count; waits = waits }

-- a call on the source, told what it leaves of each count
module _ (plan : Plan) (receive : ReceiveSeen) (s context now : ℕ) (made : List (List ℕ)) (past : List Call) (fails : ℕ) (port port' : Seen) (faults faults' : ℕ) where
  abbrev the_call : Outcome → AckState → Call
  the_call outcome ack = record { context = context; source = s; now = now; reply = record { outcome = outcome; ack = ack } }

  abbrev Tied' : Outcome → AckState → Type 0
  Tied' outcome ack = IsTied plan receive s made (past ++ the_call outcome ack ∷ []) fails port' faults'

  own : eqb s s ≡ true
  own = eq-eqb s s refl

  tied_counts : (outcome : Outcome) (ack : AckState) → IsTied plan receive s made past fails port faults → port'.layout ≡ port.layout → port'.made ≡ port.made → port'.planned ≡ port.planned → port'.acknowledged ≡ port.acknowledged + length (number_of outcome) → port'.waits ≡ ltb 0 (length (stuck_calls s past) + one_if (is_failed ack)) → port'.cell ≡ plan.cell s (written_to s past + one_if (is_done ack)) → faults + one_if (is_fault outcome || is_failed ack) ≤ faults' → Tied' outcome ack
  tied_counts outcome ack t layout same planned count waits cell more =
      let call = the_call outcome ack in
      let counted : (test : Call → Bool) → length (filter (λ c. eqb c.source s && test c) (past ++ call ∷ [])) ≡ length (filter (λ c. eqb c.source s && test c) past) + one_if (test call) =
      λ test. count_push (λ c. eqb c.source s && test c) past call ∙ ap (λ b. length (filter (λ c. eqb c.source s && test c) past) + one_if (b && test call)) own in
      let numbered : acknowledged s (past ++ call ∷ []) ≡ acknowledged s past + length (number_of outcome) = numbers_push s past call ∙ ap (λ b. acknowledged s past + length (cond b (number_of outcome) [])) own in
      record {
        source = subst (λ l. IsOfSource receive l) (sym layout) t.source;
        made_is = same ∙ t.made_is;
        acknowledged_is = count ∙ ap (λ n. n + length (number_of outcome)) t.acknowledged_is ∙ sym numbered;
        waits_is = waits ∙ ap (λ n. ltb 0 n) (sym (counted (λ c. is_failed c.reply.ack)));
        cell_is = cell ∙ ap (plan.cell s) (sym (counted (λ c. is_done c.reply.ack)));
        failed = omega (arith, t.failed, more, counted (λ c. is_fault c.reply.outcome || is_failed c.reply.ack));
        planned = subst (λ n. n ≤ fails) (sym planned) t.planned;
      }

  -- one that acknowledged nothing
  pub tied_same : (outcome : Outcome) (ack : AckState) → number_of outcome ≡ [] → ack ≡ NotAsked → port' ≡ port → faults + one_if (is_fault outcome) ≤ faults' → IsTied plan receive s made past fails port faults → Tied' outcome ack
  tied_same outcome ack none asked same more t =
      let quiet : is_failed ack ≡ false = ap is_failed asked in
      let idle : is_done ack ≡ false = ap is_done asked in
      let sane : is_fault outcome || is_failed ack ≡ is_fault outcome = ap (λ b. is_fault outcome || b) quiet ∙ or_none (is_fault outcome) in
      tied_counts outcome ack t (ap (λ p. p.layout) same) (ap (λ p. p.made) same) (ap (λ p. p.planned) same)
      (ap (λ p. p.acknowledged) same ∙ omega (arith, ap length none))
      (ap (λ p. p.waits) same ∙ t.waits_is ∙ ap (λ n. ltb 0 n) (omega (arith, ap one_if quiet)))
      (ap (λ p. p.cell) same ∙ t.cell_is ∙ ap (plan.cell s) (omega (arith, ap one_if idle)))
      (omega (arith, more, ap one_if sane)) where
        or_none : (b : Bool) → b || false ≡ b
        or_none true = refl
        or_none false = refl

  not_stuck : IsTied plan receive s made past fails port faults → port.waits ≡ false → length (stuck_calls s past) ≡ 0
  not_stuck t idle = let none : length (stuck_calls s past) ≤ 0 = ltb-false 0 (length (stuck_calls s past)) (sym t.waits_is ∙ idle) in omega (arith, none)

  -- one that cleared a block, by its rule and what became of the acknowledgement
  pub tied_cleared : (rule : Option AckRuleSeen) (first : ℕ) (outcome : Outcome) (ack : AckState) → receive.ack ≡ rule → ((n : ℕ) → plan.cell s n ≡ cell_after rule first n) → length (number_of outcome) ≡ 1 → is_fault outcome ≡ false → ack ≡ ack_of rule (failure_of ack) → port' ≡ acknowledged_by rule (failure_of ack) (cleared port) → CountsAck ack faults faults' → port.waits ≡ false → IsTied plan receive s made past fails port faults → Tied' outcome ack
  tied_cleared None first outcome NotAsked has cells one sane is leaves counts idle t =
      let none : is_some port.layout.ack ≡ false = ap is_some (sym t.source.ack) ∙ ap (λ r. is_some (register_of r)) has in
      tied_counts outcome NotAsked t (ap (λ p. p.layout) leaves) (ap (λ p. p.made) leaves) (ap (λ p. p.planned) leaves)
      (ap (λ p. p.acknowledged) leaves ∙ omega (arith, one))
      (ap (λ p. p.waits) leaves ∙ none ∙ sym (ap (λ n. ltb 0 (n + 0)) (not_stuck t idle)))
      (ap (λ p. p.cell) leaves ∙ t.cell_is ∙ ap (plan.cell s) (omega arith))
      (omega (arith, counts, ap (λ b. one_if (b || false)) sane))
  tied_cleared None first outcome Done has cells one sane is leaves counts idle t = absurd cc
  tied_cleared None first outcome Failed has cells one sane is leaves counts idle t = absurd cc
  tied_cleared (Some rule) first outcome NotAsked has cells one sane is leaves counts idle t = absurd cc
  tied_cleared (Some rule) first outcome Done has cells one sane is leaves counts idle t =
      let n = written_to s past in
      let next : plan.cell s (n + 1) ≡ acknowledgement rule (plan.cell s n) = cells (n + 1) ∙ next_cell rule first n ∙ ap (acknowledgement rule) (sym (cells n)) in
      tied_counts outcome Done t (ap (λ p. p.layout) leaves) (ap (λ p. p.made) leaves) (ap (λ p. p.planned) leaves)
      (ap (λ p. p.acknowledged) leaves ∙ omega (arith, one))
      (ap (λ p. p.waits) leaves ∙ sym (ap (λ n. ltb 0 (n + 0)) (not_stuck t idle)))
      (ap (λ p. p.cell) leaves ∙ ap (acknowledgement rule) t.cell_is ∙ sym next)
      (omega (arith, counts, ap (λ b. one_if (b || false)) sane)) where
        next_cell : (rule : AckRuleSeen) (first n : ℕ) → cell_after (Some rule) first (n + 1) ≡ acknowledgement rule (cell_after (Some rule) first n)
        next_cell rule first n = let e : n + 1 ≡ suc n = omega arith in ap (cell_after (Some rule) first) e
  tied_cleared (Some rule) first outcome Failed has cells one sane is leaves counts idle t =
      let some : is_some port.layout.ack ≡ true = ap is_some (sym t.source.ack) ∙ ap (λ r. is_some (register_of r)) has in
      tied_counts outcome Failed t (ap (λ p. p.layout) leaves) (ap (λ p. p.made) leaves) (ap (λ p. p.planned) leaves)
      (ap (λ p. p.acknowledged) leaves ∙ omega (arith, one))
      (ap (λ p. p.waits) leaves ∙ some ∙ sym (ap (λ n. ltb 0 (n + 1)) (not_stuck t idle)))
      (ap (λ p. p.cell) leaves ∙ t.cell_is ∙ ap (plan.cell s) (omega arith))
      (omega (arith, counts, ap (λ b. one_if (b || true)) sane))
