-- What a step leaves of the rule where it changes one view.
use Rattle.std.proofs.Common.{◌≡◌, ◌≢◌, ◌⊎◌, ℕ, zero, suc, ◌+◌, ◌-◌, ◌*◌, ◌<◌, ◌≤◌, eqb, Bool, true, false, List, [], ◌∷◌, ◌++◌, length, map, get_or, set, sym, refl, ap, ◌∙◌, subst, arith, inl, inr, ⊎_elim, Option, Some, None, length-set, length-append}
use mathlib.Core.Logic.{dite}
use mathlib.Core.Option.{some, none, some-injective, some-ne-none}
use mathlib.Core.Option as maybe
use native.Mathlib.Decide.{ℕ_discrete, dec_le}
use lib.ListN.{get_elem?}
use Rattle.atomic_table.specs.Table.{State}
use Rattle.atomic_table.proofs.Lists.{at_set, set_here, set_else, set_again, at_snoc, at_longer, at_last}
use Rattle.ghes_rule.specs.declared.views.Cell.{Cell}
use Rattle.ghes_rule.specs.declared.views.Turn.{Turn}
use Rattle.ghes_rule.specs.declared.views.Pushed.{Pushed}
use Rattle.ghes_rule.specs.declared.views.Stage.{Stage}
use Rattle.ghes_rule.specs.declared.views.Stage.TheVariants.{Idle, Holding, Swapped}
use Rattle.ghes_rule.specs.declared.views.Hand.{Hand}
use Rattle.ghes_rule.specs.declared.views.Hand.TheVariants.{Bare, Full}
use Rattle.ghes_rule.specs.declared.views.PassView.{PassView}
use Rattle.ghes_rule.specs.declared.views.WorkView.{WorkView}
use Rattle.ghes_rule.specs.declared.views.View.{View}
use Rattle.ghes_rule.specs.declared.views.View.TheVariants.{OfPass, OfWork, Spent}
use Rattle.ghes_rule.specs.Kept
use Rattle.ghes_rule.specs.Kept.{Spot, free, with_pass, waits, at_desk, busy, In, sum_to, count, count_in, of_pass, turn, IsBelow, Slots, InStage, PassOk, Counts, Linked, Chain, InHand, DeskOk, Knows, Seats, Held, Panic, IsKept}
use Rattle.ghes_rule.specs.Moves.{pass_of, work_of}
use Rattle.ghes_rule.proofs.Puts.{put, put_here, put_at, put_else, put_all, put_field, sum_same, at_below, one_at}

-- 1 for a pass, 2 for the decoder
abbrev kind : View → ℕ
kind (OfPass v) = 1
kind (OfWork w) = 2
kind Spent = 0

pub work_apart : (v : PassView) (w : WorkView) → OfPass v ≡ OfWork w → ⊥
work_apart v w e = let q : kind (OfPass v) ≡ kind (OfWork w) = ap kind e in absurd (omega arith)

pub work_spent : (w : WorkView) → Spent ≡ OfWork w → ⊥
work_spent w e = let q : kind Spent ≡ kind (OfWork w) = ap kind e in absurd (omega arith)

pub pass_spent : (v : PassView) → Spent ≡ OfPass v → ⊥
pass_spent v e = let q : kind Spent ≡ kind (OfPass v) = ap kind e in absurd (omega arith)

module _ {n : ℕ} {views : List View} {seat : ℕ → ℕ} {pass : ℕ → PassView} {chair : ℕ} {desk : WorkView} (r : Seats n views seat pass chair desk) where
  pub pass_known : (j : ℕ) (v : PassView) → get_elem? views j ≡ some (OfPass v) → (v.number < n) × (seat v.number ≡ j + 1) × (pass v.number ≡ v)
  pass_known j v at = r.each j (OfPass v) at

  pub work_known : (j : ℕ) (w : WorkView) → get_elem? views j ≡ some (OfWork w) → (j ≡ chair) × (w ≡ desk)
  work_known j w at = r.each j (OfWork w) at

  pub chair_apart : (j : ℕ) (v : PassView) → get_elem? views j ≡ some (OfPass v) → chair ≢ j
  chair_apart j v at e = work_apart v desk (one_at views j (OfPass v) (OfWork desk) at (subst (λ i. get_elem? views i ≡ some (OfWork desk)) e r.there))

  -- a pass changes its view
  pub seats_pass : (id : ℕ) (v v' : PassView) → ((q : ℕ) → q < n → (pass q).number ≡ q) → get_elem? views id ≡ some (OfPass v) → v'.number ≡ v.number
      → Seats n (set views id (OfPass v')) seat (put pass v.number v') chair desk
  seats_pass id v v' numbers at same =
      let known = pass_known id v at in let p : ℕ = v.number in let here : seat p ≡ id + 1 = known.1 in
      let other_seat : (q : ℕ) → q < n → q ≢ p → 0 < seat q → seat q - 1 ≢ id = λ q l ne pos e.
      ne (sym (numbers q l) ∙ ap (λ d. (pass_of d).number) (one_at views id (OfPass (pass q)) (OfPass v) (subst (λ i. get_elem? views i ≡ some (OfPass (pass q))) e (r.live q l pos)) at)) in
      record {
        as_many = r.as_many;
        out = r.out;
        ended = λ q l z. let ne : q ≢ p = λ e. let a = ap seat e in omega arith in let old = r.ended q l z in
            (subst (λ x. get_elem? desk.passes q ≡ some (Some x)) (sym (put_else pass p v' q ne)) old.0, ap (λ x. x.stage) (put_else pass p v' q ne) ∙ old.1);
        there = set_else views id chair (OfPass v') (chair_apart id v at) ∙ r.there;
        live = λ q l pos. put_all (λ q x. get_elem? (set views id (OfPass v')) (seat q - 1) ≡ some (OfPass x)) pass p v' q
            (λ e. let a = ap seat e in subst (λ i. get_elem? (set views id (OfPass v')) i ≡ some (OfPass v')) (let g : id ≡ seat q - 1 = omega arith in g) (set_here views id (OfPass v') (at_below views id (OfPass v) at)))
            (λ ne. set_else views id (seat q - 1) (OfPass v') (other_seat q l ne pos) ∙ r.live q l pos);
        each = λ j d e. ⊎_elim
            (λ (t : (j ≡ id) × (OfPass v' ≡ d)). subst (Knows n seat (put pass p v') chair desk j) t.1
            (subst (λ x. x < n) (sym same) known.0, ap seat same ∙ (here ∙ ap (λ i. i + 1) (sym t.0)), put_at pass p v' v'.number same))
            (λ (t : (j ≢ id) × (get_elem? views j ≡ some d)). others j d t.0 (r.each j d t.1))
            (at_set views id j (OfPass v') d e);
      }
    where
      others : (j : ℕ) (d : View) → j ≢ id → Knows n seat pass chair desk j d → Knows n seat (put pass v.number v') chair desk j d
      others j (OfPass x) ne k = let known = pass_known id v at in let here : seat v.number ≡ id + 1 = known.1 in let there : seat x.number ≡ j + 1 = k.1 in
          (k.0, k.1, put_else pass v.number v' x.number (λ e. ne (let a = ap seat e in omega arith)) ∙ k.2)
      others j (OfWork w) ne k = k
      others j Spent ne k = tt

  -- the decoder changes its view, and not its ended passes
  pub seats_work : (w' : WorkView) → w'.passes ≡ desk.passes → Seats n (set views chair (OfWork w')) seat pass chair w'
  seats_work w' same =
      record {
        as_many = ap length same ∙ r.as_many;
        out = λ p l z. ap (λ ps. get_elem? ps p) same ∙ r.out p l z;
        ended = λ p l z. let old = r.ended p l z in (ap (λ ps. get_elem? ps p) same ∙ old.0, old.1);
        there = set_here views chair (OfWork w') (at_below views chair (OfWork desk) r.there);
        live = λ p l pos. let at = r.live p l pos in set_else views chair (seat p - 1) (OfWork w') (λ e. chair_apart (seat p - 1) (pass p) at (sym e)) ∙ at;
        each = λ j d e. ⊎_elim
            (λ (t : (j ≡ chair) × (OfWork w' ≡ d)). subst (Knows n seat pass chair w' j) t.1 (t.0, refl))
            (λ (t : (j ≢ chair) × (get_elem? views j ≡ some d)). others j d t.0 (r.each j d t.1))
            (at_set views chair j (OfWork w') d e);
      }
    where
      others : (j : ℕ) (d : View) → j ≢ chair → Knows n seat pass chair desk j d → Knows n seat pass chair w' j d
      others j (OfPass x) ne k = k
      others j (OfWork w) ne k = absurd (ne k.0)
      others j Spent ne k = tt

-- counts where neither claims nor finds nor the totals change
pub counts_same : {k n : ℕ} {total total' : ℕ → ℕ} {pass pass' : ℕ → PassView} → ((i : ℕ) → i < k → total' i ≡ total i) → ((p : ℕ) → (pass' p).claims ≡ (pass p).claims) → ((p : ℕ) → (pass' p).found ≡ (pass p).found)
    → Counts k n total pass → Counts k n total' pass'
counts_same {k} {n} {total} {total'} {pass} {pass'} same claims found r = record {
  few = r.few;
  counted = λ i l. sum_same n (λ p. count i (pass' p).claims) (λ p. count i (pass p).claims) (λ p _. ap (count i) (claims p)) ∙ (r.counted i l ∙ sym (same i l));
  each = λ i g l m. let o = r.each i g l (subst (λ x. g < x) (same i l) m) in (o.0, o.1, subst (In (turn i g)) (sym (claims o.0)) o.2);
  bounded = λ p c l m. let o = r.bounded p c l (subst (In c) (claims p) m) in (o.0, subst (λ x. c.turn < x) (sym (same c.slot o.0)) o.1);
  found = λ p c l m. let o = r.found p c l (subst (In c) (found p) m) in (o.0, o.1, subst (In c) (sym (claims o.0)) o.2);
  short = λ p l. subst (λ cs. length cs ≤ 4294967296) (sym (claims p)) (r.short p l);
}

-- a link where the word and the stage of its pass stay
pub linked_same : (k : ℕ) (words words' : List ℕ) (log : List Pushed) (pass pass' : ℕ → PassView) (b t : ℕ) → ((e : Pushed) → get_elem? log t ≡ some e → (get_or words' (k + e.slot) 0 ≡ get_or words (k + e.slot) 0) × ((pass' e.pass).stage ≡ (pass e.pass).stage))
    → Linked k words log pass b t → Linked k words' log pass' b t
linked_same k words words' log pass pass' b t same l = let e : Pushed = l.0 in let s = same e l.1 in (
  e,
  l.1,
  ⊎_elim (λ a. inl (s.0 ∙ a.0, (a.1.0, s.1 ∙ a.1.1, a.1.2))) (λ a. inr (a.0, s.0 ∙ a.1, a.2)) l.2,
)

pub chain_same : {k n : ℕ} {words : List ℕ} {log : List Pushed} {spot : ℕ → Spot} {pass pass' : ℕ → PassView} {from walk top : ℕ} → ((p : ℕ) → (pass' p).stage ≡ (pass p).stage)
    → Chain k n words log spot pass from walk top → Chain k n words log spot pass' from walk top
chain_same {k} {n} {words} {log} {spot} {pass} {pass'} {from} {walk} {top} same r = record {
  marks = r.marks;
  passes = r.passes;
  pending = r.pending;
  rest = λ t a b. linked_same k words words log pass pass' from t (λ e _. (refl, same e.pass)) (r.rest t a b);
  walked = r.walked;
  hangs = λ t a b. linked_same k words words log pass pass' top t (λ e _. (refl, same e.pass)) (r.hangs t a b);
  head = r.head;
}

-- the panic word, where the word stays and no fatal block or load changes
pub panic_same : {k n : ℕ} {words words' : List ℕ} {pass pass' : ℕ → PassView} {desk desk' : WorkView} → get_or words' (2 * k + 1) 0 ≡ get_or words (2 * k + 1) 0
    → ((p : ℕ) → (pass' p).fatal ≡ (pass p).fatal) → ((p : ℕ) → (pass' p).loads ≡ (pass p).loads) → desk'.loads ≡ desk.loads → Panic k n words pass desk → Panic k n words' pass' desk'
panic_same word fatal loads desk_loads r = record {
  word = ⊎_elim (λ e. inl (word ∙ e)) (λ e. inr (word ∙ e)) r.word;
  fatal = λ e. let o = r.fatal (sym word ∙ e) in (o.0, o.1, (o.2.0, fatal o.0 ∙ o.2.1));
  set = λ p x l e. word ∙ r.set p x l (sym (fatal p) ∙ e);
  loads = λ p l h. word ∙ r.loads p l (subst (In true) (loads p) h);
  desk_loads = λ h. word ∙ r.desk_loads (subst (In true) desk_loads h);
}
