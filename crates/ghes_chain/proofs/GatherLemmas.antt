-- The passes that were taken in so far.
use Rattle.std.proofs.Common.{vec_capacity, ◌≡◌, ◌≢◌, ℕ, zero, suc, ◌+◌, ◌<◌, ◌≤◌, true, List, [], ◌∷◌, ◌++◌, length, set, sym, refl, ap, ◌∙◌, subst, arith, Option, Some, None, length-append, length-set}
use Rattle.std.proofs.lemmas.List.{append_assoc}
use mathlib.Core.Logic.{dite}
use mathlib.Core.Option.{some, none, some-injective, some-ne-none}
use native.Mathlib.Decide.{ℕ_discrete}
use lib.ListN.{get_elem?}
use Rattle.atomic_table.specs.Seated.{TableId}
use Rattle.atomic_table.proofs.Lists.{set_here, set_else, at_longer, at_last}
use Rattle.ghes_rule.specs.declared.views.Stage.TheVariants.{Idle}
use Rattle.ghes_rule.specs.declared.views.WorkView.{WorkView}
use Rattle.ghes_rule.specs.Seen.{PassSeen, WorkSeen}
use Rattle.std.specs.Prelude.{Vec}
use Rattle.std.specs.declared.alloc.Global.{Global}
use Rattle.ghes_rule.specs.Moves.{view_or, view_at, all_back, joined, IsSameButPasses, Settled, SettledIf}
use Rattle.ghes_rule.proofs.Puts.{at_below, one_at}
use Rattle.ghes_rule.proofs.BackLemmas.{back_all}
use Rattle.ghes_chain.specs.Gather.{AreAll, Has, IsQuiet}

pub same_self : (w : WorkView) → IsSameButPasses w w
same_self w = record { room = refl; cursor = refl; walked = refl; held = refl; taken = refl; empties = refl; loads = refl; chains = refl; unsets = refl; as_many = refl }

-- the passes from the m-th on were taken in
abbrev pub AreIn : ℕ → List PassSeen → WorkView → Type 0
AreIn m xs w = (i : ℕ) (x : PassSeen) → m ≤ i → get_elem? xs i ≡ some x → x.view.number < length w.passes → get_elem? w.passes x.view.number ≡ some (Some x.view)

module _ (z : TableId) (w₀ : WorkView) (all : List PassSeen) (ready : AreAll z (length w₀.passes) all) where
  module _ (w : WorkView) (old new done : List PassSeen) (x : PassSeen) (are : all ≡ old ++ done) (is : old ≡ new ++ x ∷ []) (same : IsSameButPasses w₀ w) where
    pub popped_at : get_elem? all (length new) ≡ some x
    popped_at = ap (λ ys. get_elem? ys (length new)) (are ∙ ap (λ ys. ys ++ done) is) ∙ at_longer (new ++ x ∷ []) done (length new) x (at_last new x (length new) refl)

    pub popped_ready : (x.table ≡ z) × (x.view.stage ≡ Idle)
    popped_ready = ready.ready (length new) x popped_at

    pub same_joined : IsSameButPasses w₀ (joined w x.view)
    same_joined = record {
      room = same.room;
      cursor = same.cursor;
      walked = same.walked;
      held = same.held;
      taken = same.taken;
      empties = same.empties;
      loads = same.loads;
      chains = same.chains;
      unsets = same.unsets;
      as_many = length-set w.passes x.view.number (Some x.view) ∙ same.as_many;
    }

    pub in_joined : AreIn (length old) all w → AreIn (length new) all (joined w x.view)
    in_joined before i y low at inside = let many = length-set w.passes x.view.number (Some x.view) in let len : length old ≡ length new + 1 = ap length is ∙ length-append new (x ∷ []) in
        let inside' : y.view.number < length w.passes = omega arith in
        dite (ℕ_discrete i (length new))
        (λ e. let same_x : x ≡ y = one_at all (length new) x y popped_at (subst (λ j. get_elem? all j ≡ some y) e at) in
        subst (λ (u : PassSeen). get_elem? (set w.passes x.view.number (Some x.view)) u.view.number ≡ some (Some u.view)) same_x (set_here w.passes x.view.number (Some x.view) (subst (λ (u : PassSeen). u.view.number < length w.passes) (sym same_x) inside')))
        (λ ne. set_else w.passes x.view.number y.view.number (Some x.view) (λ e. ne (ready.once i (length new) y x at popped_at e)) ∙ before i y (omega arith) at inside')

    pub left_joined : (rest : List PassSeen) × (all ≡ new ++ rest)
    left_joined = (x ∷ done, are ∙ (ap (λ ys. ys ++ done) is ∙ append_assoc new (x ∷ []) done))

  pub all_in : (w : WorkView) → IsSameButPasses w₀ w → AreIn 0 all w → (all_back w.passes ≡ true) × Has all w
  all_in w same are = let many = same.as_many in (
    back_all w.passes (λ p l. let t = ready.each p (omega arith) in (t.1.view, subst (λ q. get_elem? w.passes q ≡ some (Some t.1.view)) t.3 (are t.0 t.1 (omega arith) t.2 (let e = t.3 in omega arith)))),
    λ i x at inside. ap view_or (are i x (omega arith) at inside),
  )

pub none_in : (xs : List PassSeen) (w : WorkView) → AreIn (length xs) xs w
none_in xs w i x low at inside = absurd (let l = at_below xs i x at in omega arith)

-- two passes in the other order are all there are
pub two_all : (z : TableId) (n : ℕ) (x y : PassSeen) → n ≡ 2 → (x.table ≡ z) × (x.view.stage ≡ Idle) × (x.view.number ≡ 1) → (y.table ≡ z) × (y.view.stage ≡ Idle) × (y.view.number ≡ 0) → AreAll z n (x ∷ y ∷ [])
two_all z n x y two a b = record {
  many = sym two;
  each = λ q l. dite (ℕ_discrete q 0) (λ e. (1, y, refl, b.2 ∙ sym e)) (λ ne. (0, x, refl, a.2 ∙ (let g : 1 ≡ q = omega arith in g)));
  once = λ i j u v at_u at_v e. go i j u v at_u at_v e;
  ready = λ i u at. fine i u at;
}
  where
    num : (i : ℕ) (u : PassSeen) → get_elem? (x ∷ y ∷ []) i ≡ some u → u.view.number + i ≡ 1
    num zero u at = let e = ap (λ (w : PassSeen). w.view.number) (some-injective x u at) in let c = a.2 in omega arith
    num (suc zero) u at = let e = ap (λ (w : PassSeen). w.view.number) (some-injective y u at) in let c = b.2 in omega arith
    num (suc (suc i)) u at = absurd (some-ne-none u (sym at))

    go : (i j : ℕ) (u v : PassSeen) → get_elem? (x ∷ y ∷ []) i ≡ some u → get_elem? (x ∷ y ∷ []) j ≡ some v → u.view.number ≡ v.view.number → i ≡ j
    go i j u v at_u at_v e = let c = num i u at_u in let d = num j v at_v in omega arith

    fine : (i : ℕ) (u : PassSeen) → get_elem? (x ∷ y ∷ []) i ≡ some u → (u.table ≡ z) × (u.view.stage ≡ Idle)
    fine zero u at = let e = some-injective x u at in subst (λ (w : PassSeen). (w.table ≡ z) × (w.view.stage ≡ Idle)) e (a.0, a.1)
    fine (suc zero) u at = let e = some-injective y u at in subst (λ (w : PassSeen). (w.table ≡ z) × (w.view.stage ≡ Idle)) e (b.0, b.1)
    fine (suc (suc i)) u at = absurd (some-ne-none u (sym at))

-- a quiet moment stays quiet while no pass goes
pub quiet_on : (w w' : WorkView) (n : ℕ) (xs : Vec PassSeen Global) → IsQuiet w n xs → w'.passes ≡ w.passes → SettledIf w' → IsQuiet w' n xs
quiet_on w w' n xs q same settled = let back = ap all_back same ∙ q.back in record { back = back; settled = settled back; many = q.many ∙ ap length (sym same); empty = q.empty; room = q.room }

pub settled_on : (w w' : WorkView) (n : ℕ) (xs : Vec PassSeen Global) → IsQuiet w n xs → w'.passes ≡ w.passes → SettledIf w' → Settled w'
settled_on w w' n xs q same settled = settled (ap all_back same ∙ q.back)

-- each pass that comes out of a quiet moment has its number, and holds no claim
pub quiet_each : (w : WorkView) (n : ℕ) (xs : Vec PassSeen Global) → IsQuiet w n xs → (q : ℕ) → q < n → ((view_at w.passes q).number ≡ q) × ((view_at w.passes q).stage ≡ Idle)
quiet_each w n xs r q l = let many = r.many in let l' : q < length w.passes = omega arith in (r.settled.numbers q l', r.settled.idle q l')

-- the quiet moment in which all passes have come back
pub quiet_new : (w₀ : WorkView) (a b : WorkSeen) (n : ℕ) (xs : Vec PassSeen Global) → IsSameButPasses w₀ a.view → b ≡ a → all_back a.view.passes ≡ true → SettledIf b.view → n ≡ length w₀.passes → xs.items ≡ [] → n ≤ vec_capacity xs
    → IsQuiet b.view n xs
quiet_new w₀ a b n xs same is back settled many empty room = let back' = ap (λ (z : WorkSeen). all_back z.view.passes) is ∙ back in record {
  back = back';
  settled = settled back';
  many = many ∙ (sym same.as_many ∙ ap (λ (z : WorkSeen). length z.view.passes) (sym is));
  empty = empty;
  room = room;
}
