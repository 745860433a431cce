-- Passes that stay ready while they push, come back and go out again.
use Rattle.std.proofs.Common.{◌≡◌, ℕ, zero, suc, ◌+◌, ◌^◌, ◌<◌, List, [], ◌∷◌, All, length, get_or, sym, refl, ap, ◌∙◌, subst, arith}
use mathlib.Core.Option.{some, some-injective}
use lib.ListN.{get_elem?}
use Rattle.atomic_table.specs.Seated.{TableId}
use Rattle.ghes_rule.specs.declared.views.PassView.{PassView}
use Rattle.ghes_rule.specs.declared.views.Stage.TheVariants.{Idle}
use Rattle.ghes_rule.specs.declared.views.WorkView.{WorkView}
use Rattle.ghes_rule.specs.Seen.{PassSeen, AreFirst, AreLetOut, pass_seen}
use Rattle.ghes_rule.specs.Kept.{first_pass}
use Rattle.ghes_rule.specs.Moves.{since_of, view_at}
use Rattle.ghes_rule.proofs.Gathered.{at_some}
use Rattle.ghes_rule.proofs.Puts.{at_below}
use Rattle.ghes_chain.specs.Gather.{AreAll, Has}
use Rattle.chain_run.specs.Ready.{IsReady, AreReady, CanPush, GoesOn}

-- an element by its number
pub elem_or : {A : Type 0} → (xs : List A) (i : ℕ) (x d : A) → get_elem? xs i ≡ some x → get_or xs i d ≡ x
elem_or [] i x d e = absurd (cc e)
elem_or (y ∷ ys) zero x d e = some-injective y x e
elem_or (y ∷ ys) (suc i) x d e = elem_or ys i x d e

-- the passes at the start are ready
pub first_ready : (z : TableId) (k n : ℕ) (xs : List PassSeen) → AreFirst z 164 k n xs → AreReady z 0 n xs
first_ready z k n xs are = record {
  many = are.0;
  each = λ i d l. let l' : i < n = omega (arith, are.0) in subst (IsReady z 0 i) (sym (elem_or xs i (pass_seen z (first_pass 164 k i)) d (are.1 i l'))) (record { table = refl; idle = refl; number = refl; room = refl; claims = omega arith });
}

-- ready passes may push
pub ready_push : (z : TableId) (most n more : ℕ) (xs : List PassSeen) → AreReady z most n xs → most + more < 2 ^ 32 → All (CanPush z more) xs
ready_push z most n more xs are few = λ i d l. let r = are.each i d l in record { table = r.table; idle = r.idle; room = r.room; few = let c = r.claims in omega arith }

-- passes that went on are ready
pub ready_on : (z : TableId) (most n more : ℕ) (xs ys : List PassSeen) → AreReady z most n xs → length ys ≡ length xs → ((i : ℕ) (d : PassSeen) → i < length xs → GoesOn (get_or xs i d) (get_or ys i d) more) → AreReady z (most + more) n ys
ready_on z most n more xs ys are many on = record {
  many = many ∙ are.many;
  each = λ i d l. let l' : i < length xs = omega (arith, many) in let r = are.each i d l' in let o = on i d l' in record { table = o.table ∙ r.table; idle = o.idle; number = o.number ∙ r.number; room = o.room ∙ r.room; claims = let a = r.claims in let b = o.claims in omega arith };
}

-- ready passes are all there are
pub ready_all : (z : TableId) (most n : ℕ) (xs : List PassSeen) → AreReady z most n xs → AreAll z n xs
ready_all z most n xs are = record {
  many = are.many;
  each = λ q l. let l' : q < length xs = omega (arith, are.many) in let t = at_some xs q l' in (q, t.0, t.1, subst (λ (u : PassSeen). u.view.number ≡ q) (elem_or xs q t.0 t.0 t.1) (are.each q t.0 l').number);
  once = λ i j x y at_x at_y e. sym (number i x at_x) ∙ (e ∙ number j y at_y);
  ready = λ i x at. let r = are.each i x (at_below xs i x at) in let e = elem_or xs i x x at in (subst (λ (u : PassSeen). u.table ≡ z) e r.table, subst (λ (u : PassSeen). u.view.stage ≡ Idle) e r.idle);
}
  where
    number : (i : ℕ) (x : PassSeen) → get_elem? xs i ≡ some x → x.view.number ≡ i
    number i x at = subst (λ (u : PassSeen). u.view.number ≡ i) (elem_or xs i x x at) (are.each i x (at_below xs i x at)).number

-- passes that came back and went out again are ready
pub ready_out : (z : TableId) (most n : ℕ) (xs ys : List PassSeen) (w w' : WorkView) → AreReady z most n xs → Has xs w → w'.passes ≡ w.passes → length w.passes ≡ n → AreLetOut z w' (length w'.passes) ys → AreReady z most n ys
ready_out z most n xs ys w w' are has same many out = let long : length w'.passes ≡ n = ap length same ∙ many in record {
  many = out.0 ∙ long;
  each = λ i d l. let outs = out.0 in let l₁ : i < length w'.passes = omega arith in let l₂ : i < length xs = omega (arith, are.many) in
      let t = at_some xs i l₂ in
      let r = subst (IsReady z most i) (elem_or xs i t.0 t.0 t.1) (are.each i t.0 l₂) in
      let num = r.number in
      let known : view_at w.passes i ≡ t.0.view = subst (λ m. view_at w.passes m ≡ t.0.view) num (has i t.0 t.1 (omega arith)) in
      let same_view : view_at w'.passes i ≡ t.0.view = ap (λ ps. view_at ps i) same ∙ known in
      subst (IsReady z most i) (sym (elem_or ys i (pass_seen z (since_of w' i)) d (out.1 i l₁)))
      (subst (λ (v : PassView). IsReady z most i (pass_seen z (let u : PassView = record v { since = w'.ended } in u))) (sym same_view) (record { table = refl; idle = r.idle; number = r.number; room = r.room; claims = r.claims }));
}
