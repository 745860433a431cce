-- K claims that one search found running, in a run between two quiet moments: each slot has a push that was pending before, or a claim that was made in the run.
use Rattle.std.proofs.Common.{◌≡◌, ◌≢◌, ◌⊎◌, ℕ, zero, suc, ◌+◌, ◌-◌, ◌*◌, ◌<◌, ◌≤◌, eqb, List, [], ◌∷◌, ◌++◌, length, get_or, sym, refl, ap, ◌∙◌, subst, arith, inl, inr, ⊎_elim}
use mathlib.Core.Option.{some, none}
use lib.ListN.{get_elem?}
use Rattle.ghes_rule.specs.declared.views.Turn.{Turn}
use Rattle.ghes_rule.specs.declared.views.Pushed.{Pushed}
use Rattle.ghes_rule.specs.declared.views.Hand.TheVariants.{Bare}
use Rattle.ghes_rule.specs.declared.views.PassView.{PassView}
use Rattle.ghes_rule.specs.declared.views.WorkView.{WorkView}
use Rattle.ghes_rule.specs.Kept.{In, when, count, count_in, sum_to, of_pass, kept_if}
use Rattle.ghes_rule.specs.Moves.{view_at, in_hand, Settled}
use Rattle.ghes_rule.specs.Finds.{AreFinds, FoundAll, MadeIn, pending_count}
use Rattle.ghes_rule.proofs.Puts.{at_in, in_longer, sum_same, sum_add, sum_zero, sum_whens, sum_counts, sum_least, when_same}

pub in_split : {A : Type 0} (x : A) (xs ys : List A) → In x (xs ++ ys) → In x xs ⊎ In x ys
in_split x [] ys h = inr h
in_split x (y ∷ xs) ys h = ⊎_elim (λ e. inl (inl e)) (λ t. ⊎_elim (λ a. inl (inr a)) (λ b. inr b) (in_split x xs ys t)) h

pub in_right : {A : Type 0} (x : A) (xs ys : List A) → In x ys → In x (xs ++ ys)
in_right x [] ys h = h
in_right x (y ∷ xs) ys h = inr (in_right x xs ys h)

pub count_some : (cs : List Turn) (c : Turn) → In c cs → 0 < count c.slot cs
count_some [] c h = absurd h
count_some (d ∷ cs) c h = ⊎_elim (λ e. let a = when_same c.slot d.slot (ap (λ (z : Turn). z.slot) e) in omega arith) (λ t. let r = count_some cs c t in omega arith) h

pub counts_turns : (k : ℕ) (cs : List Turn) → sum_to k (λ i. count i cs) ≤ length cs
counts_turns k [] = let z = sum_zero k (λ i. 0) (λ _ _. refl) in omega arith
counts_turns k (c ∷ cs) = let a = sum_add k (λ i. when (eqb i c.slot)) (λ i. count i cs) in let b = sum_whens k c.slot in let r = counts_turns k cs in omega arith

pub sum_at : (n q : ℕ) (f : ℕ → ℕ) → q < n → f q ≤ sum_to n f
sum_at zero q f l = absurd (omega arith)
sum_at (suc n) q f l = mathlib.Core.Logic.dite (native.Mathlib.Decide.ℕ_discrete q n) (λ e. let a = ap f e in omega arith) (λ ne. let r = sum_at n q f (omega arith) in omega arith)

pub sum_le : (n : ℕ) (f g : ℕ → ℕ) → ((j : ℕ) → f j ≤ g j) → sum_to n f ≤ sum_to n g
sum_le zero f g h = omega arith
sum_le (suc n) f g h = let a = h n in let b = sum_le n f g h in omega arith

pub sum_swap : (k n : ℕ) (f : ℕ → ℕ → ℕ) → sum_to k (λ i. sum_to n (f i)) ≡ sum_to n (λ q. sum_to k (λ i. f i q))
sum_swap zero n f = sym (sum_zero n (λ q. 0) (λ _ _. refl))
sum_swap (suc k) n f = let r = sum_swap k n f in let a = sum_add n (f k) (λ q. sum_to k (λ i. f i q)) in omega arith

-- each of k slots has a push of the list, or a claim of one of n lists
pub slots_shared : (k n : ℕ) (es : List Pushed) (new : ℕ → List Turn) → ((i : ℕ) → i < k → 0 < count_in i es + sum_to n (λ q. count i (new q))) → k ≤ length es + sum_to n (λ q. length (new q))
slots_shared k n es new h =
    let a = sum_least k (λ i. count_in i es + sum_to n (λ q. count i (new q))) h in let b = sum_add k (λ i. count_in i es) (λ i. sum_to n (λ q. count i (new q))) in let c = sum_counts k es in
    let d = sum_swap k n (λ i q. count i (new q)) in let e = sum_le n (λ q. sum_to k (λ i. count i (new q))) (λ q. length (new q)) (λ q. counts_turns k (new q)) in omega arith

-- w is the quiet moment before the run and w' that after it; the pass p found these claims in the run; `new q` are the claims that the pass q made in it
pub no_slot : (k p : ℕ) (w w' : WorkView) (s : Settled w) (finds before after : List Turn) (new : ℕ → List Turn) → Settled w' → w.held ≡ Bare → length w'.passes ≡ length w.passes → p < length w.passes
    → AreFinds w.ended k finds → (view_at w'.passes p).found ≡ before ++ finds ++ after → ((q : ℕ) → q < length w.passes → (view_at w'.passes q).claims ≡ (view_at w.passes q).claims ++ new q)
    → k ≤ length s.pending + sum_to (length w.passes) (λ q. length (new q))
no_slot k p w w' s finds before after new s' bare many inside are found claims = slots_shared k (length w.passes) s.pending new each
  where
    each : (i : ℕ) → i < k → 0 < count_in i s.pending + sum_to (length w.passes) (λ q. count i (new q))
    each i l = let f = are.1 i l in let c : Turn = f.0 in let slot_is : c.slot ≡ i = f.2 in let low = f.3 in
        let there : In c (view_at w'.passes p).found = subst (In c) (sym found) (in_longer c (before ++ finds) after (in_right c before finds (at_in finds i c f.1))) in
        let o = s'.found p c (omega arith) there in let q : ℕ = o.0 in let o₁ = o.1 in let inside_q : q < length w.passes = omega arith in
        let free : in_hand c.slot w.held ≡ 0 = ap (in_hand c.slot) bare in let low' : get_or w.ended c.slot 0 ≤ c.turn = subst (λ z. get_or w.ended z 0 ≤ c.turn) (sym slot_is) low in
        subst (λ z. 0 < count_in z s.pending + sum_to (length w.passes) (λ q. count z (new q))) slot_is (⊎_elim
        (λ old. let b = s.claims q c inside_q old in omega arith)
        (λ made. let a = count_some (new q) c made in let b = sum_at (length w.passes) q (λ q. count c.slot (new q)) inside_q in omega arith)
        (in_split c (view_at w.passes q).claims (new q) (subst (In c) (claims q inside_q) o.2)))

-- the lengths of the lists of each pass are the length of the whole
length_kept : (b : Rattle.std.proofs.Common.Bool) (e : Pushed) (l : List Pushed) → length (kept_if b e l) ≡ when b + length l
length_kept Rattle.std.proofs.Common.true e l = omega arith
length_kept Rattle.std.proofs.Common.false e l = omega arith

pub length_passes : (n : ℕ) (es : List Pushed) → ((e : Pushed) → In e es → e.pass < n) → sum_to n (λ p. length (of_pass p es)) ≡ length es
length_passes n [] h = sum_zero n (λ p. 0) (λ _ _. refl)
length_passes n (e ∷ es) h = let rest = length_passes n es (λ f t. h f (inr t)) in
    let put = Rattle.ghes_rule.proofs.Puts.sum_put n e.pass 1 (λ p. length (of_pass p es)) (λ p. length (of_pass p (e ∷ es))) (h e (inl refl))
    (let a = ap length (Rattle.ghes_rule.proofs.Puts.kept_same e.pass e.pass e (of_pass e.pass es) refl) in omega arith)
    (λ p other. ap length (Rattle.ghes_rule.proofs.Puts.kept_other p e.pass e (of_pass p es) other)) in
    omega arith

pub pending_counted : (w : WorkView) (s : Settled w) → length s.pending ≡ pending_count w
pending_counted w s = let n : ℕ = length w.passes in
    let a = sum_same_below n (λ p. length (view_at w.passes p).mine) (λ p. length (of_pass p (w.taken ++ s.pending))) (λ p l. ap length (s.mine p l)) in
    let b = length_passes n (w.taken ++ s.pending) s.owner in let c = Rattle.std.proofs.Common.length-append w.taken s.pending in omega arith
  where
    sum_same_below : (n : ℕ) (f g : ℕ → ℕ) → ((j : ℕ) → j < n → f j ≡ g j) → sum_to n f ≡ sum_to n g
    sum_same_below = sum_same

-- the claims that were made, where there are so many
pub some_slot : (k : ℕ) (w w' : WorkView) (made : ℕ → ℕ) → Settled w → Settled w' → FoundAll k w w' → MadeIn w w' made → k ≤ pending_count w + sum_to (length w.passes) made
some_slot k w w' made s s' f m =
    let new : ℕ → List Turn = λ q. pick_new q (native.Mathlib.Decide.dec_le (length w.passes) q) in
    let a = no_slot k f.pass w w' s f.finds f.before f.after new s' f.bare f.many f.inside f.are f.found (λ q l. claims_new q l (native.Mathlib.Decide.dec_le (length w.passes) q)) in
    let b = sum_same (length w.passes) (λ q. length (new q)) made (λ q l. length_new q l (native.Mathlib.Decide.dec_le (length w.passes) q)) in let c = pending_counted w s in omega arith
  where
    pick_new : (q : ℕ) → Dec (length w.passes ≤ q) → List Turn
    pick_new q (yes _) = []
    pick_new q (no ne) = (m q (omega arith)).0

    claims_new : (q : ℕ) → q < length w.passes → (d : Dec (length w.passes ≤ q)) → (view_at w'.passes q).claims ≡ (view_at w.passes q).claims ++ pick_new q d
    claims_new q l (yes h) = absurd (omega arith)
    claims_new q l (no ne) = (m q (omega arith)).1

    length_new : (q : ℕ) → q < length w.passes → (d : Dec (length w.passes ≤ q)) → length (pick_new q d) ≡ made q
    length_new q l (yes h) = absurd (omega arith)
    length_new q l (no ne) = (m q (omega arith)).2
