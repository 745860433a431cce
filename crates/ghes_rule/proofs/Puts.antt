-- A function changed at one number, sums over numbers, and lists that grow at the end.
use Rattle.std.proofs.Common.{◌≡◌, ◌≢◌, ◌⊎◌, ℕ, zero, suc, ◌+◌, ◌-◌, ◌*◌, ◌<◌, ◌≤◌, eqb, Bool, true, false, List, [], ◌∷◌, ◌++◌, length, map, get_or, sym, refl, ap, ◌∙◌, subst, arith, inl, inr, ⊎_elim, eq-eqb, ne_eqb, take, drop, length-append, append-nil}
use mathlib.Core.Logic.{dite}
use mathlib.Core.Option.{some, none, some-injective, some-ne-none}
use native.Mathlib.Decide.{ℕ_discrete, dec_le}
use lib.ListN.{get_elem?}
use Rattle.ghes_rule.specs.declared.views.Turn.{Turn}
use Rattle.ghes_rule.specs.declared.views.Pushed.{Pushed}
use Rattle.ghes_rule.specs.Kept.{In, when, count, count_in, kept_if, of_pass, sum_to, turn, pushed_slot}
use Rattle.ghes_rule.specs.Moves.{tab}

abbrev pick : {A : Type 0} {P : Type 0} → Dec P → A → A → A
pick (yes _) a b = a
pick (no _) a b = b

module _ {A : Type 0} where
  pub put : (ℕ → A) → ℕ → A → ℕ → A
  put f i c j = pick (ℕ_discrete j i) c (f j)

  pub put_here : (f : ℕ → A) (i : ℕ) (c : A) → put f i c i ≡ c
  unfolding put
  put_here f i c = go (ℕ_discrete i i)
    where
      go : (d : Dec (i ≡ i)) → pick d c (f i) ≡ c
      go (yes _) = refl
      go (no n) = absurd (n refl)

  pub put_at : (f : ℕ → A) (i : ℕ) (c : A) (j : ℕ) → j ≡ i → put f i c j ≡ c
  put_at f i c j e = ap (put f i c) e ∙ put_here f i c

  pub put_else : (f : ℕ → A) (i : ℕ) (c : A) (j : ℕ) → j ≢ i → put f i c j ≡ f j
  unfolding put
  put_else f i c j other = go (ℕ_discrete j i)
    where
      go : (d : Dec (j ≡ i)) → pick d c (f j) ≡ f j
      go (yes e) = absurd (other e)
      go (no _) = refl

  -- a fact of each number, over a change at one
  pub put_all : (F : ℕ → A → Type 0) (f : ℕ → A) (i : ℕ) (c : A) (j : ℕ) → (j ≡ i → F j c) → (j ≢ i → F j (f j)) → F j (put f i c j)
  put_all F f i c j here there = dite (ℕ_discrete j i) (λ e. subst (F j) (sym (put_at f i c j e)) (here e)) (λ n. subst (F j) (sym (put_else f i c j n)) (there n))

  pub put_field : {B : Type 0} (g : A → B) (f : ℕ → A) (i : ℕ) (c : A) → g c ≡ g (f i) → (j : ℕ) → g (put f i c j) ≡ g (f j)
  put_field g f i c same j = put_all (λ q x. g x ≡ g (f q)) f i c j (λ e. same ∙ ap (λ q. g (f q)) (sym e)) (λ _. refl)

  pub in_longer : (x : A) (xs ys : List A) → In x xs → In x (xs ++ ys)
  in_longer x [] ys h = absurd h
  in_longer x (y ∷ xs) ys h = ⊎_elim (λ e. inl e) (λ t. inr (in_longer x xs ys t)) h

  pub in_last : (xs : List A) (x : A) → In x (xs ++ x ∷ [])
  in_last [] x = inl refl
  in_last (y ∷ xs) x = inr (in_last xs x)

  pub in_snoc : (x : A) (xs : List A) (y : A) → In x (xs ++ y ∷ []) → In x xs ⊎ (x ≡ y)
  in_snoc x [] y h = ⊎_elim (λ e. inr e) (λ f. absurd f) h
  in_snoc x (z ∷ xs) y h = ⊎_elim (λ e. inl (inl e)) (λ t. ⊎_elim (λ a. inl (inr a)) (λ e. inr e) (in_snoc x xs y t)) h

  pub at_in : (xs : List A) (i : ℕ) (x : A) → get_elem? xs i ≡ some x → In x xs
  at_in [] i x e = absurd (some-ne-none x (sym e))
  at_in (y ∷ ys) zero x e = inl (sym (some-injective y x e))
  at_in (y ∷ ys) (suc i) x e = inr (at_in ys i x e)

pub sum_same : (n : ℕ) (f g : ℕ → ℕ) → ((j : ℕ) → j < n → f j ≡ g j) → sum_to n f ≡ sum_to n g
sum_same zero f g h = refl
sum_same (suc n) f g h = let a = h n (omega arith) in let b = sum_same n f g (λ j l. h j (omega arith)) in omega arith

pub sum_put : (n i c : ℕ) (f g : ℕ → ℕ) → i < n → g i ≡ f i + c → ((j : ℕ) → j ≢ i → g j ≡ f j) → sum_to n g ≡ sum_to n f + c
sum_put zero i c f g h a b = absurd (omega arith)
sum_put (suc n) i c f g h a b = dite (ℕ_discrete n i)
    (λ e. let here : g n ≡ f n + c = ap g e ∙ (a ∙ ap (λ j. f j + c) (sym e)) in let rest = sum_same n g f (λ j l. b j (λ q. omega arith)) in omega arith)
    (λ e. let here = b n e in let rest = sum_put n i c f g (omega arith) a b in omega arith)

pub sum_add : (n : ℕ) (f g : ℕ → ℕ) → sum_to n (λ j. f j + g j) ≡ sum_to n f + sum_to n g
sum_add zero f g = refl
sum_add (suc n) f g = let r = sum_add n f g in omega arith

pub sum_zero : (n : ℕ) (f : ℕ → ℕ) → ((j : ℕ) → j < n → f j ≡ 0) → sum_to n f ≡ 0
sum_zero zero f h = refl
sum_zero (suc n) f h = let a = h n (omega arith) in let b = sum_zero n f (λ j l. h j (omega arith)) in omega arith

pub sum_most : (n c : ℕ) (f : ℕ → ℕ) → ((j : ℕ) → j < n → f j ≤ c) → sum_to n f ≤ n * c
sum_most zero c f h = omega arith
sum_most (suc n) c f h = let a = h n (omega arith) in let b = sum_most n c f (λ j l. h j (omega arith)) in let e : suc n * c ≡ n * c + c = Rattle.std.proofs.Common.suc-mul n c in omega arith

pub when_same : (i j : ℕ) → i ≡ j → when (eqb i j) ≡ 1
when_same i j e = ap when (eq-eqb i j e)

pub when_other : (i j : ℕ) → i ≢ j → when (eqb i j) ≡ 0
when_other i j e = ap when (ne_eqb i j e)

pub count_snoc : (i : ℕ) (cs : List Turn) (c : Turn) → count i (cs ++ c ∷ []) ≡ count i cs + when (eqb i c.slot)
count_snoc i [] c = omega arith
count_snoc i (d ∷ cs) c = let r = count_snoc i cs c in omega arith

pub count_most : (i : ℕ) (cs : List Turn) → count i cs ≤ length cs
count_most i [] = omega arith
count_most i (c ∷ cs) = let r = count_most i cs in let s = small (eqb i c.slot) in omega arith
  where
    small : (b : Bool) → when b ≤ 1
    small true = omega arith
    small false = omega arith

pub count_in_append : (i : ℕ) (es fs : List Pushed) → count_in i (es ++ fs) ≡ count_in i es + count_in i fs
count_in_append i [] fs = omega arith
count_in_append i (e ∷ es) fs = let r = count_in_append i es fs in omega arith

pub kept_same : (p q : ℕ) (e : Pushed) (l : List Pushed) → p ≡ q → kept_if (eqb p q) e l ≡ e ∷ l
kept_same p q e l s = ap (λ b. kept_if b e l) (eq-eqb p q s)

pub kept_other : (p q : ℕ) (e : Pushed) (l : List Pushed) → p ≢ q → kept_if (eqb p q) e l ≡ l
kept_other p q e l s = ap (λ b. kept_if b e l) (ne_eqb p q s)

kept_append : (b : Bool) (e : Pushed) (l m : List Pushed) → kept_if b e (l ++ m) ≡ kept_if b e l ++ m
kept_append true e l m = refl
kept_append false e l m = refl

pub of_pass_append : (p : ℕ) (es fs : List Pushed) → of_pass p (es ++ fs) ≡ of_pass p es ++ of_pass p fs
of_pass_append p [] fs = refl
of_pass_append p (e ∷ es) fs = ap (kept_if (eqb p e.pass) e) (of_pass_append p es fs) ∙ kept_append (eqb p e.pass) e (of_pass p es) (of_pass p fs)

pub of_pass_mine : (p : ℕ) (es : List Pushed) (e : Pushed) → e.pass ≡ p → of_pass p (es ++ e ∷ []) ≡ of_pass p es ++ e ∷ []
of_pass_mine p es e is = of_pass_append p es (e ∷ []) ∙ ap (λ l. of_pass p es ++ l) (kept_same p e.pass e [] (sym is))

pub of_pass_other : (p : ℕ) (es : List Pushed) (e : Pushed) → e.pass ≢ p → of_pass p (es ++ e ∷ []) ≡ of_pass p es
of_pass_other p es e is = of_pass_append p es (e ∷ []) ∙ (ap (λ l. of_pass p es ++ l) (kept_other p e.pass e [] (λ q. is (sym q))) ∙ append-nil (of_pass p es))

-- the pushes of all passes are the pushes
count_kept : (i : ℕ) (b : Bool) (e : Pushed) (l : List Pushed) → count_in i (kept_if b e l) ≡ when b * when (eqb i e.slot) + count_in i l
count_kept i true e l = omega arith
count_kept i false e l = omega arith

pub count_passes : (i n : ℕ) (es : List Pushed) → ((e : Pushed) → In e es → e.pass < n) → sum_to n (λ p. count_in i (of_pass p es)) ≡ count_in i es
count_passes i n [] h = sum_zero n (λ p. 0) (λ _ _. refl)
count_passes i n (e ∷ es) h =
    let rest = count_passes i n es (λ f t. h f (inr t)) in
    sum_put n e.pass (when (eqb i e.slot)) (λ p. count_in i (of_pass p es)) (λ p. count_in i (of_pass p (e ∷ es))) (h e (inl refl))
    (ap (count_in i) (kept_same e.pass e.pass e (of_pass e.pass es) refl) ∙ (let x : ℕ = when (eqb i e.slot) in let y : ℕ = count_in i (of_pass e.pass es) in let g : x + y ≡ y + x = omega arith in g))
    (λ p other. ap (count_in i) (kept_other p e.pass e (of_pass p es) other))
    ∙ (let x : ℕ = when (eqb i e.slot) in let y : ℕ = count_in i es in let g : sum_to n (λ p. count_in i (of_pass p es)) + x ≡ x + y = omega arith in g)

module _ {A : Type 0} where
  pub at_below : (xs : List A) (i : ℕ) (x : A) → get_elem? xs i ≡ some x → i < length xs
  at_below [] i x e = absurd (some-ne-none x (sym e))
  at_below (y ∷ ys) zero x e = omega arith
  at_below (y ∷ ys) (suc i) x e = let r = at_below ys i x e in omega arith

  pub at_drop : (xs : List A) (b t : ℕ) → get_elem? (drop b xs) t ≡ get_elem? xs (b + t)
  at_drop xs zero t = ap (get_elem? xs) (omega arith)
  at_drop [] (suc b) t = refl
  at_drop (y ∷ ys) (suc b) t = at_drop ys b t ∙ ap (get_elem? (y ∷ ys)) (let g : suc (b + t) ≡ suc b + t = omega arith in g)

  pub in_at : (xs : List A) (x : A) → In x xs → (i : ℕ) × (get_elem? xs i ≡ some x)
  in_at [] x h = absurd h
  in_at (y ∷ ys) x h = ⊎_elim (λ e. (0, ap some (sym e))) (λ t. let r = in_at ys x t in (suc r.0, r.1)) h

  pub one_at : (xs : List A) (i : ℕ) (x y : A) → get_elem? xs i ≡ some x → get_elem? xs i ≡ some y → x ≡ y
  one_at xs i x y a b = some-injective x y (sym a ∙ b)

pub count_none : (i : ℕ) (es : List Pushed) → ((t : ℕ) (e : Pushed) → get_elem? es t ≡ some e → e.slot ≢ i) → count_in i es ≡ 0
count_none i [] h = refl
count_none i (e ∷ es) h = let a = when_other i e.slot (λ q. h 0 e refl (sym q)) in let r = count_none i es (λ t f q. h (suc t) f q) in omega arith

pub count_once : (i t₀ : ℕ) (es : List Pushed) (e : Pushed) → get_elem? es t₀ ≡ some e → e.slot ≡ i → ((t : ℕ) (f : Pushed) → t ≢ t₀ → get_elem? es t ≡ some f → f.slot ≢ i) → count_in i es ≡ 1
count_once i t [] e at is h = absurd (some-ne-none e (sym at))
count_once i zero (f ∷ es) e at is h = let a = when_same i f.slot (sym is ∙ ap pushed_slot (sym (some-injective f e at))) in let r = count_none i es (λ t g q. h (suc t) g (λ z. omega arith) q) in omega arith
count_once i (suc t) (f ∷ es) e at is h = let a = when_other i f.slot (λ q. h 0 f (λ z. omega arith) refl (sym q)) in let r = count_once i t es e at is (λ u g n q. h (suc u) g (λ z. n (omega arith)) q) in omega arith

-- where each slot below k has a push in the list, the list has at least k of them
pub sum_whens : (k j : ℕ) → sum_to k (λ i. when (eqb i j)) ≤ 1
sum_whens k j = dite (dec_le k j)
    (λ l. let z = sum_zero k (λ i. when (eqb i j)) (λ i b. when_other i j (λ e. omega arith)) in omega arith)
    (λ l. let o = sum_put k j 1 (λ i. 0) (λ i. when (eqb i j)) (omega arith) (when_same j j refl) (λ i n. when_other i j n) in let z = sum_zero k (λ i. 0) (λ _ _. refl) in omega arith)

pub sum_counts : (k : ℕ) (es : List Pushed) → sum_to k (λ i. count_in i es) ≤ length es
sum_counts k [] = let z = sum_zero k (λ i. 0) (λ _ _. refl) in omega arith
sum_counts k (e ∷ es) = let a = sum_add k (λ i. when (eqb i e.slot)) (λ i. count_in i es) in let b = sum_whens k e.slot in let c = sum_counts k es in omega arith

pub sum_least : (k : ℕ) (f : ℕ → ℕ) → ((i : ℕ) → i < k → 0 < f i) → k ≤ sum_to k f
sum_least zero f h = omega arith
sum_least (suc k) f h = let a = h k (omega arith) in let b = sum_least k f (λ i l. h i (omega arith)) in omega arith

pub each_slot_waits : (k : ℕ) (es : List Pushed) → ((i : ℕ) → i < k → 0 < count_in i es) → k ≤ length es
each_slot_waits k es h = let a = sum_least k (λ i. count_in i es) h in let b = sum_counts k es in omega arith

pub tab_length : (b n : ℕ) (f : ℕ → ℕ) → length (tab b n f) ≡ n
tab_length b zero f = refl
tab_length b (suc n) f = let r = tab_length (suc b) n f in omega arith

pub tab_at : (b n : ℕ) (f : ℕ → ℕ) (i : ℕ) → i < n → get_or (tab b n f) i 0 ≡ f (b + i)
tab_at b zero f i h = absurd (omega arith)
tab_at b (suc n) f zero h = ap f (omega arith)
tab_at b (suc n) f (suc i) h = tab_at (suc b) n f i (omega arith) ∙ ap f (let g : suc b + i ≡ b + suc i = omega arith in g)

-- where every slot is below k, the counts of all slots are the length
sum_one : (k j : ℕ) → j < k → sum_to k (λ i. when (eqb i j)) ≡ 1
sum_one k j l = let o = sum_put k j 1 (λ i. 0) (λ i. when (eqb i j)) l (when_same j j refl) (λ i n. when_other i j n) in let z = sum_zero k (λ i. 0) (λ _ _. refl) in omega arith

pub sum_slots : (k : ℕ) (es : List Pushed) → ((t : ℕ) (e : Pushed) → get_elem? es t ≡ some e → e.slot < k) → sum_to k (λ i. count_in i es) ≡ length es
sum_slots k [] h = sum_zero k (λ i. 0) (λ _ _. refl)
sum_slots k (e ∷ es) h = let a = sum_add k (λ i. when (eqb i e.slot)) (λ i. count_in i es) in let b = sum_one k e.slot (h 0 e refl) in let c = sum_slots k es (λ t f q. h (suc t) f q) in omega arith

pub sum_few : (k : ℕ) (f : ℕ → ℕ) → ((i : ℕ) → i < k → f i ≤ 1) → sum_to k f ≤ k
sum_few zero f h = omega arith
sum_few (suc k) f h = let a = h k (omega arith) in let b = sum_few k f (λ i l. h i (omega arith)) in omega arith

pub length_drop : {A : Type 0} → (b : ℕ) (xs : List A) → b ≤ length xs → length (drop b xs) + b ≡ length xs
length_drop zero xs l = omega arith
length_drop (suc b) [] l = absurd (omega arith)
length_drop (suc b) (x ∷ xs) l = let r = length_drop b xs (omega arith) in omega arith

-- what stands in a list that grew by one
pub at_grown : {A : Type 0} → (l : List A) (a b : A) (j : ℕ) → get_elem? (l ++ a ∷ []) j ≡ some b → (get_elem? l j ≡ some b) ⊎ ((j ≡ length l) × (a ≡ b))
at_grown [] a b zero e = inr (refl, some-injective a b e)
at_grown [] a b (suc j) e = absurd (some-ne-none b (sym e))
at_grown (x ∷ xs) a b zero e = inl e
at_grown (x ∷ xs) a b (suc j) e = ⊎_elim (λ t. inl t) (λ t. inr (ap suc t.0, t.1)) (at_grown xs a b j e)
