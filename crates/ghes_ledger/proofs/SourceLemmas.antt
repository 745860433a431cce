-- The calls on a source are the same, in the same order, in a history and in its ledger.
use Rattle.std.proofs.Common.{◌≡◌, ℕ, zero, suc, ◌+◌, ◌<◌, ◌≤◌, ◌≢◌, inl, inr, Bool, true, false, cond, eqb, List, [], ◌∷◌, ◌++◌, refl, sym, ap, ◌∙◌, arith, append-nil}
use Rattle.std.specs.Prelude.{filter}
use Rattle.std.specs.List.{flat_map, range_with_len, AllByRecursion}
use Rattle.std.proofs.lemmas.Bool.{eqb-true, eq-eqb, ne_eqb, cases_lt}
use Rattle.std.proofs.lemmas.List.Elements.{filter-append}
use Rattle.ghes_call.specs.declared.call.Call.{Call}
use Rattle.ghes_ledger.specs.History.{Executed, calls_in, on_source, by_source, kept_calls, Each, EachCall}
use Rattle.ghes_ledger.specs.Plan.{Plan, all_sources}
use Rattle.ghes_ledger.specs.Lawful.{IsLawfulCall, IsLawfulLine}

cond_nil : (b : Bool) (xs : List Call) → xs ≡ [] → [] ≡ cond b xs []
cond_nil true xs e = sym e
cond_nil false xs e = refl

-- a filter goes into a `flat_map`
filter-flat_map : {X A : Type 0} (p : A → Bool) (f : X → List A) (xs : List X) → filter p (flat_map f xs) ≡ flat_map (λ x. filter p (f x)) xs
filter-flat_map p f [] = refl
filter-flat_map p f (x ∷ xs) = filter-append p (f x) (flat_map f xs) ∙ ap (λ rest. filter p (f x) ++ rest) (filter-flat_map p f xs)

-- what is the same at each element
pub flat_map_same : {X A : Type 0} (f g : X → List A) (xs : List X) → ((x : X) → f x ≡ g x) → flat_map f xs ≡ flat_map g xs
flat_map_same f g [] same = refl
flat_map_same f g (x ∷ xs) same = ap (λ front. front ++ flat_map f xs) (same x) ∙ ap (λ rest. g x ++ rest) (flat_map_same f g xs same)

-- the calls on a source among those on one source
on_both_here : (b here : Bool) (s t : ℕ) (x : Call) (xs : List Call) → eqb x.source t ≡ b → eqb t s ≡ here → on_source s (on_source t xs) ≡ cond here (on_source s xs) [] → on_source s (cond b (x ∷ on_source t xs) (on_source t xs)) ≡ cond here (on_source s (x ∷ xs)) []
on_both_here true true s t x xs e h rest =
    let is : eqb x.source s ≡ true = ap (λ n. eqb n s) (eqb-true x.source t e) ∙ h in
    ap (λ b. cond b (x ∷ on_source s (on_source t xs)) (on_source s (on_source t xs))) is
    ∙ ap (λ ys. x ∷ ys) rest ∙ sym (ap (λ b. cond b (x ∷ on_source s xs) (on_source s xs)) is)
on_both_here true false s t x xs e h rest =
    let is : eqb x.source s ≡ false = ap (λ n. eqb n s) (eqb-true x.source t e) ∙ h in
    ap (λ b. cond b (x ∷ on_source s (on_source t xs)) (on_source s (on_source t xs))) is ∙ rest
on_both_here false true s t x xs e h rest =
    let same : t ≡ s = eqb-true t s h in
    let is : eqb x.source s ≡ false = ap (eqb x.source) (sym same) ∙ e in
    rest ∙ sym (ap (λ b. cond b (x ∷ on_source s xs) (on_source s xs)) is)
on_both_here false false s t x xs e h rest = rest

on_both : (s t : ℕ) (calls : List Call) → on_source s (on_source t calls) ≡ cond (eqb t s) (on_source s calls) []
on_both s t [] = cond_nil (eqb t s) [] refl
on_both s t (x ∷ xs) = on_both_here (eqb x.source t) (eqb t s) s t x xs refl refl (on_both s t xs)

-- a list at its own place in a range, and nothing at all others
pick_below : (xs : List Call) (s a n : ℕ) → s < a → flat_map (λ t. cond (eqb t s) xs []) (range_with_len a n) ≡ []
pick_below xs s a zero less = refl
pick_below xs s a (suc n) less =
    ap (λ b. cond b xs [] ++ flat_map (λ t. cond (eqb t s) xs []) (range_with_len (a + 1) n)) (ne_eqb a s (λ e. omega arith))
    ∙ pick_below xs s (a + 1) n (omega arith)

pick_past : (xs : List Call) (s a n : ℕ) → a + n ≤ s → flat_map (λ t. cond (eqb t s) xs []) (range_with_len a n) ≡ []
pick_past xs s a zero less = refl
pick_past xs s a (suc n) less =
    ap (λ b. cond b xs [] ++ flat_map (λ t. cond (eqb t s) xs []) (range_with_len (a + 1) n)) (ne_eqb a s (λ e. omega arith))
    ∙ pick_past xs s (a + 1) n (omega arith)

false_not_true : false ≡ true → ⊥
false_not_true x = cc

pick_at : (b : Bool) (xs : List Call) (s a n : ℕ) → eqb a s ≡ b → a ≤ s → s < a + suc n → (a + 1 ≤ s → flat_map (λ t. cond (eqb t s) xs []) (range_with_len (a + 1) n) ≡ xs) → cond b xs [] ++ flat_map (λ t. cond (eqb t s) xs []) (range_with_len (a + 1) n) ≡ xs
pick_at true xs s a n e low high later = ap (λ rest. xs ++ rest) (pick_below xs s (a + 1) n (omega (arith, eqb-true a s e))) ∙ append-nil xs
pick_at false xs s a n e low high later =
    let differ : a ≢ s = λ same. false_not_true (sym e ∙ eq-eqb a s same) in
    later (omega (arith, differ))

pick_within : (xs : List Call) (s a n : ℕ) → a ≤ s → s < a + n → flat_map (λ t. cond (eqb t s) xs []) (range_with_len a n) ≡ xs
pick_within xs s a zero low high = absurd (omega arith)
pick_within xs s a (suc n) low high = pick_at (eqb a s) xs s a n refl low high (λ next. pick_within xs s (a + 1) n next (omega arith))

-- no call is on a source that there is not
none_beyond : (s n : ℕ) (calls : List Call) → n ≤ s → AllByRecursion (λ call. call.source < n) calls → on_source s calls ≡ []
none_beyond s n [] beyond all = refl
none_beyond s n (call ∷ calls) beyond all =
    ap (λ b. cond b (call ∷ on_source s calls) (on_source s calls)) (ne_eqb call.source s (λ e. omega (arith, all.0)))
    ∙ none_beyond s n calls beyond all.1

pub on_source-by_source : (plan : Plan) (s : ℕ) (calls : List Call) → AllByRecursion (λ call. call.source < plan.sources) calls → on_source s (by_source plan calls) ≡ on_source s calls
on_source-by_source plan s calls all =
    filter-flat_map (λ call. eqb call.source s) (λ t. on_source t calls) (all_sources plan)
    ∙ flat_map_same (λ t. on_source s (on_source t calls)) (λ t. cond (eqb t s) (on_source s calls) []) (all_sources plan) (λ t. on_both s t calls)
    ∙ elim (cases_lt s plan.sources) [
      | inl inside ↦ pick_within (on_source s calls) s 0 plan.sources (omega arith) (omega arith)
      | inr beyond ↦ pick_past (on_source s calls) s 0 plan.sources (omega arith) ∙ sym (none_beyond s plan.sources calls beyond all)
    ]

pub sources_of : (plan : Plan) (before : List Executed) (line : Executed) (past calls : List Call) → EachCall (IsLawfulCall plan before line) past calls → AllByRecursion (λ call. call.source < plan.sources) calls
sources_of plan before line past [] all = tt
sources_of plan before line past (call ∷ calls) all = (all.0.by.source, sources_of plan before line (past ++ call ∷ []) calls all.1)

-- the ledger's calls on a source are the history's
pub on_source-kept : (plan : Plan) (s : ℕ) (history : List Executed) → Each (IsLawfulLine plan) history → on_source s (kept_calls plan history) ≡ on_source s (calls_in history)
on_source-kept plan s [] by = refl
on_source-kept plan s (line ∷ before) by =
    filter-append (λ call. eqb call.source s) (kept_calls plan before) (by_source plan line.calls)
    ∙ ap (λ xs. xs ++ on_source s (by_source plan line.calls)) (on_source-kept plan s before by.0)
    ∙ ap (λ xs. on_source s (calls_in before) ++ xs) (on_source-by_source plan s line.calls (sources_of plan before line (calls_in before) line.calls by.1.each_call))
    ∙ sym (filter-append (λ call. eqb call.source s) (calls_in before) line.calls)
