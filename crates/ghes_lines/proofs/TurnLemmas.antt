-- The calls of a line `run` stand by context, and those of a context are along its turns.
use Rattle.std.proofs.Common.{◌≡◌, ◌≤◌, ◌<◌, ℕ, zero, suc, ◌+◌, ◌-◌, Bool, true, false, cond, eqb, inl, inr, List, [], ◌∷◌, ◌++◌, length, refl, sym, ap, subst, ◌∙◌, arith, append-nil, append_assoc}
use Rattle.std.specs.Prelude.{filter}
use Rattle.std.specs.List.{flat_map, range_with_len, AllByRecursion}
use Rattle.std.proofs.lemmas.Bool.{eq-eqb, ne_eqb, cases_lt}
use Rattle.std.proofs.lemmas.List.Concat.{flat_map-append}
use Rattle.std.proofs.lemmas.List.Elements.{filter-append}
use Rattle.ghes_call.specs.declared.call.Call.{Call}
use Rattle.ghes_desk.proofs.RangeLemmas.{range_step}
use Rattle.ghes_ledger.proofs.CallsAlike.{range-add}
use Rattle.ghes_ledger.specs.History.{of_context}
use Rattle.ghes_ledger.specs.Outcomes.{ends_turns}
use Rattle.ghes_ledger.specs.Plan.{Plan, served}
use Rattle.ghes_ledger.specs.Turns.{turns, IfThenElse, Along, AreTurns}
use Rattle.ghes_lines.specs.Machine.{server_of, plan_of, FitsSource, IsMachine}
use Rattle.ghes_lines.specs.Midway.{Ahead, IsPart, Visits, MakesTurn}
use Rattle.ghes_lines.specs.declared.machine.Machine.{Machine}
use Rattle.ghes_lines.proofs.LedLemmas.{there_is, all_at}

abbrev no_calls : List Call
no_calls = []

all_append : (Q : Call → Type 0) (xs ys : List Call) → AllByRecursion Q xs → AllByRecursion Q ys → AllByRecursion Q (xs ++ ys)
all_append Q [] ys these those = those
all_append Q (x ∷ xs) ys these those = (these.0, all_append Q xs ys these.1 those)

-- One context

ahead_then : (ended : Bool) (all left left' : List ℕ) (xs ys : List Call) → Ahead false all left xs → Ahead ended left left' ys → Ahead ended all left' (xs ++ ys)
ahead_then true all left left' xs ys first next = first ys next
ahead_then false all left left' xs ys first next = λ rest along. subst (λ zs. Along all zs) (sym (append_assoc xs ys rest)) (first (ys ++ rest) (next rest along))

ahead_one : (ended : Bool) (s : ℕ) (more : List ℕ) (call : Call) → call.source ≡ s → ends_turns call.reply.outcome ≡ ended → Ahead ended (s ∷ more) more (call ∷ [])
ahead_one true s more call at is = (at, subst (λ (b : Bool). IfThenElse b (no_calls ≡ []) (Along more [])) (sym is) refl)
ahead_one false s more call at is = λ rest along. (at, subst (λ (b : Bool). IfThenElse b (rest ≡ []) (Along more rest)) (sym is) along)

-- no call yet
pub part_none : (c : ℕ) (all : List ℕ) (calls : List Call) → IsPart c all all false calls calls
part_none c all calls = record { added = []; now = sym (append-nil calls); own = tt; ahead = λ rest along. along }

-- one call
pub part_one : (c s : ℕ) (more : List ℕ) (calls : List Call) (call : Call) → call.source ≡ s → call.context ≡ c → IsPart c (s ∷ more) more (ends_turns call.reply.outcome) calls (calls ++ call ∷ [])
part_one c s more calls call at own = record { added = call ∷ []; now = refl; own = (own, tt); ahead = ahead_one (ends_turns call.reply.outcome) s more call at refl }

-- some calls, and then others
pub part_then : (c : ℕ) (ended : Bool) (all left left' : List ℕ) (xs ys zs : List Call) → IsPart c all left false xs ys → IsPart c left left' ended ys zs → IsPart c all left' ended xs zs
part_then c ended all left left' xs ys zs a b = record {
  added = a.added ++ b.added;
  now = b.now ∙ ap (λ calls. calls ++ b.added) a.now ∙ append_assoc xs a.added b.added;
  own = all_append (λ call. call.context ≡ c) a.added b.added a.own b.own;
  ahead = ahead_then ended all left left' a.added b.added a.ahead b.ahead;
}

-- what is left does not matter to a context that has ended its turns
pub part_ended : (c : ℕ) (all left left' : List ℕ) (xs ys : List Call) → IsPart c all left true xs ys → IsPart c all left' true xs ys
part_ended c all left left' xs ys p = record { added = p.added; now = p.now; own = p.own; ahead = p.ahead }

-- a context ends its turns where none is left
pub part_whole : (c : ℕ) (all : List ℕ) (xs ys : List Call) → IsPart c all [] false xs ys → IsPart c all [] true xs ys
part_whole c all xs ys p = record { added = p.added; now = p.now; own = p.own; ahead = subst (λ calls. Along all calls) (append-nil p.added) (p.ahead [] refl) }

-- All contexts below one

-- the calls of the contexts below this one, context by context, each along so many turns
abbrev pub ByContexts : Plan → ℕ → ℕ → List Call → Type 0
ByContexts plan n zero calls = calls ≡ []
ByContexts plan n (suc c) calls = (front : List Call) × ByContexts plan n c front × IsPart c (turns n (served plan c)) [] true front calls

of_own : (c : ℕ) (calls : List Call) → AllByRecursion (λ call. call.context ≡ c) calls → of_context c calls ≡ calls
of_own c [] all = refl
of_own c (call ∷ calls) all = ap (λ b. cond b (call ∷ of_context c calls) (of_context c calls)) (eq-eqb call.context c all.0) ∙ ap (λ rest. call ∷ rest) (of_own c calls all.1)

of_other : (c d : ℕ) (calls : List Call) → AllByRecursion (λ call. call.context ≡ c) calls → (c ≡ d → ⊥) → of_context d calls ≡ []
of_other c d [] all differ = refl
of_other c d (call ∷ calls) all differ = ap (λ b. cond b (call ∷ of_context d calls) (of_context d calls)) (ne_eqb call.context d (λ e. differ (sym all.0 ∙ e))) ∙ of_other c d calls all.1 differ

of_above : (c d : ℕ) (calls : List Call) → AllByRecursion (λ call. call.context < c) calls → c ≤ d → of_context d calls ≡ []
of_above c d [] all above = refl
of_above c d (call ∷ calls) all above = ap (λ b. cond b (call ∷ of_context d calls) (of_context d calls)) (ne_eqb call.context d (λ e. omega (arith, all.0))) ∙ of_above c d calls all.1 above

below_later : (c : ℕ) (calls : List Call) → AllByRecursion (λ call. call.context < c) calls → AllByRecursion (λ call. call.context < suc c) calls
below_later c [] all = tt
below_later c (call ∷ calls) all = (omega (arith, all.0), below_later c calls all.1)

own_below : (c : ℕ) (calls : List Call) → AllByRecursion (λ call. call.context ≡ c) calls → AllByRecursion (λ call. call.context < suc c) calls
own_below c [] all = tt
own_below c (call ∷ calls) all = (omega (arith, all.0), own_below c calls all.1)

-- what is the same at each number of a range
same_in : (f g : ℕ → List Call) (a n : ℕ) → ((d : ℕ) → d < a + n → f d ≡ g d) → flat_map f (range_with_len a n) ≡ flat_map g (range_with_len a n)
same_in f g a zero same = refl
same_in f g a (suc n) same =
    ap (λ front. front ++ flat_map f (range_with_len (a + 1) n)) (same a (omega arith))
    ∙ ap (λ rest. g a ++ rest) (same_in f g (a + 1) n (λ d less. same d (omega (arith, less))))

record IsSplit (plan : Plan) (n c : ℕ) (calls : List Call) : Type 0 where
  below : AllByRecursion (λ call. call.context < c) calls
  by_context : calls ≡ flat_map (λ d. of_context d calls) (range_with_len 0 c)
  along : (d : ℕ) → d < c → Along (turns n (served plan d)) (of_context d calls)

split_more : (plan : Plan) (n c : ℕ) (front added : List Call) → IsSplit plan n c front → AllByRecursion (λ call. call.context ≡ c) added → Along (turns n (served plan c)) added → IsSplit plan n (suc c) (front ++ added)
split_more plan n c front added s own along =
    let each : (d : ℕ) → of_context d (front ++ added) ≡ of_context d front ++ of_context d added = λ d. filter-append (λ call. eqb call.context d) front added in
    let old : (d : ℕ) → d < c → of_context d front ≡ of_context d (front ++ added) = λ d less.
    sym (append-nil (of_context d front)) ∙ ap (λ xs. of_context d front ++ xs) (sym (of_other c d added own (λ e. omega arith))) ∙ sym (each d) in
    let new : of_context c (front ++ added) ≡ added =
    each c ∙ ap (λ xs. xs ++ of_context c added) (of_above c c front s.below (omega arith)) ∙ of_own c added own in
    let whole : ℕ → List Call = λ d. of_context d (front ++ added) in
    let last : 0 + c ≡ c = omega arith in
    let longer : c + 1 ≡ suc c = omega arith in
    record {
      below = all_append (λ call. call.context < suc c) front added (below_later c front s.below) (own_below c added own);
      by_context =
          ap (λ xs. xs ++ added) (s.by_context ∙ same_in (λ d. of_context d front) whole 0 c (λ d less. old d (omega (arith, less))))
          ∙ ap (λ xs. flat_map whole (range_with_len 0 c) ++ xs) (sym (append-nil _ ∙ ap whole last ∙ new))
          ∙ sym (flat_map-append whole (range_with_len 0 c) (range_with_len (0 + c) 1))
          ∙ ap (flat_map whole) (sym (range-add 0 c 1)) ∙ ap (λ m. flat_map whole (range_with_len 0 m)) longer;
      along = λ d less. elim (cases_lt d c) [
        | inl inside ↦ subst (λ xs. Along (turns n (served plan d)) xs) (old d inside) (s.along d inside)
        | inr past ↦
            let same : c ≡ d = omega (arith, past, less) in
            subst (λ (e : ℕ). Along (turns n (served plan e)) (of_context e (front ++ added))) same (subst (λ xs. Along (turns n (served plan c)) xs) (sym new) along)
      ];
    }

split_of : (plan : Plan) (n c : ℕ) (calls : List Call) → ByContexts plan n c calls → IsSplit plan n c calls
split_of plan n zero calls none =
    subst (λ (xs : List Call). IsSplit plan n 0 xs) (sym none) (record { below = tt; by_context = refl; along = λ d less. absurd (omega (arith, less)) })
split_of plan n (suc c) calls all =
    subst (λ (xs : List Call). IsSplit plan n (suc c) xs) (sym all.2.now) (split_more plan n c all.0 all.2.added (split_of plan n c all.0 all.1) all.2.own all.2.ahead)

turns_none : (n : ℕ) → turns n [] ≡ []
turns_none zero = refl
turns_none (suc n) = turns_none n

served_none : (plan : Plan) (d a n : ℕ) → ((s : ℕ) → s < a + n → plan.server s ≡ d → ⊥) → filter (λ s. eqb (plan.server s) d) (range_with_len a n) ≡ []
served_none plan d a zero none = refl
served_none plan d a (suc n) none =
    let rest = filter (λ s. eqb (plan.server s) d) (range_with_len (a + 1) n) in
    ap (λ b. cond b (a ∷ rest) rest) (ne_eqb (plan.server a) d (none a (omega arith))) ∙ served_none plan d (a + 1) n (λ s less. none s (omega (arith, less)))

pub turns_of : (plan : Plan) (n : ℕ) (calls : List Call) → ((s : ℕ) → s < plan.sources → plan.server s < plan.contexts) → ByContexts plan n plan.contexts calls → AreTurns plan n calls
turns_of plan n calls servers all =
    let split = split_of plan n plan.contexts calls all in
    record {
      by_context = split.by_context;
      along = λ d. elim (cases_lt d plan.contexts) [
        | inl inside ↦ split.along d inside
        | inr past ↦
            let none : served plan d ≡ [] = served_none plan d 0 plan.sources (λ s less e. omega (arith, past, servers s (omega (arith, less)))) in
            let no_turns : turns n (served plan d) ≡ [] = ap (turns n) none ∙ turns_none n in
            subst (λ (ss : List ℕ). Along ss (of_context d calls)) (sym no_turns) (of_above plan.contexts d calls split.below past)
      ];
    }

-- each source of a machine is served by one of its contexts
pub servers_below : (block_len : ℕ) (machine : Machine) → IsMachine block_len machine → (s : ℕ) → s < length machine.sources.items → (plan_of machine).server s < machine.contexts
servers_below block_len machine is s inside =
    let source = there_is machine.sources.items s inside in
    let server : (plan_of machine).server s ≡ source.0.server = ap server_of source.1 in
    let fits : FitsSource machine.contexts block_len source.0 = all_at _ machine.sources.items s source.0 is.sources source.1 in
    omega (arith, server, fits.server)

-- Along the sources of a turn

-- the sources from a position on
abbrev pub served_from : Plan → ℕ → ℕ → List ℕ
served_from plan c at = filter (λ s. eqb (plan.server s) c) (range_with_len at (plan.sources - at))

cond_front : (b : Bool) (s : ℕ) (rest more : List ℕ) → cond b (s ∷ rest) rest ++ more ≡ cond b (s ∷ (rest ++ more)) (rest ++ more)
cond_front true s rest more = refl
cond_front false s rest more = refl

pub served_all : (plan : Plan) (c : ℕ) → served_from plan c 0 ≡ served plan c
served_all plan c = let whole : plan.sources - 0 ≡ plan.sources = omega arith in ap (λ n. filter (λ s. eqb (plan.server s) c) (range_with_len 0 n)) whole

pub served_end : (plan : Plan) (c at : ℕ) → plan.sources ≤ at → served_from plan c at ≡ []
served_end plan c at past = let none : plan.sources - at ≡ 0 = omega (arith, past) in ap (λ n. filter (λ s. eqb (plan.server s) c) (range_with_len at n)) none

pub served_step : (plan : Plan) (c at : ℕ) (more : List ℕ) → at < plan.sources → served_from plan c at ++ more ≡ cond (eqb (plan.server at) c) (at ∷ (served_from plan c (at + 1) ++ more)) (served_from plan c (at + 1) ++ more)
served_step plan c at more less =
    ap (λ ss. filter (λ s. eqb (plan.server s) c) ss ++ more) (range_step at plan.sources less)
    ∙ cond_front (eqb (plan.server at) c) at (served_from plan c (at + 1)) more

-- one source more
pub turn_step : (plan : Plan) (c at : ℕ) (ended ended' : Bool) (all more : List ℕ) (xs ys zs : List Call) → at < plan.sources → ended ≡ false → IsPart c all (served_from plan c at ++ more) ended xs ys → Visits plan c at ended' ys zs → IsPart c all (served_from plan c (at + 1) ++ more) ended' xs zs
turn_step plan c at ended ended' all more xs ys zs less go part visit =
    let next = served_from plan c (at + 1) ++ more in
    part_then c ended' all (served_from plan c at ++ more) next xs ys zs
    (subst (λ (b : Bool). IsPart c all (served_from plan c at ++ more) b xs ys) go part)
    (subst (λ (ss : List ℕ). IsPart c ss next ended' ys zs) (sym (served_step plan c at more less)) (visit next))

-- and all of them
pub turn_whole : (plan : Plan) (c at : ℕ) (ended : Bool) (all more : List ℕ) (xs ys : List Call) → (ended ≡ false → plan.sources ≤ at) → IsPart c all (served_from plan c at ++ more) ended xs ys → IsPart c all more ended xs ys
turn_whole plan c at true all more xs ys past part = part_ended c all (served_from plan c at ++ more) more xs ys part
turn_whole plan c at false all more xs ys past part = subst (λ (ss : List ℕ). IsPart c all (ss ++ more) false xs ys) (served_end plan c at (past refl)) part

-- one turn more
pub turns_step : (plan : Plan) (c left : ℕ) (ended ended' : Bool) (all : List ℕ) (xs ys zs : List Call) → 0 < left → ended ≡ false → IsPart c all (turns left (served plan c)) ended xs ys → MakesTurn plan c ended' ys zs → IsPart c all (turns (left - 1) (served plan c)) ended' xs zs
turns_step plan c left ended ended' all xs ys zs more go part turn =
    let next = turns (left - 1) (served plan c) in
    let one : left ≡ suc (left - 1) = omega (arith, more) in
    part_then c ended' all (turns left (served plan c)) next xs ys zs
    (subst (λ (b : Bool). IsPart c all (turns left (served plan c)) b xs ys) go part)
    (subst (λ (k : ℕ). IsPart c (turns k (served plan c)) next ended' ys zs) (sym one) (turn next))

-- and all of them
pub turns_whole : (c left : ℕ) (ended : Bool) (all sources : List ℕ) (xs ys : List Call) → (ended ≡ false → left ≡ 0) → IsPart c all (turns left sources) ended xs ys → IsPart c all [] true xs ys
turns_whole c left true all sources xs ys none part = part_ended c all (turns left sources) [] xs ys part
turns_whole c left false all sources xs ys none part = part_whole c all xs ys (subst (λ (k : ℕ). IsPart c all (turns k sources) false xs ys) (none refl) part)

-- one context more
pub contexts_step : (plan : Plan) (n c : ℕ) (xs ys : List Call) → ByContexts plan n c xs → IsPart c (turns n (served plan c)) [] true xs ys → ByContexts plan n (c + 1) ys
contexts_step plan n c xs ys by part = let next : suc c ≡ c + 1 = omega arith in subst (λ k. ByContexts plan n k ys) next (xs, by, part)
