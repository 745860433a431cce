-- The lines, the lists and the marks of a ledger determine its history, lines `run` too.
use Rattle.std.proofs.Common.{◌≡◌, ℕ, ◌+◌, Bool, true, false, cond, eqb, List, [], ◌∷◌, ◌++◌, length, take, drop, refl, sym, ap, subst, ◌∙◌, arith}
use Rattle.std.proofs.lemmas.Bool.{eqb-true, eq-eqb}
use Rattle.std.proofs.lemmas.List.{length-append, same_from_push, take_at, drop_at}
use Rattle.ghes_call.specs.declared.call.Call.{Call}
use Rattle.ghes_ledger.specs.Alike.{Injected, IsInjected}
use Rattle.ghes_ledger.specs.Asks.{Asks, Quiet, Makes, Injects, Calls, Runs, Drains, Ends}
use Rattle.ghes_ledger.specs.History.{Act, script_end, Executed, acts_in, calls_in, taken_in, on_source, of_context, by_source, kept_calls, marks_in, Each}
use Rattle.ghes_ledger.specs.Lawful.{MakesBlocks, peeked, IsLawfulLine, IsLawful}
use Rattle.ghes_ledger.specs.Kept.{Kept}
use Rattle.ghes_ledger.specs.Outcomes.{ends_turns}
use Rattle.ghes_ledger.specs.Plan.{Plan, all_contexts, served}
use Rattle.ghes_ledger.specs.Turns.{IfThenElse, turns, Along, AreTurns, AreCallsOf}
use Rattle.ghes_ledger.proofs.SourceLemmas.{on_source-by_source, sources_of, flat_map_same}
use Rattle.ghes_ledger.proofs.HistoryAlike.{made_alike, line_with}

head_call : (x y : Call) (xs ys : List Call) → x ∷ xs ≡ y ∷ ys → x ≡ y
head_call x y xs ys e = cc

rest_calls : (x y : Call) (xs ys : List Call) → x ∷ xs ≡ y ∷ ys → xs ≡ ys
rest_calls x y xs ys e = cc

-- the calls on a source with one more in front
front_here : (s : ℕ) (x : Call) (xs : List Call) → x.source ≡ s → on_source s (x ∷ xs) ≡ x ∷ on_source s xs
front_here s x xs e = ap (λ b. cond b (x ∷ on_source s xs) (on_source s xs)) (eq-eqb x.source s e)

same_rest : (b : Bool) (s t : ℕ) (x y : Call) (xs ys : List Call) → eqb t s ≡ b → x.source ≡ t → y.source ≡ t → x ≡ y → on_source s (x ∷ xs) ≡ on_source s (y ∷ ys) → on_source s xs ≡ on_source s ys
same_rest true s t x y xs ys here e f same all =
    let at : t ≡ s = eqb-true t s here in
    rest_calls x y (on_source s xs) (on_source s ys) (sym (front_here s x xs (e ∙ at)) ∙ all ∙ front_here s y ys (f ∙ at))
same_rest false s t x y xs ys here e f same all =
    let left : on_source s (x ∷ xs) ≡ on_source s xs = ap (λ b. cond b (x ∷ on_source s xs) (on_source s xs)) (ap (λ r. eqb r s) e ∙ here) in
    let right : on_source s (y ∷ ys) ≡ on_source s ys = ap (λ b. cond b (y ∷ on_source s ys) (on_source s ys)) (ap (λ r. eqb r s) f ∙ here) in
    sym left ∙ all ∙ right

along_going : (b c : Bool) (sources : List ℕ) (xs ys : List Call) → b ≡ c → IfThenElse b (xs ≡ []) (Along sources xs) → IfThenElse c (ys ≡ []) (Along sources ys) → (Along sources xs → Along sources ys → xs ≡ ys) → xs ≡ ys
along_going true true sources xs ys e a b later = a ∙ sym b
along_going true false sources xs ys e a b later = absurd cc
along_going false true sources xs ys e a b later = absurd cc
along_going false false sources xs ys e a b later = later a b

-- the calls of a context's turns are determined by those on each source
along_alike : (sources : List ℕ) (xs ys : List Call) → Along sources xs → Along sources ys → ((s : ℕ) → on_source s xs ≡ on_source s ys) → xs ≡ ys
along_alike [] xs ys a b all = a ∙ sym b
along_alike (t ∷ sources) [] ys a b all = absurd a
along_alike (t ∷ sources) (x ∷ xs) [] a b all = absurd b
along_alike (t ∷ sources) (x ∷ xs) (y ∷ ys) a b all =
    let first : x ≡ y = head_call x y (on_source t xs) (on_source t ys) (sym (front_here t x xs a.0) ∙ all t ∙ front_here t y ys b.0) in
    let rest : (s : ℕ) → on_source s xs ≡ on_source s ys = λ s. same_rest (eqb t s) s t x y xs ys refl a.0 b.0 first (all s) in
    let later : xs ≡ ys = along_going (ends_turns x.reply.outcome) (ends_turns y.reply.outcome) sources xs ys (ap (λ (z : Call). ends_turns z.reply.outcome) first) a.1 b.1 (λ u v. along_alike sources xs ys u v rest) in
    ap (λ z. z ∷ xs) first ∙ ap (λ zs. y ∷ zs) later

-- the calls of a context on a source
swap_here : (b d : Bool) (c s : ℕ) (x : Call) (xs : List Call) → eqb x.context c ≡ b → eqb x.source s ≡ d → on_source s (of_context c xs) ≡ of_context c (on_source s xs) → on_source s (cond b (x ∷ of_context c xs) (of_context c xs)) ≡ of_context c (cond d (x ∷ on_source s xs) (on_source s xs))
swap_here true true c s x xs e f rest =
    ap (λ b. cond b (x ∷ on_source s (of_context c xs)) (on_source s (of_context c xs))) f ∙ ap (λ zs. x ∷ zs) rest
    ∙ sym (ap (λ b. cond b (x ∷ of_context c (on_source s xs)) (of_context c (on_source s xs))) e)
swap_here true false c s x xs e f rest = ap (λ b. cond b (x ∷ on_source s (of_context c xs)) (on_source s (of_context c xs))) f ∙ rest
swap_here false true c s x xs e f rest = rest ∙ sym (ap (λ b. cond b (x ∷ of_context c (on_source s xs)) (of_context c (on_source s xs))) e)
swap_here false false c s x xs e f rest = rest

of_both : (c s : ℕ) (calls : List Call) → on_source s (of_context c calls) ≡ of_context c (on_source s calls)
of_both c s [] = refl
of_both c s (x ∷ xs) = swap_here (eqb x.context c) (eqb x.source s) c s x xs refl refl (of_both c s xs)

-- the calls of a run are determined by the ledger's
run_alike : (plan : Plan) (n : ℕ) (xs ys : List Call) → AreTurns plan n xs → AreTurns plan n ys → ((s : ℕ) → on_source s xs ≡ on_source s ys) → xs ≡ ys
run_alike plan n xs ys a b all =
    let each : (c : ℕ) → of_context c xs ≡ of_context c ys = λ c. along_alike (turns n (served plan c)) (of_context c xs) (of_context c ys) (a.along c) (b.along c) (λ s. of_both c s xs ∙ ap (of_context c) (all s) ∙ sym (of_both c s ys)) in
    a.by_context ∙ flat_map_same (λ c. of_context c xs) (λ c. of_context c ys) (all_contexts plan) each ∙ sym b.by_context

-- the calls of a line are determined by the ledger's
line_calls : (plan : Plan) (asks : Asks) (xs ys : List Call) → AreCallsOf plan asks xs → AreCallsOf plan asks ys → ((s : ℕ) → on_source s xs ≡ on_source s ys) → xs ≡ ys
line_calls plan (Runs n) xs ys a b all = run_alike plan n xs ys a b all
line_calls plan (Calls s) xs ys a b all =
    let one : on_source s xs ≡ a.0 ∷ [] = ap (on_source s) a.1 ∙ front_here s a.0 [] a.2 in
    let other : on_source s ys ≡ b.0 ∷ [] = ap (on_source s) b.1 ∙ front_here s b.0 [] b.2 in
    a.1 ∙ sym one ∙ all s ∙ other ∙ sym b.1
line_calls plan (Quiet note) xs ys a b all = a ∙ sym b
line_calls plan (Makes s block) xs ys a b all = a ∙ sym b
line_calls plan Injects xs ys a b all = a ∙ sym b
line_calls plan Drains xs ys a b all = a ∙ sym b
line_calls plan Ends xs ys a b all = a ∙ sym b

cut_same : {A : Type 0} (xs ys xs' ys' : List A) → xs ++ ys ≡ xs' ++ ys' → length xs ≡ length xs' → (xs ≡ xs') × (ys ≡ ys')
cut_same xs ys xs' ys' e same = (
  sym (take_at xs ys (length xs) refl) ∙ ap (take (length xs)) e ∙ take_at xs' ys' (length xs) (sym same),
  sym (drop_at xs ys (length xs) refl) ∙ ap (drop (length xs)) e ∙ drop_at xs' ys' (length xs) (sym same),
)

not_pushed : {A : Type 0} (xs : List A) (x : A) → [] ≡ xs ++ x ∷ [] → ⊥
not_pushed xs x e =
    let size : 0 ≡ length xs + 1 = ap length e ∙ length-append xs (x ∷ []) in
    omega (arith, size)

-- the marks tell how many calls and taken blocks there are
counts_are : (plan : Plan) (first second : List Executed) → marks_in plan first ≡ marks_in plan second → (length (kept_calls plan first) ≡ length (kept_calls plan second)) × (length (taken_in first) ≡ length (taken_in second))
counts_are plan [] [] e = (refl, refl)
counts_are plan [] (line ∷ before) e = absurd (not_pushed _ _ e)
counts_are plan (line ∷ before) [] e = absurd (not_pushed _ _ (sym e))
counts_are plan (line ∷ before) (other ∷ earlier) e =
    let mark = (same_from_push _ _ _ _ e).1 in
    (ap (λ m. m.calls) mark, ap (λ m. m.taken) mark)

-- a history is determined by its lines, the ledger's calls and taken blocks, the marks, and what the injections made
pub same_history : (plan : Plan) (injected : ℕ → Injected) (first second : List Executed) → acts_in first ≡ acts_in second → kept_calls plan first ≡ kept_calls plan second → taken_in first ≡ taken_in second → marks_in plan first ≡ marks_in plan second → Each (IsLawfulLine plan) first → Each (IsLawfulLine plan) second → Each (λ before line. IsInjected injected before line line.act.asks) first → Each (λ before line. IsInjected injected before line line.act.asks) second → first ≡ second
same_history plan injected [] [] acts calls taken marks l m i j = refl
same_history plan injected [] (y ∷ g) acts calls taken marks l m i j = absurd (not_pushed (acts_in g) y.act acts)
same_history plan injected (x ∷ h) [] acts calls taken marks l m i j = absurd (not_pushed (acts_in h) x.act (sym acts))
same_history plan injected (x ∷ h) (y ∷ g) acts calls taken marks l m i j =
    let old_acts = same_from_push (acts_in h) (acts_in g) x.act y.act acts in
    let old_marks = same_from_push (marks_in plan h) (marks_in plan g) _ _ marks in
    let counts = counts_are plan h g old_marks.0 in
    let old_calls = cut_same (kept_calls plan h) (by_source plan x.calls) (kept_calls plan g) (by_source plan y.calls) calls counts.0 in
    let old_taken = cut_same (taken_in h) x.taken (taken_in g) y.taken taken counts.1 in
    let then : g ≡ h = sym (same_history plan injected h g old_acts.0 old_calls.0 old_taken.0 old_marks.0 l.0 m.0 i.0 j.0) in
    let lawful : IsLawfulLine plan h y = subst (λ (b : List Executed). IsLawfulLine plan b y) then m.1 in
    let made : IsInjected injected h y y.act.asks = subst (λ (b : List Executed). IsInjected injected b y y.act.asks) then j.1 in
    let asks : y.act.asks ≡ x.act.asks = ap (λ a. a.asks) (sym old_acts.1) in
    let both = made_alike injected h x.act.asks x y l.1.makes (subst (λ (a : Asks). MakesBlocks h a y.made y.ends) asks lawful.makes) i.1 (subst (λ (a : Asks). IsInjected injected h y a) asks made) in
    let on : (s : ℕ) → on_source s x.calls ≡ on_source s y.calls = λ s.
    sym (on_source-by_source plan s x.calls (sources_of plan h x (calls_in h) x.calls l.1.each_call)) ∙ ap (on_source s) old_calls.1
    ∙ on_source-by_source plan s y.calls (sources_of plan h y (calls_in h) y.calls lawful.each_call) in
    let same_calls : x.calls ≡ y.calls = line_calls plan x.act.asks x.calls y.calls l.1.calls (subst (λ (a : Asks). AreCallsOf plan a y.calls) asks lawful.calls) on in
    let peeks : x.peeks ≡ y.peeks = l.1.peeks ∙ ap (peeked plan h) (sym asks) ∙ sym lawful.peeks in
    let now : x ≡ y =
    ap (λ a. line_with a x.made x.calls x.ends x.peeks x.taken) old_acts.1 ∙ ap (λ a. line_with y.act a x.calls x.ends x.peeks x.taken) both.0
    ∙ ap (λ a. line_with y.act y.made a x.ends x.peeks x.taken) same_calls ∙ ap (λ a. line_with y.act y.made y.calls a x.peeks x.taken) both.1
    ∙ ap (λ a. line_with y.act y.made y.calls y.ends a x.taken) peeks ∙ ap (λ a. line_with y.act y.made y.calls y.ends y.peeks a) old_taken.1 in
    ap (λ z. z ∷ h) now ∙ ap (λ b. y ∷ b) (sym then)

-- there are as many marks as lines, so the marks tell how many lines were executed
marks_of_acts : (plan : Plan) (history : List Executed) → length (marks_in plan history) ≡ length (acts_in history)
marks_of_acts plan [] = refl
marks_of_acts plan (line ∷ before) = length-append (marks_in plan before) _ ∙ ap (λ n. n + 1) (marks_of_acts plan before) ∙ sym (length-append (acts_in before) (line.act ∷ []))

executed_count : (plan : Plan) (lines : List Act) (kept : Kept) (history : List Executed) → (l : IsLawful plan lines kept history) → length kept.marks ≡ length l.executed + 1
executed_count plan lines kept history l =
    ap length l.beside.marks ∙ marks_of_acts plan history ∙ ap length l.lines_executed.acts ∙ length-append l.executed (script_end ∷ [])

-- a lawful ledger has one history, where the injections made the same
pub one_history : (plan : Plan) (injected : ℕ → Injected) (lines : List Act) (kept : Kept) (first second : List Executed) → IsLawful plan lines kept first → IsLawful plan lines kept second → Each (λ before line. IsInjected injected before line line.act.asks) first → Each (λ before line. IsInjected injected before line line.act.asks) second → first ≡ second
one_history plan injected lines kept first second l m i j =
    let size : length l.executed ≡ length m.executed = omega (arith, executed_count plan lines kept first l, executed_count plan lines kept second m) in
    let same : l.executed ≡ m.executed = (cut_same l.executed l.lines_executed.rest m.executed m.lines_executed.rest (sym l.lines_executed.cut ∙ m.lines_executed.cut) size).0 in
    let acts : acts_in first ≡ acts_in second = l.lines_executed.acts ∙ ap (λ xs. xs ++ script_end ∷ []) same ∙ sym m.lines_executed.acts in
    same_history plan injected first second acts (sym l.beside.calls ∙ m.beside.calls) (sym l.beside.taken ∙ m.beside.taken) (sym l.beside.marks ∙ m.beside.marks) l.each_line m.each_line i j
