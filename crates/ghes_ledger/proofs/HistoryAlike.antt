-- A plain script with one context has one lawful history.
use Rattle.std.proofs.Common.{◌≡◌, ◌≤◌, ◌<◌, ℕ, ◌+◌, Bool, true, false, cond, eqb, List, [], ◌∷◌, ◌++◌, length, drop, refl, sym, ap, subst, ◌∙◌, append-nil}
use Rattle.std.specs.List.{range_with_len}
use Rattle.std.proofs.lemmas.Bool.{eq-eqb}
use Rattle.std.proofs.lemmas.List.{map-append, drop_at}
use Rattle.ghes_call.specs.declared.call.Call.{Call}
use Rattle.ghes_ledger.specs.declared.ledger.InjectionEnd.{InjectionEnd}
use Rattle.ghes_ledger.specs.declared.ledger.Taken.{Taken}
use Rattle.ghes_ledger.specs.Alike.{IsPlain, Injected, IsInjected}
use Rattle.ghes_ledger.specs.Asks.{Asks, Quiet, Makes, Injects, Calls, Runs, Drains, Ends}
use Rattle.ghes_ledger.specs.History.{Act, Made, Executed, calls_in, taken_in, clock_after}
use Rattle.ghes_ledger.specs.Lawful.{StopsAtFatal, MakesBlocks, peeked, TakesAll, Takes, HasRoom, IsLawfulLine}
use Rattle.ghes_ledger.specs.Names.{taken_names, queued_names, fatal_names, served_by}
use Rattle.ghes_ledger.specs.Plan.{Plan}
use Rattle.ghes_ledger.specs.Queue.{numbers_of, acknowledged, fails_in}
use Rattle.ghes_ledger.specs.Reports.{reports_in}
use Rattle.ghes_ledger.specs.Turns.{AreCallsOf}
use Rattle.ghes_ledger.proofs.CallsAlike.{with_call, serial_call, call_is}
use Rattle.ghes_ledger.proofs.TakenAlike.{taken_alike}

-- The parts of a line

pub made_alike : (injected : ℕ → Injected) (before : List Executed) (asks : Asks) (x y : Executed) → MakesBlocks before asks x.made x.ends → MakesBlocks before asks y.made y.ends → IsInjected injected before x asks → IsInjected injected before y asks → (x.made ≡ y.made) × (x.ends ≡ y.ends)
made_alike injected before Injects x y m n i j = (i.0 ∙ sym j.0, i.1 ∙ sym j.1)
made_alike injected before (Makes s block) x y m n i j = (m.0 ∙ sym n.0, m.1 ∙ sym n.1)
made_alike injected before (Quiet note) x y m n i j = (m.0 ∙ sym n.0, m.1 ∙ sym n.1)
made_alike injected before (Calls s) x y m n i j = (m.0 ∙ sym n.0, m.1 ∙ sym n.1)
made_alike injected before (Runs k) x y m n i j = (m.0 ∙ sym n.0, m.1 ∙ sym n.1)
made_alike injected before Drains x y m n i j = (m.0 ∙ sym n.0, m.1 ∙ sym n.1)
made_alike injected before Ends x y m n i j = (m.0 ∙ sym n.0, m.1 ∙ sym n.1)

abbrev pub line_with : Act → List Made → List Call → List InjectionEnd → List ℕ → List Taken → Executed
line_with act made calls ends peeks taken = record { act = act; made = made; calls = calls; ends = ends; peeks = peeks; taken = taken }

-- a line `nmi` makes the call that its context makes
call_line_is : (plan : Plan) (before : List Executed) (s : ℕ) (x : Executed) → IsLawfulLine plan before x → x.act.asks ≡ Calls s → fails_in s before ≡ 0 → ((t : ℕ) → numbers_of t (calls_in before ++ x.calls) ≡ range_with_len 1 (acknowledged t (calls_in before ++ x.calls))) → x.calls ≡ serial_call plan before s ∷ []
call_line_is plan before s x l asks plain numbers =
    let one = subst (λ (a : Asks). AreCallsOf plan a x.calls) asks l.calls in
    let call : Call = one.0 in
    let calls : x.calls ≡ call ∷ [] = one.1 in
    let source : call.source ≡ s = one.2 in
    let none : x.taken ≡ [] = subst (λ (a : Asks). Takes plan before x a) asks l.takes in
    let room = subst (λ (a : Asks). HasRoom plan before a x.calls) asks l.room in
    let room_here : 1 ≤ length (queued_names (call ∷ [])) → length (queued_names (calls_in before)) < plan.slots + length (taken_in before) =
    subst (λ (cs : List Call). 1 ≤ length (queued_names cs) → length (queued_names (calls_in before)) < plan.slots + length (taken_in before)) calls room in
    let same : x ≡ with_call x call = ap (λ cs. line_with x.act x.made cs x.ends x.peeks x.taken) calls ∙ ap (λ ts. line_with x.act x.made (call ∷ []) x.ends x.peeks ts) none in
    let lawful : IsLawfulLine plan before (with_call x call) = subst (λ (z : Executed). IsLawfulLine plan before z) same l in
    let few : fails_in call.source before ≡ 0 = ap (λ r. fails_in r before) source ∙ plain in
    let counted : numbers_of call.source (calls_in before ++ call ∷ []) ≡ range_with_len 1 (acknowledged call.source (calls_in before ++ call ∷ [])) =
    subst (λ (cs : List Call). numbers_of call.source (calls_in before ++ cs) ≡ range_with_len 1 (acknowledged call.source (calls_in before ++ cs))) calls (numbers call.source) in
    calls ∙ ap (λ c. c ∷ []) (call_is plan before x call lawful room_here few counted) ∙ ap (λ r. serial_call plan before r ∷ []) source

-- the calls of two lines
calls_alike : (plan : Plan) (before : List Executed) (asks : Asks) (x y : Executed) → IsPlain asks → x.act.asks ≡ asks → y.act.asks ≡ asks → IsLawfulLine plan before x → IsLawfulLine plan before y → ((t : ℕ) → fails_in t before ≡ 0) → ((t : ℕ) → numbers_of t (calls_in before ++ x.calls) ≡ range_with_len 1 (acknowledged t (calls_in before ++ x.calls))) → ((t : ℕ) → numbers_of t (calls_in before ++ y.calls) ≡ range_with_len 1 (acknowledged t (calls_in before ++ y.calls))) → x.calls ≡ y.calls
calls_alike plan before (Calls s) x y plain e f l m few numbers numbers' = call_line_is plan before s x l e (few s) numbers ∙ sym (call_line_is plan before s y m f (few s) numbers')
calls_alike plan before (Runs k) x y plain e f l m few numbers numbers' = absurd plain
calls_alike plan before (Quiet note) x y plain e f l m few numbers numbers' = subst (λ (a : Asks). AreCallsOf plan a x.calls) e l.calls ∙ sym (subst (λ (a : Asks). AreCallsOf plan a y.calls) f m.calls)
calls_alike plan before (Makes s block) x y plain e f l m few numbers numbers' = subst (λ (a : Asks). AreCallsOf plan a x.calls) e l.calls ∙ sym (subst (λ (a : Asks). AreCallsOf plan a y.calls) f m.calls)
calls_alike plan before Injects x y plain e f l m few numbers numbers' = subst (λ (a : Asks). AreCallsOf plan a x.calls) e l.calls ∙ sym (subst (λ (a : Asks). AreCallsOf plan a y.calls) f m.calls)
calls_alike plan before Drains x y plain e f l m few numbers numbers' = subst (λ (a : Asks). AreCallsOf plan a x.calls) e l.calls ∙ sym (subst (λ (a : Asks). AreCallsOf plan a y.calls) f m.calls)
calls_alike plan before Ends x y plain e f l m few numbers numbers' = subst (λ (a : Asks). AreCallsOf plan a x.calls) e l.calls ∙ sym (subst (λ (a : Asks). AreCallsOf plan a y.calls) f m.calls)

-- one context serves all sources
served_here : (b : Bool) (plan : Plan) (name : ℕ × ℕ) (names : List (ℕ × ℕ)) → b ≡ true → served_by plan 0 names ≡ names → cond b (name ∷ served_by plan 0 names) (served_by plan 0 names) ≡ name ∷ names
served_here true plan name names e rest = ap (λ xs. name ∷ xs) rest
served_here false plan name names e rest = absurd cc

pub served_all : (plan : Plan) → ((s : ℕ) → plan.server s ≡ 0) → (names : List (ℕ × ℕ)) → served_by plan 0 names ≡ names
served_all plan one [] = refl
served_all plan one (name ∷ names) = served_here (eqb (plan.server name.0) 0) plan name names (eq-eqb (plan.server name.0) 0 (one name.0)) (served_all plan one names)

pub cancel : {A : Type 0} (xs ys zs : List A) → xs ++ ys ≡ xs ++ zs → ys ≡ zs
cancel xs ys zs e = sym (drop_at xs ys (length xs) refl) ∙ ap (drop (length xs)) e ∙ drop_at xs zs (length xs) refl

-- the names that two lines take
all_names : (plan : Plan) (before : List Executed) (x y : Executed) → ((s : ℕ) → plan.server s ≡ 0) → x.calls ≡ y.calls → fatal_names (calls_in before ++ x.calls) ≡ [] → TakesAll plan (x ∷ before) → TakesAll plan (y ∷ before) → taken_names x.taken ≡ taken_names y.taken
all_names plan before x y one calls none all all' =
    let none' : fatal_names (calls_in before ++ y.calls) ≡ [] = ap (λ cs. fatal_names (calls_in before ++ cs)) (sym calls) ∙ none in
    let first : taken_names (taken_in before ++ x.taken) ≡ queued_names (calls_in before ++ x.calls) = sym (served_all plan one _) ∙ all none 0 ∙ served_all plan one _ in
    let second : taken_names (taken_in before ++ y.taken) ≡ queued_names (calls_in before ++ y.calls) = sym (served_all plan one _) ∙ all' none' 0 ∙ served_all plan one _ in
    cancel (taken_names (taken_in before)) (taken_names x.taken) (taken_names y.taken)
    (sym (map-append _ (taken_in before) x.taken) ∙ first ∙ ap (λ cs. queued_names (calls_in before ++ cs)) calls ∙ sym second ∙ map-append _ (taken_in before) y.taken)

no_names : (x y : Executed) → x.taken ≡ [] → y.taken ≡ [] → taken_names x.taken ≡ taken_names y.taken
no_names x y e f = ap taken_names (e ∙ sym f)

some_is_none : (name : ℕ × ℕ) (names : List (ℕ × ℕ)) → name ∷ names ≡ [] → ⊥
some_is_none name names e = cc

end_names : (fatal : List (ℕ × ℕ)) (plan : Plan) (before : List Executed) (x y : Executed) → fatal_names (calls_in before) ≡ fatal → ((s : ℕ) → plan.server s ≡ 0) → x.calls ≡ y.calls → x.calls ≡ [] → Takes plan before x Ends → Takes plan before y Ends → taken_names x.taken ≡ taken_names y.taken
end_names [] plan before x y e one calls none t u =
    let empty : fatal_names (calls_in before ++ x.calls) ≡ [] = ap (λ cs. fatal_names (calls_in before ++ cs)) none ∙ ap fatal_names (append-nil (calls_in before)) ∙ e in
    all_names plan before x y one calls empty t.0 u.0
end_names (name ∷ names) plan before x y e one calls none t u =
    let some : fatal_names (calls_in before) ≡ [] → ⊥ = λ empty. some_is_none name names (sym e ∙ empty) in
    no_names x y (t.1 some) (u.1 some)

names_alike : (plan : Plan) (before : List Executed) (asks : Asks) (x y : Executed) → IsPlain asks → x.act.asks ≡ asks → y.act.asks ≡ asks → IsLawfulLine plan before x → IsLawfulLine plan before y → ((s : ℕ) → plan.server s ≡ 0) → x.calls ≡ y.calls → taken_names x.taken ≡ taken_names y.taken
names_alike plan before (Runs k) x y plain e f l m one calls = absurd plain
names_alike plan before Drains x y plain e f l m one calls =
    let none : x.calls ≡ [] = subst (λ (a : Asks). AreCallsOf plan a x.calls) e l.calls in
    let stops : fatal_names (calls_in before) ≡ [] = subst (λ (a : Asks). StopsAtFatal before a) e l.stops in
    let empty : fatal_names (calls_in before ++ x.calls) ≡ [] = ap (λ cs. fatal_names (calls_in before ++ cs)) none ∙ ap fatal_names (append-nil (calls_in before)) ∙ stops in
    all_names plan before x y one calls empty (subst (λ (a : Asks). Takes plan before x a) e l.takes) (subst (λ (a : Asks). Takes plan before y a) f m.takes)
names_alike plan before Ends x y plain e f l m one calls =
    end_names (fatal_names (calls_in before)) plan before x y refl one calls (subst (λ (a : Asks). AreCallsOf plan a x.calls) e l.calls) (subst (λ (a : Asks). Takes plan before x a) e l.takes) (subst (λ (a : Asks). Takes plan before y a) f m.takes)
names_alike plan before (Quiet note) x y plain e f l m one calls = no_names x y (subst (λ (a : Asks). Takes plan before x a) e l.takes) (subst (λ (a : Asks). Takes plan before y a) f m.takes)
names_alike plan before (Makes s block) x y plain e f l m one calls = no_names x y (subst (λ (a : Asks). Takes plan before x a) e l.takes) (subst (λ (a : Asks). Takes plan before y a) f m.takes)
names_alike plan before Injects x y plain e f l m one calls = no_names x y (subst (λ (a : Asks). Takes plan before x a) e l.takes) (subst (λ (a : Asks). Takes plan before y a) f m.takes)
names_alike plan before (Calls s) x y plain e f l m one calls = no_names x y (subst (λ (a : Asks). Takes plan before x a) e l.takes) (subst (λ (a : Asks). Takes plan before y a) f m.takes)

-- two lawful lines behind the same lines, that ask for the same
pub line_alike : (plan : Plan) (injected : ℕ → Injected) (before : List Executed) (x y : Executed) → ((s : ℕ) → plan.server s ≡ 0) → x.act ≡ y.act → IsPlain x.act.asks → IsLawfulLine plan before x → IsLawfulLine plan before y → IsInjected injected before x x.act.asks → IsInjected injected before y y.act.asks → ((t : ℕ) → fails_in t before ≡ 0) → ((t : ℕ) → numbers_of t (calls_in before ++ x.calls) ≡ range_with_len 1 (acknowledged t (calls_in before ++ x.calls))) → ((t : ℕ) → numbers_of t (calls_in before ++ y.calls) ≡ range_with_len 1 (acknowledged t (calls_in before ++ y.calls))) → x ≡ y
line_alike plan injected before x y one act plain l m i j few numbers numbers' =
    let asks : y.act.asks ≡ x.act.asks = ap (λ a. a.asks) (sym act) in
    let made = made_alike injected before x.act.asks x y l.makes (subst (λ (a : Asks). MakesBlocks before a y.made y.ends) asks m.makes) i (subst (λ (a : Asks). IsInjected injected before y a) asks j) in
    let calls : x.calls ≡ y.calls = calls_alike plan before x.act.asks x y plain refl asks l m few numbers numbers' in
    let peeks : x.peeks ≡ y.peeks = l.peeks ∙ ap (peeked plan before) (sym asks) ∙ sym m.peeks in
    let names : taken_names x.taken ≡ taken_names y.taken = names_alike plan before x.act.asks x y plain refl asks l m one calls in
    let taken : x.taken ≡ y.taken = taken_alike plan before plan.places (clock_after before) (reports_in before) x.taken y.taken names l.images m.images l.told m.told in
    ap (λ a. line_with a x.made x.calls x.ends x.peeks x.taken) act ∙ ap (λ a. line_with y.act a x.calls x.ends x.peeks x.taken) made.0
    ∙ ap (λ a. line_with y.act y.made a x.ends x.peeks x.taken) calls ∙ ap (λ a. line_with y.act y.made y.calls a x.peeks x.taken) made.1
    ∙ ap (λ a. line_with y.act y.made y.calls y.ends a x.taken) peeks ∙ ap (λ a. line_with y.act y.made y.calls y.ends y.peeks a) taken
