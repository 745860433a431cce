-- Two lawful ledgers of a plain script with one context are the same.
use Rattle.std.proofs.Common.{◌≡◌, ◌<◌, ℕ, zero, suc, ◌+◌, List, [], ◌∷◌, ◌++◌, length, take, drop, refl, sym, ap, subst, ◌∙◌, arith, append-nil, append_assoc, inl, inr}
use Rattle.std.specs.List.{range_with_len, AllByRecursion}
use Rattle.std.proofs.lemmas.Bool.{cases_lt}
use Rattle.std.proofs.lemmas.List.{length-append, same_from_push, take_at, drop_at}
use Rattle.std.proofs.lemmas.List.Concat.{flat_map-append}
use Rattle.ghes_call.specs.declared.call.Call.{Call}
use Rattle.ghes_ledger.specs.declared.ledger.InjectionEnd.{InjectionEnd}
use Rattle.ghes_ledger.specs.declared.ledger.Mark.{Mark}
use Rattle.ghes_ledger.specs.declared.ledger.PanicEntry.{PanicEntry}
use Rattle.ghes_ledger.specs.declared.ledger.Report.{Report}
use Rattle.ghes_ledger.specs.declared.ledger.Taken.{Taken}
use Rattle.ghes_ledger.specs.Alike.{IsPlain, IsLine, Injected, IsInjected}
use Rattle.ghes_ledger.specs.Asks.{Setting, Clock, Fail, Peek, Asks, Quiet, Makes, Injects, Calls, Runs, Drains, Ends}
use Rattle.ghes_ledger.specs.History.{Act, script_end, Executed, acts_in, calls_in, fails_by, Each}
use Rattle.ghes_ledger.specs.Kept.{Kept}
use Rattle.ghes_ledger.specs.Lawful.{StopsAtFatal, IsLawfulLine, IsLawful}
use Rattle.ghes_ledger.specs.Names.{taken_names, panic_names, fatal_names, waiting}
use Rattle.ghes_ledger.specs.Plan.{Plan}
use Rattle.ghes_ledger.specs.Queue.{number_by, numbers_of, acknowledged, fails_in}
use Rattle.ghes_ledger.specs.Turns.{AreCallsOf}
use Rattle.ghes_ledger.proofs.CallsAlike.{range-add}
use Rattle.ghes_ledger.proofs.TakenAlike.{panics_alike}
use Rattle.ghes_ledger.proofs.HistoryAlike.{line_alike, served_all, cancel}

-- the front of numbers that count from 1 counts from 1
cut_same : {A : Type 0} (xs ys xs' ys' : List A) → xs ++ ys ≡ xs' ++ ys' → length xs ≡ length xs' → (xs ≡ xs') × (ys ≡ ys')
cut_same xs ys xs' ys' e same = (
  sym (take_at xs ys (length xs) refl) ∙ ap (take (length xs)) e ∙ take_at xs' ys' (length xs) (sym same),
  sym (drop_at xs ys (length xs) refl) ∙ ap (drop (length xs)) e ∙ drop_at xs' ys' (length xs) (sym same),
)

length-range : (a n : ℕ) → length (range_with_len a n) ≡ n
length-range a zero = refl
length-range a (suc n) = ap suc (length-range (a + 1) n)

front_counts : (xs ys : List ℕ) → xs ++ ys ≡ range_with_len 1 (length (xs ++ ys)) → xs ≡ range_with_len 1 (length xs)
front_counts xs ys e =
    let whole : xs ++ ys ≡ range_with_len 1 (length xs) ++ range_with_len (1 + length xs) (length ys) =
    e ∙ ap (range_with_len 1) (length-append xs ys) ∙ range-add 1 (length xs) (length ys) in
    (cut_same xs ys (range_with_len 1 (length xs)) (range_with_len (1 + length xs) (length ys)) whole (sym (length-range 1 (length xs)))).0

Counts : List Executed → Type 0
Counts history = (s : ℕ) → numbers_of s (calls_in history) ≡ range_with_len 1 (acknowledged s (calls_in history))

counts_before : (line : Executed) (before : List Executed) → Counts (line ∷ before) → Counts before
unfolding Counts
counts_before line before counts s =
    let split : numbers_of s (calls_in before ++ line.calls) ≡ numbers_of s (calls_in before) ++ numbers_of s line.calls = flat_map-append (number_by s) (calls_in before) line.calls in
    front_counts (numbers_of s (calls_in before)) (numbers_of s line.calls) (sym split ∙ counts s ∙ ap (λ xs. range_with_len 1 (length xs)) split)

-- what holds of a history of a plain script
record IsGood (plan : Plan) (injected : ℕ → Injected) (history : List Executed) : Type 0 where
  lawful : Each (IsLawfulLine plan) history
  made : Each (λ before line. IsInjected injected before line line.act.asks) history
  plain : Each (λ before line. IsPlain line.act.asks) history
  counts : Counts history

good_before : (plan : Plan) (injected : ℕ → Injected) (line : Executed) (before : List Executed) → IsGood plan injected (line ∷ before) → IsGood plan injected before
good_before plan injected line before g = record { lawful = g.lawful.0; made = g.made.0; plain = g.plain.0; counts = counts_before line before g.counts }

-- no access is to fail
no_fails : (s : ℕ) (asks : Asks) → IsPlain asks → fails_by s asks ≡ 0
no_fails s (Quiet (Fail t)) plain = absurd plain
no_fails s (Quiet Setting) plain = refl
no_fails s (Quiet (Clock t)) plain = refl
no_fails s (Makes t block) plain = refl
no_fails s Injects plain = refl
no_fails s (Quiet (Peek t)) plain = refl
no_fails s (Calls t) plain = refl
no_fails s (Runs n) plain = refl
no_fails s Drains plain = refl
no_fails s Ends plain = refl

none_fails : (s : ℕ) (history : List Executed) → Each (λ before line. IsPlain line.act.asks) history → fails_in s history ≡ 0
none_fails s [] plain = refl
none_fails s (line ∷ before) plain = omega (arith, none_fails s before plain.0, no_fails s line.act.asks plain.1)

not_pushed : {A : Type 0} (xs : List A) (x : A) → [] ≡ xs ++ x ∷ [] → ⊥
not_pushed xs x e =
    let size : 0 ≡ length xs + 1 = ap length e ∙ length-append xs (x ∷ []) in
    omega (arith, size)

-- two good histories of the same lines
history_alike : (plan : Plan) (injected : ℕ → Injected) → ((s : ℕ) → plan.server s ≡ 0) → (h g : List Executed) → acts_in h ≡ acts_in g → IsGood plan injected h → IsGood plan injected g → h ≡ g
unfolding Counts
history_alike plan injected one [] [] acts good good' = refl
history_alike plan injected one [] (y ∷ g) acts good good' = absurd (not_pushed (acts_in g) y.act acts)
history_alike plan injected one (x ∷ h) [] acts good good' = absurd (not_pushed (acts_in h) x.act (sym acts))
history_alike plan injected one (x ∷ h) (y ∷ g) acts good good' =
    let parts = same_from_push (acts_in h) (acts_in g) x.act y.act acts in
    let then : g ≡ h = sym (history_alike plan injected one h g parts.0 (good_before plan injected x h good) (good_before plan injected y g good')) in
    let here : IsGood plan injected (y ∷ h) = subst (λ (b : List Executed). IsGood plan injected (y ∷ b)) then good' in
    let now : x ≡ y = line_alike plan injected h x y one parts.1 good.plain.1 good.lawful.1 here.lawful.1 good.made.1 here.made.1 (λ t. none_fails t h good.plain.0) good.counts here.counts in
    ap (λ z. z ∷ h) now ∙ ap (λ b. y ∷ b) (sym then)

-- Which lines are executed

-- the last of some, and those before it
last_of : Act → List Act → Act
last_of a [] = a
last_of a (b ∷ acts) = last_of b acts

front_of : Act → List Act → List Act
front_of a [] = []
front_of a (b ∷ acts) = a ∷ front_of b acts

front_and_last : (a : Act) (acts : List Act) → a ∷ acts ≡ front_of a acts ++ last_of a acts ∷ []
unfolding last_of front_of
front_and_last a [] = refl
front_and_last a (b ∷ acts) = ap (λ rest. a ∷ rest) (front_and_last b acts)

-- the part of a history before one of its lines
record Part (plan : Plan) (injected : ℕ → Injected) (acts : List Act) (act : Act) : Type 0 where
  before : List Executed
  good : IsGood plan injected before
  is : acts_in before ≡ acts
  line : Executed
  asks : line.act ≡ act
  stops : StopsAtFatal before line.act.asks

part_of : (plan : Plan) (injected : ℕ → Injected) (g : List Executed) (acts : List Act) (act : Act) (rest : List Act) → IsGood plan injected g → acts_in g ≡ acts ++ act ∷ rest → Part plan injected acts act
unfolding last_of front_of
part_of plan injected [] acts act rest good e = absurd (cons_is_none acts act rest e) where
  cons_is_none : (acts : List Act) (act : Act) (rest : List Act) → [] ≡ acts ++ act ∷ rest → ⊥
  cons_is_none acts act rest e = let size : 0 ≡ length acts + suc (length rest) = ap length e ∙ length-append acts (act ∷ rest) in omega (arith, size)
part_of plan injected (line ∷ before) acts act [] good e =
    let parts = same_from_push (acts_in before) acts line.act act e in
    record { before = before; good = good_before plan injected line before good; is = parts.0; line = line; asks = parts.1; stops = good.lawful.1.stops }
part_of plan injected (line ∷ before) acts act (b ∷ rest) good e =
    let shifted : acts_in before ++ line.act ∷ [] ≡ (acts ++ act ∷ front_of b rest) ++ last_of b rest ∷ [] =
    e ∙ ap (λ xs. acts ++ act ∷ xs) (front_and_last b rest) ∙ sym (append_assoc acts (act ∷ front_of b rest) (last_of b rest ∷ [])) in
    part_of plan injected before acts act (front_of b rest) (good_before plan injected line before good)
    (same_from_push (acts_in before) (acts ++ act ∷ front_of b rest) line.act (last_of b rest) shifted).0

-- a script line is not executed behind a fatal call
not_behind : (asks : Asks) (before : List Executed) → IsLine asks → StopsAtFatal before asks → fatal_names (calls_in before) ≡ []
not_behind Ends before is stops = absurd is
not_behind (Quiet note) before is stops = stops
not_behind (Makes s block) before is stops = stops
not_behind Injects before is stops = stops
not_behind (Calls s) before is stops = stops
not_behind (Runs n) before is stops = stops
not_behind Drains before is stops = stops

-- what holds of each of some lines
all_at : (P : Act → Type 0) (xs : List Act) (y : Act) (ys : List Act) → AllByRecursion P (xs ++ y ∷ ys) → P y
all_at P [] y ys all = all.0
all_at P (x ∷ xs) y ys all = all_at P xs y ys all.1

all_front : (P : Act → Type 0) (xs ys : List Act) → AllByRecursion P (xs ++ ys) → AllByRecursion P xs
all_front P [] ys all = tt
all_front P (x ∷ xs) ys all = (all.0, all_front P xs ys all.1)

all_push : (P : Act → Type 0) (xs : List Act) (y : Act) → AllByRecursion P xs → P y → AllByRecursion P (xs ++ y ∷ [])
all_push P [] y all p = (p, tt)
all_push P (x ∷ xs) y all p = (all.0, all_push P xs y all.1 p)

each_plain : (history : List Executed) → AllByRecursion (λ a. IsPlain a.asks) (acts_in history) → Each (λ before line. IsPlain line.act.asks) history
each_plain [] all = tt
each_plain (line ∷ before) all = (each_plain before (all_front (λ a. IsPlain a.asks) (acts_in before) (line.act ∷ []) all), all_at (λ a. IsPlain a.asks) (acts_in before) line.act [] all)

-- a lawful ledger of a plain script
record IsPlainLedger (plan : Plan) (injected : ℕ → Injected) (lines : List Act) (kept : Kept) (history : List Executed) : Type 0 where
  lawful : IsLawful plan lines kept history
  made : Each (λ before line. IsInjected injected before line line.act.asks) history

good_of : (plan : Plan) (injected : ℕ → Injected) (lines : List Act) (kept : Kept) (history : List Executed) → AllByRecursion (λ a. IsPlain a.asks) lines → IsPlainLedger plan injected lines kept history → IsGood plan injected history
unfolding Counts
good_of plan injected lines kept history plain p =
    let l = p.lawful in
    let executed : AllByRecursion (λ a. IsPlain a.asks) l.executed = all_front (λ a. IsPlain a.asks) l.executed l.lines_executed.rest (subst (λ (xs : List Act). AllByRecursion (λ a. IsPlain a.asks) xs) l.lines_executed.cut plain) in
    record {
      lawful = l.each_line;
      made = p.made;
      plain = each_plain history (subst (λ (xs : List Act). AllByRecursion (λ a. IsPlain a.asks) xs) (sym l.lines_executed.acts) (all_push (λ a. IsPlain a.asks) l.executed script_end executed tt));
      counts = l.numbers;
    }

-- the history before the end of the script
record Behind (plan : Plan) (injected : ℕ → Injected) (executed : List Act) (history : List Executed) : Type 0 where
  before : List Executed
  good : IsGood plan injected before
  is : acts_in before ≡ executed
  fatal : fatal_names (calls_in before) ≡ [] → fatal_names (calls_in history) ≡ []

behind : (plan : Plan) (injected : ℕ → Injected) (executed : List Act) (history : List Executed) → IsGood plan injected history → acts_in history ≡ executed ++ script_end ∷ [] → Behind plan injected executed history
behind plan injected executed [] good e = absurd (not_pushed executed script_end e)
behind plan injected executed (line ∷ before) good e =
    let parts = same_from_push (acts_in before) executed line.act script_end e in
    let none : line.calls ≡ [] = subst (λ (a : Act). AreCallsOf plan a.asks line.calls) parts.1 good.lawful.1.calls in
    record {
      before = before;
      good = good_before plan injected line before good;
      is = parts.0;
      fatal = λ empty. ap (λ cs. fatal_names (calls_in before ++ cs)) none ∙ ap fatal_names (append-nil (calls_in before)) ∙ empty;
    }

-- one ledger does not execute fewer lines than another
not_fewer : (plan : Plan) (injected : ℕ → Injected) → ((s : ℕ) → plan.server s ≡ 0) → (lines : List Act) (kept kept' : Kept) (h g : List Executed) → AllByRecursion (λ a. IsPlain a.asks) lines → AllByRecursion (λ a. IsLine a.asks) lines → (p : IsPlainLedger plan injected lines kept h) (q : IsPlainLedger plan injected lines kept' g) → length p.lawful.executed < length q.lawful.executed → ⊥
not_fewer plan injected one lines kept kept' h g plain real p q fewer =
    let e = p.lawful.executed in
    let f = q.lawful.executed in
    let first = behind plan injected e h (good_of plan injected lines kept h plain p) p.lawful.lines_executed.acts in
    let second = behind plan injected f g (good_of plan injected lines kept' g plain q) q.lawful.lines_executed.acts in
    let whole : e ++ p.lawful.lines_executed.rest ≡ f ++ q.lawful.lines_executed.rest = sym p.lawful.lines_executed.cut ∙ q.lawful.lines_executed.cut in
    let split = longer e p.lawful.lines_executed.rest f q.lawful.lines_executed.rest whole fewer in
    let part = part_of plan injected second.before e split.0 split.1 second.good (second.is ∙ split.2) in
    let same : part.before ≡ first.before = history_alike plan injected one part.before first.before (part.is ∙ sym first.is) part.good first.good in
    let all_lines : lines ≡ e ++ split.0 ∷ (split.1 ++ q.lawful.lines_executed.rest) =
    q.lawful.lines_executed.cut ∙ ap (λ xs. xs ++ q.lawful.lines_executed.rest) split.2 ∙ append_assoc e (split.0 ∷ split.1) q.lawful.lines_executed.rest in
    let is_line : IsLine split.0.asks = all_at (λ a. IsLine a.asks) e split.0 (split.1 ++ q.lawful.lines_executed.rest) (subst (λ (xs : List Act). AllByRecursion (λ a. IsLine a.asks) xs) all_lines real) in
    let empty : fatal_names (calls_in part.before) ≡ [] = not_behind part.line.act.asks part.before (subst (λ (a : Act). IsLine a.asks) (sym part.asks) is_line) part.stops in
    let none : p.lawful.lines_executed.rest ≡ [] = p.lawful.lines_executed.all (first.fatal (ap (λ b. fatal_names (calls_in b)) (sym same) ∙ empty)) in
    let size : length e + length p.lawful.lines_executed.rest ≡ length f + length q.lawful.lines_executed.rest = sym (length-append e p.lawful.lines_executed.rest) ∙ ap length whole ∙ length-append f q.lawful.lines_executed.rest in
    let zero_rest : length p.lawful.lines_executed.rest ≡ 0 = ap length none in
    omega (arith, size, zero_rest, fewer)
  where
    longer : (xs ys zs ws : List Act) → xs ++ ys ≡ zs ++ ws → length xs < length zs → (act : Act) × (rest : List Act) × (zs ≡ xs ++ act ∷ rest)
    longer [] ys [] ws e less = absurd (omega (arith, less))
    longer [] ys (z ∷ zs) ws e less = (z, zs, refl)
    longer (x ∷ xs) ys [] ws e less = absurd (omega (arith, less))
    longer (x ∷ xs) ys (z ∷ zs) ws e less =
        let head : x ≡ z = cc in
        let tails : xs ++ ys ≡ zs ++ ws = cc in
        let shorter : length xs < length zs = omega (arith, less) in
        let rest = longer xs ys zs ws tails shorter in
        (rest.0, rest.1, ap (λ a. a ∷ zs) (sym head) ∙ ap (λ more. x ∷ more) rest.2)

kept_with : List Call → List Taken → List Report → List PanicEntry → List InjectionEnd → List ℕ → List Mark → Kept
kept_with calls taken reports panic injections peeks marks = record { calls = calls; taken = taken; reports = reports; panic = panic; injections = injections; peeks = peeks; marks = marks }

-- two lawful ledgers with one history
ledger_alike : (plan : Plan) → ((s : ℕ) → plan.server s ≡ 0) → (lines : List Act) (kept kept' : Kept) (h : List Executed) → IsLawful plan lines kept h → IsLawful plan lines kept' h → kept ≡ kept'
unfolding kept_with
ledger_alike plan one lines kept kept' h l m =
    let calls : kept.calls ≡ kept'.calls = l.beside.calls ∙ sym m.beside.calls in
    let taken : kept.taken ≡ kept'.taken = l.beside.taken ∙ sym m.beside.taken in
    let reports : kept.reports ≡ kept'.reports = l.beside.reports ∙ sym m.beside.reports in
    let injections : kept.injections ≡ kept'.injections = l.beside.injections ∙ sym m.beside.injections in
    let peeks : kept.peeks ≡ kept'.peeks = l.beside.peeks ∙ sym m.beside.peeks in
    let marks : kept.marks ≡ kept'.marks = l.beside.marks ∙ sym m.beside.marks in
    let names : taken_names kept.taken ++ panic_names (waiting kept.panic) ≡ taken_names kept.taken ++ panic_names (waiting kept'.panic) =
    sym (served_all plan one _) ∙ l.order 0 ∙ sym (m.order 0) ∙ served_all plan one _ ∙ ap (λ ts. taken_names ts ++ panic_names (waiting kept'.panic)) (sym taken) in
    let waits : panic_names (waiting kept.panic) ≡ panic_names (waiting kept'.panic) = cancel (taken_names kept.taken) _ _ names in
    let panic : kept.panic ≡ kept'.panic = panics_alike plan h kept.panic kept'.panic l.panic_order m.panic_order waits (l.fatal_blocks ∙ sym m.fatal_blocks) l.panic_images m.panic_images in
    ap (λ x. kept_with x kept.taken kept.reports kept.panic kept.injections kept.peeks kept.marks) calls
    ∙ ap (λ x. kept_with kept'.calls x kept.reports kept.panic kept.injections kept.peeks kept.marks) taken
    ∙ ap (λ x. kept_with kept'.calls kept'.taken x kept.panic kept.injections kept.peeks kept.marks) reports
    ∙ ap (λ x. kept_with kept'.calls kept'.taken kept'.reports x kept.injections kept.peeks kept.marks) panic
    ∙ ap (λ x. kept_with kept'.calls kept'.taken kept'.reports kept'.panic x kept.peeks kept.marks) injections
    ∙ ap (λ x. kept_with kept'.calls kept'.taken kept'.reports kept'.panic kept'.injections x kept.marks) peeks
    ∙ ap (λ x. kept_with kept'.calls kept'.taken kept'.reports kept'.panic kept'.injections kept'.peeks x) marks

-- two lawful ledgers of one plain script
pub one_ledger : (plan : Plan) (injected : ℕ → Injected) → ((s : ℕ) → plan.server s ≡ 0) → (lines : List Act) → AllByRecursion (λ a. IsPlain a.asks) lines → AllByRecursion (λ a. IsLine a.asks) lines → (kept kept' : Kept) (h g : List Executed) → IsLawful plan lines kept h → IsLawful plan lines kept' g → Each (λ before line. IsInjected injected before line line.act.asks) h → Each (λ before line. IsInjected injected before line line.act.asks) g → kept ≡ kept'
one_ledger plan injected one lines plain real kept kept' h g l m i j =
    let p : IsPlainLedger plan injected lines kept h = record { lawful = l; made = i } in
    let q : IsPlainLedger plan injected lines kept' g = record { lawful = m; made = j } in
    let size : length l.executed ≡ length m.executed = elim (cases_lt (length l.executed) (length m.executed)) [
      | inl less ↦ absurd (not_fewer plan injected one lines kept kept' h g plain real p q less)
      | inr more ↦ elim (cases_lt (length m.executed) (length l.executed)) [
        | inl less ↦ absurd (not_fewer plan injected one lines kept' kept g h plain real q p less)
        | inr le ↦ omega (arith, more, le)
      ]
    ] in
    let same : l.executed ≡ m.executed = (cut_same l.executed l.lines_executed.rest m.executed m.lines_executed.rest (sym l.lines_executed.cut ∙ m.lines_executed.cut) size).0 in
    let acts : acts_in h ≡ acts_in g = l.lines_executed.acts ∙ ap (λ xs. xs ++ script_end ∷ []) same ∙ sym m.lines_executed.acts in
    let history : h ≡ g = history_alike plan injected one h g acts (good_of plan injected lines kept h plain p) (good_of plan injected lines kept' g plain q) in
    ledger_alike plan one lines kept kept' g (subst (λ (x : List Executed). IsLawful plan lines kept x) history l) m
