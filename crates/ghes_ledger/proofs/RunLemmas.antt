-- How the calls of a run are entered, one by one.
use Rattle.std.proofs.Common.{◌≡◌, ◌≤◌, ℕ, ◌+◌, Bool, true, false, cond, eqb, ltb, ◌&&◌, List, [], ◌∷◌, ◌++◌, map, length, take, refl, sym, ap, subst, ◌∙◌, arith, append-nil, append_assoc, Option, None}
use Rattle.std.proofs.lemmas.Bool.{eqb-true, eq-eqb, ne_eqb}
use Rattle.std.specs.Prelude.{filter, slice_get}
use Rattle.std.specs.List.{flat_map, AllByRecursion}
use Rattle.std.proofs.lemmas.List.{length-append, map-append, take_at}
use Rattle.std.proofs.lemmas.List.Concat.{flat_map-append}
use Rattle.std.proofs.lemmas.List.Elements.{filter-append}
use Rattle.ghes_call.specs.declared.call.Call.{Call}
use Rattle.ghes_call.specs.declared.call.Outcome.{Outcome}
use Rattle.ghes_call.specs.declared.call.Outcome.TheVariants.{Nothing, Queued, Malformed, Duplicate, Fatal, NoSlot, Fault, Stopped}
use Rattle.ghes_ledger.specs.declared.ledger.Report.{Report}
use Rattle.ghes_ledger.specs.Asks.{Runs}
use Rattle.ghes_call.specs.Packet.{PacketSeen}
use Rattle.ghes_ledger.specs.Reports.{reports_in, reports_at}
use Rattle.ghes_ledger.proofs.WorkLemmas.{takings, names-takings, told-takings, images-takings}
use Rattle.ghes_ledger.specs.History.{Executed, calls_in, taken_in, on_source, of_context, clock_after, EachCall}
use Rattle.ghes_ledger.specs.Lawful.{FitsSlots, FitsStop, FitsLook, Looks, IsImageIn, IsLawfulCall, IsLawfulLine}
use Rattle.ghes_ledger.specs.Names.{name_of, taken_names, served_by, queued_names, fatal_names}
use Rattle.ghes_ledger.specs.Outcomes.{number_of, ends_turns, is_fault, is_failed}
use Rattle.ghes_ledger.specs.Plan.{Plan}
use Rattle.ghes_ledger.specs.Queue.{queue, numbers_of, stuck_calls, faulty_calls, fails_in, standing}
use Rattle.ghes_ledger.specs.Turns.{IfThenElse, Along, AreTurns}

-- a line with more calls, and with other taken blocks
abbrev pub with_more : Executed → List Call → Executed
with_more line more = record { act = line.act; made = line.made; calls = line.calls ++ more; ends = line.ends; peeks = line.peeks; taken = line.taken }

-- one more call of a line
pub each_call-push : (P : List Call → Call → Type 0) (past calls : List Call) (call : Call) → EachCall P past calls → P (past ++ calls) call → EachCall P past (calls ++ call ∷ [])
each_call-push P past [] call all here = (subst (λ (xs : List Call). P xs call) (append-nil past) here, tt)
each_call-push P past (x ∷ calls) call all here =
    (all.0, each_call-push P (past ++ x ∷ []) calls call all.1 (subst (λ (xs : List Call). P xs call) (sym (append_assoc past (x ∷ []) calls)) here))

pub each_call-map : (P Q : List Call → Call → Type 0) (past calls : List Call) → ((xs : List Call) (x : Call) → P xs x → Q xs x) → EachCall P past calls → EachCall Q past calls
each_call-map P Q past [] weaker all = tt
each_call-map P Q past (x ∷ calls) weaker all = (weaker past x all.0, each_call-map P Q (past ++ x ∷ []) calls weaker all.1)

-- what holds of a slot and of a stop holds in a longer line
slots_more : (plan : Plan) (before : List Executed) (line : Executed) (more : List Call) (outcome : Outcome) → FitsSlots plan before line outcome → FitsSlots plan before (with_more line more) outcome
slots_more plan before line more NoSlot fits =
    let test : Call → Bool = λ call. is_fault call.reply.outcome in
    let queued : length (queued_names (calls_in before ++ (line.calls ++ more))) ≡ length (queued_names (calls_in before ++ line.calls)) + length (queued_names more) =
    ap (λ xs. length (queued_names xs)) (sym (append_assoc (calls_in before) line.calls more)) ∙ ap length (flat_map-append _ (calls_in before ++ line.calls) more) ∙ length-append (queued_names (calls_in before ++ line.calls)) (queued_names more) in
    let faults : length (filter test (line.calls ++ more)) ≡ length (filter test line.calls) + length (filter test more) = ap length (filter-append test line.calls more) ∙ length-append (filter test line.calls) (filter test more) in
    omega (arith, fits, queued, faults)
slots_more plan before line more Nothing fits = tt
slots_more plan before line more (Queued n) fits = tt
slots_more plan before line more (Malformed n m) fits = tt
slots_more plan before line more (Duplicate n r) fits = tt
slots_more plan before line more (Fatal n) fits = tt
slots_more plan before line more Fault fits = tt
slots_more plan before line more Stopped fits = tt

stop_more : (line : Executed) (more : List Call) (outcome : Outcome) → FitsStop line outcome → FitsStop (with_more line more) outcome
stop_more line more Stopped fits =
    let fatal : length (fatal_names (line.calls ++ more)) ≡ length (fatal_names line.calls) + length (fatal_names more) = ap length (flat_map-append _ line.calls more) ∙ length-append (fatal_names line.calls) (fatal_names more) in
    omega (arith, fits, fatal)
stop_more line more Nothing fits = tt
stop_more line more (Queued n) fits = tt
stop_more line more (Malformed n m) fits = tt
stop_more line more (Duplicate n r) fits = tt
stop_more line more (Fatal n) fits = tt
stop_more line more NoSlot fits = tt
stop_more line more Fault fits = tt

call_more : (plan : Plan) (before : List Executed) (line : Executed) (more past : List Call) (call : Call) → IsLawfulCall plan before line past call → IsLawfulCall plan before (with_more line more) past call
call_more plan before line more past call l = record {
  by = l.by;
  made = l.made;
  asked = l.asked;
  block = l.block;
  slots = slots_more plan before line more call.reply.outcome l.slots;
  stop = stop_more line more call.reply.outcome l.stop;
}

-- after one more call of a line each call so far is lawful, if this one is
pub calls_push : (plan : Plan) (before : List Executed) (line : Executed) (call : Call) → EachCall (IsLawfulCall plan before line) (calls_in before) line.calls → IsLawfulCall plan before (with_more line (call ∷ [])) (calls_in before ++ line.calls) call → EachCall (IsLawfulCall plan before (with_more line (call ∷ []))) (calls_in before) (line.calls ++ call ∷ [])
calls_push plan before line call all here =
    each_call-push (IsLawfulCall plan before (with_more line (call ∷ []))) (calls_in before) line.calls call
    (each_call-map (IsLawfulCall plan before line) (IsLawfulCall plan before (with_more line (call ∷ []))) (calls_in before) line.calls (λ past x l. call_more plan before line (call ∷ []) past x l) all) here

abbrev no_calls : List Call
no_calls = []

nothing_left : (b : Bool) → IfThenElse b (no_calls ≡ []) (no_calls ≡ [])
nothing_left true = refl
nothing_left false = refl

-- one more call along the sources of a context's turns
along-push : (s : ℕ) (sources : List ℕ) (calls : List Call) (call : Call) → Along sources calls → AllByRecursion (λ c. ends_turns c.reply.outcome ≡ false) calls → call.source ≡ s → Along (sources ++ s ∷ []) (calls ++ call ∷ [])
along-push s [] [] call along goes is = (is, nothing_left (ends_turns call.reply.outcome))
along-push s [] (c ∷ calls) call along goes is = absurd cc
along-push s (r ∷ sources) [] call along goes is = absurd along
along-push s (r ∷ sources) (c ∷ calls) call along goes is =
    let later : IfThenElse false (calls ≡ []) (Along sources calls) = subst (λ (b : Bool). IfThenElse b (calls ≡ []) (Along sources calls)) goes.0 along.1 in
    (along.0, subst (λ (b : Bool). IfThenElse b (calls ++ call ∷ [] ≡ []) (Along (sources ++ s ∷ []) (calls ++ call ∷ []))) (sym goes.0) (along-push s sources calls call later goes.1 is))

further : (b : Bool) (sources more : List ℕ) (calls : List Call) (call : Call) → IfThenElse b (calls ++ call ∷ [] ≡ []) (Along sources (calls ++ call ∷ [])) → (Along sources (calls ++ call ∷ []) → Along (sources ++ more) (calls ++ call ∷ [])) → IfThenElse b (calls ++ call ∷ [] ≡ []) (Along (sources ++ more) (calls ++ call ∷ []))
further true sources more calls call e later = e
further false sources more calls call l later = later l

-- a context that has ended its turns is along any more of them
pub along-ended : (sources more : List ℕ) (calls : List Call) (call : Call) → Along sources (calls ++ call ∷ []) → ends_turns call.reply.outcome ≡ true → Along (sources ++ more) (calls ++ call ∷ [])
along-ended [] more [] call along ended = let never : call ∷ [] ≡ [] = along in absurd cc
along-ended [] more (c ∷ calls) call along ended = let never : c ∷ (calls ++ call ∷ []) ≡ [] = along in absurd cc
along-ended (s ∷ sources) more [] call along ended = (along.0, subst (λ (b : Bool). IfThenElse b (no_calls ≡ []) (Along (sources ++ more) [])) (sym ended) refl)
along-ended (s ∷ sources) more (c ∷ calls) call along ended = (along.0, further (ends_turns c.reply.outcome) sources more calls call along.1 (λ l. along-ended sources more calls call l ended))

-- Looks along one context

-- the block that stands depends on the calls on its source alone
numbers_on : (s : ℕ) (calls : List Call) → numbers_of s calls ≡ flat_map (λ c. number_of c.reply.outcome) (on_source s calls)
numbers_on s [] = refl
numbers_on s (call ∷ calls) = ap (λ rest. cond (eqb call.source s) (number_of call.reply.outcome) [] ++ rest) (numbers_on s calls) ∙ number_on (eqb call.source s) call (on_source s calls) where
  number_on : (b : Bool) (call : Call) (calls : List Call) → cond b (number_of call.reply.outcome) [] ++ flat_map (λ c. number_of c.reply.outcome) calls ≡ flat_map (λ c. number_of c.reply.outcome) (cond b (call ∷ calls) calls)
  number_on true call calls = refl
  number_on false call calls = refl

stuck_on : (s : ℕ) (calls : List Call) → stuck_calls s calls ≡ filter (λ c. is_failed c.reply.ack) (on_source s calls)
stuck_on s [] = refl
stuck_on s (call ∷ calls) = ap (λ rest. cond (eqb call.source s && is_failed call.reply.ack) (call ∷ rest) rest) (stuck_on s calls) ∙ one_stuck (eqb call.source s) call (on_source s calls) where
  one_stuck : (b : Bool) (call : Call) (calls : List Call) → cond (b && is_failed call.reply.ack) (call ∷ filter (λ c. is_failed c.reply.ack) calls) (filter (λ c. is_failed c.reply.ack) calls) ≡ filter (λ c. is_failed c.reply.ack) (cond b (call ∷ calls) calls)
  one_stuck true call calls = refl
  one_stuck false call calls = refl

pub standing_same : (s : ℕ) (before : List Executed) (past past' : List Call) → on_source s past ≡ on_source s past' → standing s before past ≡ standing s before past'
standing_same s before past past' same =
    let stuck : stuck_calls s past ≡ stuck_calls s past' = stuck_on s past ∙ ap (filter (λ c. is_failed c.reply.ack)) same ∙ sym (stuck_on s past') in
    let numbers : numbers_of s past ≡ numbers_of s past' = numbers_on s past ∙ ap (flat_map (λ c. number_of c.reply.outcome)) same ∙ sym (numbers_on s past') in
    ap (λ xs. cond (ltb 0 (length xs)) None (slice_get (queue s before) (length (numbers_of s past)))) stuck
    ∙ ap (λ ns. cond (ltb 0 (length (stuck_calls s past'))) None (slice_get (queue s before) (length ns))) numbers

-- the calls on a source, with one more behind them
pub on_push : (s : ℕ) (past : List Call) (call : Call) → on_source s (past ++ call ∷ []) ≡ on_source s past ++ cond (eqb call.source s) (call ∷ []) []
on_push s past call = filter-append (λ c. eqb c.source s) past (call ∷ [])

abbrev pub FitsLookAt : Plan → List Executed → List Report → List Call → Call → Type 0
FitsLookAt plan before reports past call = FitsLook plan.places (plan.limit call.source) (standing call.source before past) reports call.now call.reply.outcome

false_not_true : false ≡ true → ⊥
false_not_true x = cc

-- a source that a context serves is not that of another context's call
pub other_source : (plan : Plan) (s c : ℕ) (call : Call) → eqb call.context c ≡ false → call.context ≡ plan.server call.source → plan.server s ≡ c → eqb call.source s ≡ false
other_source plan s c call e by is =
    let differ : call.source ≡ s → ⊥ = λ at. false_not_true (sym e ∙ eq-eqb call.context c (by ∙ ap plan.server at ∙ is)) in
    ne_eqb call.source s differ

-- where each call of a line looks at the same reports, so do those of one context
looks_step : (b : Bool) (plan : Plan) (before : List Executed) (all : List Report) (seen c : ℕ) (past mine : List Call) (call : Call) (calls : List Call) → eqb call.context c ≡ b → call.context ≡ plan.server call.source → ((s : ℕ) → plan.server s ≡ c → on_source s past ≡ on_source s mine) → seen ≤ length all → FitsLookAt plan before (take seen all) past call → (((s : ℕ) → plan.server s ≡ c → on_source s (past ++ call ∷ []) ≡ on_source s (cond b (mine ++ call ∷ []) mine)) → Looks plan before all seen (cond b (mine ++ call ∷ []) mine) (of_context c calls)) → Looks plan before all seen mine (cond b (call ∷ of_context c calls) (of_context c calls))
looks_step true plan before all seen c past mine call calls e by same within fits later =
    let own : plan.server call.source ≡ c = sym by ∙ eqb-true call.context c e in
    let stands : standing call.source before past ≡ standing call.source before mine = standing_same call.source before past mine (same call.source own) in (
      seen,
      omega arith,
      within,
      subst (λ (s : Option (List ℕ)). FitsLook plan.places (plan.limit call.source) s (take seen all) call.now call.reply.outcome) stands fits,
      later (λ s is. on_push s past call ∙ ap (λ xs. xs ++ cond (eqb call.source s) (call ∷ []) []) (same s is) ∙ sym (on_push s mine call)),
    )
looks_step false plan before all seen c past mine call calls e by same within fits later =
    later (λ s is. on_push s past call ∙ ap (λ b. on_source s past ++ cond b (call ∷ []) []) (other_source plan s c call e by is) ∙ append-nil (on_source s past) ∙ same s is)

pub looks_of : (plan : Plan) (before : List Executed) (all : List Report) (seen c : ℕ) (past mine calls : List Call) → AllByRecursion (λ call. call.context ≡ plan.server call.source) calls → ((s : ℕ) → plan.server s ≡ c → on_source s past ≡ on_source s mine) → seen ≤ length all → EachCall (FitsLookAt plan before (take seen all)) past calls → Looks plan before all seen mine (of_context c calls)
looks_of plan before all seen c past mine [] by same within each = tt
looks_of plan before all seen c past mine (call ∷ calls) by same within each =
    looks_step (eqb call.context c) plan before all seen c past mine call calls refl by.0 same within each.0
    (λ next. looks_of plan before all seen c (past ++ call ∷ []) (cond (eqb call.context c) (mine ++ call ∷ []) mine) calls by.1 next within each.1)

-- A run on one thread: its turns first, and then all that is pending is taken

contexts_of : (plan : Plan) (before : List Executed) (line : Executed) (past calls : List Call) → EachCall (IsLawfulCall plan before line) past calls → AllByRecursion (λ call. call.context ≡ plan.server call.source) calls
contexts_of plan before line past [] all = tt
contexts_of plan before line past (call ∷ calls) all = (all.0.by.context, contexts_of plan before line (past ++ call ∷ []) calls all.1)

abbrev pub run_line : Plan → ℕ → ℕ → List Executed → List Call → List PacketSeen → Executed
run_line plan n turns_made before calls pending = record { act = record { number = n; asks = Runs turns_made }; made = []; calls = calls; ends = []; peeks = []; taken = takings plan.places (clock_after before) (reports_in before) pending }

-- after a line `run` in which no call was fatal, told what was pending behind its calls
pub lawful_run : (plan : Plan) (n turns_made : ℕ) (before : List Executed) (calls : List Call) (pending : List PacketSeen) → fatal_names (calls_in before) ≡ [] → AreTurns plan turns_made calls → EachCall (IsLawfulCall plan before (run_line plan n turns_made before calls pending)) (calls_in before) calls → EachCall (FitsLookAt plan before (reports_in before)) (calls_in before) calls → ((t : ℕ) → length (faulty_calls t (calls_in before ++ calls)) ≤ fails_in t before) → ((c : ℕ) → served_by plan c (taken_names (taken_in before) ++ map name_of pending) ≡ served_by plan c (queued_names (calls_in before ++ calls))) → AllByRecursion (IsImageIn plan before) pending → IsLawfulLine plan before (run_line plan n turns_made before calls pending)
lawful_run plan n turns_made before calls pending none made all looks few order images =
    let reports = reports_in before in
    let later = reports_at (clock_after before) (takings plan.places (clock_after before) reports pending) in
    let size : length (reports ++ later) ≡ length reports + length later = length-append reports later in
    let front : reports ≡ take (length reports) (reports ++ later) = sym (take_at reports later (length reports) refl) in
    let each : EachCall (FitsLookAt plan before (take (length reports) (reports ++ later))) (calls_in before) calls = subst (λ (xs : List Report). EachCall (FitsLookAt plan before xs) (calls_in before) calls) front looks in
    record {
      stops = none;
      makes = (refl, refl);
      peeks = refl;
      calls = made;
      each_call = all;
      room = tt;
      looks = λ c. looks_of plan before (reports ++ later) (length reports) c (calls_in before) (calls_in before) calls (contexts_of plan before (run_line plan n turns_made before calls pending) (calls_in before) calls all) (λ s is. refl) (omega (arith, size)) each;
      faults = few;
      takes = λ no_fatal c. ap (served_by plan c) (map-append _ (taken_in before) (takings plan.places (clock_after before) reports pending) ∙ ap (λ xs. taken_names (taken_in before) ++ xs) (names-takings plan.places (clock_after before) reports pending)) ∙ order c;
      told = told-takings plan.places (clock_after before) reports pending;
      images = images-takings plan before plan.places (clock_after before) reports pending images;
    }
