-- What holds behind a line without calls, and lists that one more line makes longer.
use Rattle.std.proofs.Common.{◌≡◌, ◌≢◌, ◌≤◌, ◌<◌, ℕ, zero, suc, ◌+◌, Bool, true, false, cond, eqb, inl, inr, List, [], ◌∷◌, ◌++◌, map, length, refl, sym, ap, subst, ◌∙◌, arith, append-nil, append_assoc, Some, get_or}
use Rattle.std.specs.Prelude.{slice_get, slice_set}
use Rattle.std.specs.List.{range_with_len, flat_map, AllByRecursion}
use Rattle.std.proofs.lemmas.Bool.{eqb-true, eq-eqb, ne_eqb, cases_eq}
use Rattle.std.proofs.lemmas.List.{length-set, get_or-set_same, get_or-set_other, map-append}
use Rattle.std.proofs.lemmas.Option.{slice_get_within, get_or_from_slice_get, slice_get-get_or}
use Rattle.ghes_call.specs.Packet.{PacketSeen}
use Rattle.ghes_call.specs.declared.call.Call.{Call}
use Rattle.ghes_ledger.proofs.FateLemmas.{image_later}
use Rattle.ghes_ledger.proofs.Serial.{Keeps}
use Rattle.ghes_ledger.proofs.WorkLemmas.{takings, names-takings, images-takings, told-takings}
use Rattle.ghes_ledger.specs.Asks.{Note, Asks, Quiet, Drains, Ends}
use Rattle.ghes_ledger.specs.History.{Executed, calls_in, taken_in, on_source, kept_calls, by_source, marks_in, clock_after, Each}
use Rattle.ghes_ledger.specs.Kept.{Kept, with_taken, taken_of, told_as, report_at, mark_of}
use Rattle.ghes_ledger.specs.Lawful.{IsImageIn, IsLawfulLine, Tells, TakesAll, peeked}
use Rattle.ghes_ledger.specs.Names.{panic_packet, name_of, queued_names, fatal_names, taken_names, panic_names, waiting, served_by}
use Rattle.ghes_ledger.specs.Plan.{Plan, all_sources}
use Rattle.ghes_ledger.specs.Queue.{numbers_of, acknowledged, faulty_calls, fails_in}
use Rattle.ghes_ledger.specs.Reports.{hit, reports_in, reports_at}
use Rattle.ghes_ledger.specs.declared.ledger.PanicEntry.{PanicEntry}
use Rattle.ghes_ledger.specs.declared.ledger.Report.{Report}
use Rattle.ghes_ledger.specs.declared.ledger.Taken.{Taken}
use Rattle.ghes_desk.specs.Desk.{drained}
use Rattle.ghes_lines.specs.Follows.{IsAccount}

-- what holds of the one element of a list that changed, and of all others
pub at_set : {A : Type 0} (Q : ℕ → A → Type 0) (xs : List A) (s : ℕ) (x : A) → Q s x → ((t : ℕ) (y : A) → (t ≡ s → ⊥) → slice_get xs t ≡ Some y → Q t y) → (t : ℕ) (y : A) → slice_get (slice_set xs s x) t ≡ Some y → Q t y
at_set Q xs s x here others t y is =
    let inside : t < length xs = omega (arith, slice_get_within (slice_set xs s x) t y is, length-set xs s x) in
    let got : get_or (slice_set xs s x) t y ≡ y = get_or_from_slice_get (slice_set xs s x) t y y is in
    elim (cases_eq t s) [
      | inl same ↦
          let new : x ≡ y = sym (get_or-set_same xs s x y (omega (arith, inside, same))) ∙ ap (λ n. get_or (slice_set xs s x) n y) (sym same) ∙ got in
          subst (λ z. Q t z) new (subst (λ n. Q n x) (sym same) here)
      | inr differ ↦
          let old : get_or xs t y ≡ y = sym (get_or-set_other xs s t x y differ) ∙ got in
          others t y differ (slice_get-get_or xs t y inside ∙ ap Some old)
    ]

-- the two forms of one record
pub keeps_of : (plan : Plan) (history : List Executed) (pending : List PacketSeen) (panic : List PanicEntry) → IsAccount plan history pending panic → Keeps plan history pending panic
keeps_of plan history pending panic a = record { lines = a.lines; counts = a.numbers; order = a.order; images = a.images; panic_images = a.panic_images; panic_order = a.panic_order; fatal_blocks = a.fatal_blocks; no_panic = a.no_panic }

pub account_of : (plan : Plan) (history : List Executed) (pending : List PacketSeen) (panic : List PanicEntry) → Keeps plan history pending panic → IsAccount plan history pending panic
account_of plan history pending panic k = record { lines = k.lines; numbers = k.counts; order = k.order; images = k.images; panic_images = k.panic_images; panic_order = k.panic_order; fatal_blocks = k.fatal_blocks; no_panic = k.no_panic }

-- no more calls failed than accesses were to fail
pub few_of : (plan : Plan) (history : List Executed) → Each (IsLawfulLine plan) history → (t : ℕ) → length (faulty_calls t (calls_in history)) ≤ fails_in t history
few_of plan [] each t = omega arith
few_of plan (line ∷ before) each t = omega (arith, each.1.faults t)

pub images_later : (plan : Plan) (before : List Executed) (line : Executed) (packets : List PacketSeen) → AllByRecursion (IsImageIn plan before) packets → AllByRecursion (IsImageIn plan (line ∷ before)) packets
images_later plan before line [] all = tt
images_later plan before line (packet ∷ packets) all = (image_later plan before line packet all.0, images_later plan before line packets all.1)

panic_later : (plan : Plan) (before : List Executed) (line : Executed) (panic : List PanicEntry) → AllByRecursion (λ entry. IsImageIn plan before (panic_packet entry)) panic → AllByRecursion (λ entry. IsImageIn plan (line ∷ before) (panic_packet entry)) panic
panic_later plan before line [] all = tt
panic_later plan before line (entry ∷ panic) all = (image_later plan before line (panic_packet entry) all.0, panic_later plan before line panic all.1)

-- behind a line that makes no call and takes nothing
pub account_still : (plan : Plan) (before : List Executed) (line : Executed) (pending : List PacketSeen) (panic : List PanicEntry) → calls_in (line ∷ before) ≡ calls_in before → taken_in (line ∷ before) ≡ taken_in before → IsLawfulLine plan before line → IsAccount plan before pending panic → IsAccount plan (line ∷ before) pending panic
account_still plan before line pending panic same taken lawful a = record {
  lines = (a.lines, lawful);
  numbers = λ t. ap (numbers_of t) same ∙ a.numbers t ∙ ap (λ xs. range_with_len 1 (acknowledged t xs)) (sym same);
  order = λ c. ap (λ ts. served_by plan c ((taken_names ts ++ map name_of pending) ++ panic_names (waiting panic))) taken ∙ a.order c ∙ ap (λ xs. served_by plan c (queued_names xs)) (sym same);
  images = images_later plan before line pending a.images;
  panic_images = panic_later plan before line panic a.panic_images;
  panic_order = a.panic_order;
  fatal_blocks = a.fatal_blocks ∙ ap fatal_names (sym same);
  no_panic = λ empty. a.no_panic (sym (ap fatal_names same) ∙ empty);
}

-- a line that says something beside blocks and calls
abbrev pub quiet_line : Plan → ℕ → Note → List Executed → Executed
quiet_line plan n note before = record { act = record { number = n; asks = Quiet note }; made = []; calls = []; ends = []; peeks = peeked plan before (Quiet note); taken = [] }

pub lawful_quiet : (plan : Plan) (n : ℕ) (note : Note) (before : List Executed) → fatal_names (calls_in before) ≡ [] → ((t : ℕ) → length (faulty_calls t (calls_in before)) ≤ fails_in t before) → IsLawfulLine plan before (quiet_line plan n note before)
lawful_quiet plan n note before none few = record {
  stops = none;
  makes = (refl, refl);
  peeks = refl;
  calls = refl;
  each_call = tt;
  room = tt;
  looks = λ c. tt;
  faults = λ t. subst (λ cs. length (faulty_calls t cs) ≤ fails_in t before) (sym (append-nil (calls_in before))) (few t);
  takes = refl;
  told = tt;
  images = tt;
}

-- a line that takes all that is pending
abbrev pub taking_line : Plan → Asks → ℕ → List Executed → List PacketSeen → Executed
taking_line plan asks n before packets = record { act = record { number = n; asks = asks }; made = []; calls = []; ends = []; peeks = []; taken = takings plan.places (clock_after before) (reports_in before) packets }

pub names_now : (plan : Plan) (before : List Executed) (pending : List PacketSeen) → taken_names (taken_in before ++ takings plan.places (clock_after before) (reports_in before) pending) ≡ taken_names (taken_in before) ++ map name_of pending
names_now plan before pending =
    map-append _ (taken_in before) (takings plan.places (clock_after before) (reports_in before) pending)
    ∙ ap (λ xs. taken_names (taken_in before) ++ xs) (names-takings plan.places (clock_after before) (reports_in before) pending)

-- all that is pending is all that was not taken, where no call was fatal
takes_all : (plan : Plan) (asks : Asks) (n : ℕ) (before : List Executed) (pending : List PacketSeen) (panic : List PanicEntry) → IsAccount plan before pending panic → TakesAll plan (taking_line plan asks n before pending ∷ before)
takes_all plan asks n before pending panic a empty c =
    let same : calls_in before ++ [] ≡ calls_in before = append-nil (calls_in before) in
    let old = taken_names (taken_in before) ++ map name_of pending in
    let none : panic ≡ [] = a.no_panic (ap fatal_names (sym same) ∙ empty) in
    ap (served_by plan c) (names_now plan before pending ∙ sym (append-nil old))
    ∙ ap (λ xs. served_by plan c (old ++ panic_names (waiting xs))) (sym none)
    ∙ a.order c ∙ ap (λ xs. served_by plan c (queued_names xs)) (sym same)

lawful_work : (plan : Plan) (n : ℕ) (before : List Executed) (pending : List PacketSeen) (panic : List PanicEntry) → fatal_names (calls_in before) ≡ [] → IsAccount plan before pending panic → IsLawfulLine plan before (taking_line plan Drains n before pending)
lawful_work plan n before pending panic none a = record {
  stops = none;
  makes = (refl, refl);
  peeks = refl;
  calls = refl;
  each_call = tt;
  room = tt;
  looks = λ c. tt;
  faults = λ t. subst (λ cs. length (faulty_calls t cs) ≤ fails_in t before) (sym (append-nil (calls_in before))) (few_of plan before a.lines t);
  takes = takes_all plan Drains n before pending panic a;
  told = told-takings plan.places (clock_after before) (reports_in before) pending;
  images = images-takings plan before plan.places (clock_after before) (reports_in before) pending a.images;
}

lawful_end : (plan : Plan) (n : ℕ) (before : List Executed) (pending : List PacketSeen) (panic : List PanicEntry) → ((fatal_names (calls_in before) ≡ [] → ⊥) → pending ≡ []) → IsAccount plan before pending panic → IsLawfulLine plan before (taking_line plan Ends n before pending)
lawful_end plan n before pending panic left a = record {
  stops = tt;
  makes = (refl, refl);
  peeks = refl;
  calls = refl;
  each_call = tt;
  room = tt;
  looks = λ c. tt;
  faults = λ t. subst (λ cs. length (faulty_calls t cs) ≤ fails_in t before) (sym (append-nil (calls_in before))) (few_of plan before a.lines t);
  takes = (takes_all plan Ends n before pending panic a, λ some. ap (takings plan.places (clock_after before) (reports_in before)) (left some));
  told = told-takings plan.places (clock_after before) (reports_in before) pending;
  images = images-takings plan before plan.places (clock_after before) (reports_in before) pending a.images;
}

-- behind a line that takes all that is pending
account_taking : (plan : Plan) (asks : Asks) (n : ℕ) (before : List Executed) (pending : List PacketSeen) (panic : List PanicEntry) → IsLawfulLine plan before (taking_line plan asks n before pending) → IsAccount plan before pending panic → IsAccount plan (taking_line plan asks n before pending ∷ before) [] panic
account_taking plan asks n before pending panic lawful a =
    let same : calls_in before ++ [] ≡ calls_in before = append-nil (calls_in before) in
    record {
      lines = (a.lines, lawful);
      numbers = λ t. ap (numbers_of t) same ∙ a.numbers t ∙ ap (λ xs. range_with_len 1 (acknowledged t xs)) (sym same);
      order = λ c.
          ap (λ xs. served_by plan c (xs ++ panic_names (waiting panic))) (append-nil _ ∙ names_now plan before pending)
          ∙ a.order c ∙ ap (λ xs. served_by plan c (queued_names xs)) (sym same);
      images = tt;
      panic_images = panic_later plan before (taking_line plan asks n before pending) panic a.panic_images;
      panic_order = a.panic_order;
      fatal_blocks = a.fatal_blocks ∙ ap fatal_names (sym same);
      no_panic = λ e. a.no_panic (ap fatal_names (sym same) ∙ e);
    }

pub account_work : (plan : Plan) (n : ℕ) (before : List Executed) (pending : List PacketSeen) (panic : List PanicEntry) → fatal_names (calls_in before) ≡ [] → IsAccount plan before pending panic → IsAccount plan (taking_line plan Drains n before pending ∷ before) [] panic
account_work plan n before pending panic none a = account_taking plan Drains n before pending panic (lawful_work plan n before pending panic none a) a

pub account_end : (plan : Plan) (n : ℕ) (before : List Executed) (pending : List PacketSeen) (panic : List PanicEntry) → ((fatal_names (calls_in before) ≡ [] → ⊥) → pending ≡ []) → IsAccount plan before pending panic → IsAccount plan (taking_line plan Ends n before pending ∷ before) [] panic
account_end plan n before pending panic left a = account_taking plan Ends n before pending panic (lawful_end plan n before pending panic left a) a

abbrev pub kept_with : List Taken → List Report → Kept → Kept
kept_with taken reports kept = record kept { taken = taken; reports = reports }

-- the ledger with these packets taken, entry by entry and at once
pub drained_is : (time : ℕ) (packets : List PacketSeen) (kept : Kept) → drained time packets kept ≡ kept_with (kept.taken ++ takings 4 time kept.reports packets) (kept.reports ++ reports_at time (takings 4 time kept.reports packets)) kept
drained_is time [] kept =
    ap (λ xs. kept_with xs kept.reports kept) (sym (append-nil kept.taken))
    ∙ ap (λ xs. kept_with (kept.taken ++ []) xs kept) (sym (append-nil kept.reports))
drained_is time (packet ∷ packets) kept =
    let found = hit 4 kept.reports packet.bytes time in
    let entry : Taken = taken_of (told_as found (length kept.reports)) packet in
    let reports = kept.reports ++ report_at time entry in
    let later = takings 4 time reports packets in
    drained_is time packets (with_taken time found packet kept)
    ∙ ap (λ xs. kept_with xs (reports ++ reports_at time later) kept) (append_assoc kept.taken (entry ∷ []) later)
    ∙ ap (λ xs. kept_with (kept.taken ++ entry ∷ later) xs kept) (append_assoc kept.reports (report_at time entry) (reports_at time later))

-- one more line, told what the ledger has more behind it
pub tells_more : (plan : Plan) (history : List Executed) (line : Executed) (before after : Kept) → Tells plan before history → after.calls ≡ before.calls ++ by_source plan line.calls → after.taken ≡ before.taken ++ line.taken → after.reports ≡ before.reports ++ reports_at (clock_after history) line.taken → after.injections ≡ before.injections ++ line.ends → after.peeks ≡ before.peeks ++ line.peeks → after.marks ≡ before.marks ++ mark_of line.act.number after ∷ [] → Tells plan after (line ∷ history)
tells_more plan history line before after t calls taken reports injections peeks marks =
    let all_calls : after.calls ≡ kept_calls plan history ++ by_source plan line.calls = calls ∙ ap (λ xs. xs ++ by_source plan line.calls) t.calls in
    let all_taken = taken ∙ ap (λ xs. xs ++ line.taken) t.taken in
    record {
      calls = all_calls;
      taken = all_taken;
      reports = reports ∙ ap (λ xs. xs ++ reports_at (clock_after history) line.taken) t.reports;
      injections = injections ∙ ap (λ xs. xs ++ line.ends) t.injections;
      peeks = peeks ∙ ap (λ xs. xs ++ line.peeks) t.peeks;
      marks =
          marks ∙ ap (λ xs. xs ++ mark_of line.act.number after ∷ []) t.marks
          ∙ ap (λ n. marks_in plan history ++ record { line = line.act.number; calls = n; taken = length after.taken } ∷ []) (ap length all_calls)
          ∙ ap (λ n. marks_in plan history ++ record { line = line.act.number; calls = length (kept_calls plan history ++ by_source plan line.calls); taken = n } ∷ []) (ap length all_taken);
    }

-- no call is none of each source
abbrev no_calls : List Call
no_calls = []

none_of : (sources : List ℕ) → flat_map (λ s. on_source s no_calls) sources ≡ []
none_of [] = refl
none_of (s ∷ sources) = none_of sources

pub by_source_none : (plan : Plan) → by_source plan [] ≡ []
by_source_none plan = none_of (all_sources plan)

-- one call is that of its source
none_above : (call : Call) (a n : ℕ) → call.source < a → flat_map (λ s. on_source s (call ∷ [])) (range_with_len a n) ≡ []
none_above call a zero above = refl
none_above call a (suc n) above =
    ap (λ b. cond b (call ∷ []) [] ++ flat_map (λ s. on_source s (call ∷ [])) (range_with_len (a + 1) n)) (ne_eqb call.source a (λ e. omega arith))
    ∙ none_above call (a + 1) n (omega arith)

false_not_true : false ≡ true → ⊥
false_not_true x = cc

one_at : (b : Bool) (call : Call) (a n : ℕ) → eqb call.source a ≡ b → a ≤ call.source → (a + 1 ≤ call.source → flat_map (λ s. on_source s (call ∷ [])) (range_with_len (a + 1) n) ≡ call ∷ []) → cond b (call ∷ []) [] ++ flat_map (λ s. on_source s (call ∷ [])) (range_with_len (a + 1) n) ≡ call ∷ []
one_at true call a n e low later = ap (λ rest. call ∷ rest) (none_above call (a + 1) n (omega (arith, eqb-true call.source a e)))
one_at false call a n e low later =
    let differ : call.source ≢ a = λ same. false_not_true (sym e ∙ eq-eqb call.source a same) in
    later (omega (arith, differ))

one_of : (call : Call) (a n : ℕ) → a ≤ call.source → call.source < a + n → flat_map (λ s. on_source s (call ∷ [])) (range_with_len a n) ≡ call ∷ []
one_of call a zero low high = absurd (omega arith)
one_of call a (suc n) low high = one_at (eqb call.source a) call a n refl low (λ next. one_of call (a + 1) n next (omega arith))

pub by_source_one : (plan : Plan) (call : Call) → call.source < plan.sources → by_source plan (call ∷ []) ≡ call ∷ []
by_source_one plan call inside = one_of call 0 plan.sources (omega arith) (omega arith)
