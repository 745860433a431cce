-- How a lawful history goes on by a line.
use Rattle.std.proofs.Common.{◌≡◌, ◌≤◌, ℕ, Bool, true, false, cond, eqb, List, [], ◌∷◌, ◌++◌, map, length, take, refl, sym, ap, subst, ◌∙◌, arith, append-nil, Option, Some, None}
use Rattle.std.proofs.lemmas.List.Concat.{flat_map-append}
use Rattle.std.proofs.lemmas.List.Elements.{filter-append}
use Rattle.cper_block.specs.declared.malformed.Malformed.{Malformed as Reason}
use Rattle.ghes_call.specs.declared.call.Call.{Call}
use Rattle.ghes_call.specs.declared.call.Outcome.{Outcome}
use Rattle.ghes_call.specs.declared.call.Outcome.TheVariants.{Queued, Malformed, Duplicate, Fatal, NoSlot}
use Rattle.ghes_ledger.specs.declared.ledger.Report.{Report}
use Rattle.ghes_ledger.specs.Asks.{Makes, Calls}
use Rattle.ghes_ledger.specs.History.{Executed, calls_in}
use Rattle.cper_block.specs.Image.{image_of, image_reason, is_fatal}
use Rattle.ghes_ledger.specs.Lawful.{FitsBlock, FitsHit, FitsLook, HasRoom, Looks, IsImageIn, IsLawfulCall, IsLawfulLine}
use Rattle.ghes_ledger.specs.Names.{served_by, queued_names, fatal_names}
use Rattle.ghes_ledger.specs.Outcomes.{pending_number}
use Rattle.ghes_ledger.specs.Plan.{Plan}
use Rattle.ghes_ledger.specs.Queue.{queue, block_at, faulty_calls, fails_in, standing}
use Rattle.ghes_ledger.specs.Reports.{hit, reports_in}

-- a line that makes a block of a source, and one that makes a call
abbrev pub raise_line : ℕ → ℕ → List ℕ → Executed
raise_line n s block = record { act = record { number = n; asks = Makes s block }; made = record { source = s; bytes = block } ∷ []; calls = []; ends = []; peeks = []; taken = [] }

abbrev pub call_line : ℕ → ℕ → Call → Executed
call_line n s call = record { act = record { number = n; asks = Calls s }; made = []; calls = call ∷ []; ends = []; peeks = []; taken = [] }

-- no more calls fail by a line without calls
no_more_faults : (s : ℕ) (calls : List Call) (bound : ℕ) → length (faulty_calls s calls) ≤ bound → length (faulty_calls s (calls ++ [])) ≤ bound
no_more_faults s calls bound le = subst (λ (xs : List Call). length (faulty_calls s xs) ≤ bound) (sym (append-nil calls)) le

-- after a line `raise`
pub lawful_raise : (plan : Plan) (n s : ℕ) (block : List ℕ) (before : List Executed) → fatal_names (calls_in before) ≡ [] → ((t : ℕ) → length (faulty_calls t (calls_in before)) ≤ fails_in t before) → IsLawfulLine plan before (raise_line n s block)
lawful_raise plan n s block before none few = record {
  stops = none;
  makes = (refl, refl);
  peeks = refl;
  calls = refl;
  each_call = tt;
  room = tt;
  looks = λ c. tt;
  faults = λ t. no_more_faults t (calls_in before) (fails_in t before) (few t);
  takes = refl;
  told = tt;
  images = tt;
}

take_all : {A : Type 0} (xs : List A) → take (length xs) xs ≡ xs
take_all [] = refl
take_all (x ∷ xs) = ap (λ rest. x ∷ rest) (take_all xs)

-- a lone call looks at all reports so far
looks_here : (b : Bool) (plan : Plan) (before : List Executed) (reports all : List Report) (past : List Call) (call : Call) → all ≡ reports → FitsLook plan.places (plan.limit call.source) (standing call.source before past) reports call.now call.reply.outcome → Looks plan before all (length reports) past (cond b (call ∷ []) [])
looks_here true plan before reports all past call same fits =
    let size : length all ≡ length reports = ap length same in
    let whole : reports ≡ take (length reports) all = sym (take_all reports) ∙ ap (take (length reports)) (sym same) in
    (length reports, omega arith, omega (arith, size), subst (λ (xs : List Report). FitsLook plan.places (plan.limit call.source) (standing call.source before past) xs call.now call.reply.outcome) whole fits, tt)
looks_here false plan before reports all past call same fits = tt

-- after a line with one call
pub lawful_call : (plan : Plan) (n : ℕ) (call : Call) (before : List Executed) → fatal_names (calls_in before) ≡ [] → IsLawfulCall plan before (call_line n call.source call) (calls_in before) call → HasRoom plan before (Calls call.source) (call ∷ []) → FitsLook plan.places (plan.limit call.source) (standing call.source before (calls_in before)) (reports_in before) call.now call.reply.outcome → ((t : ℕ) → length (faulty_calls t (calls_in before ++ call ∷ [])) ≤ fails_in t before) → IsLawfulLine plan before (call_line n call.source call)
lawful_call plan n call before none fits room look few = record {
  stops = none;
  makes = (refl, refl);
  peeks = refl;
  calls = (call, refl, refl);
  each_call = (fits, tt);
  room = room;
  looks = λ c. looks_here (eqb call.context c) plan before (reports_in before) (reports_in before ++ []) (calls_in before) call (append-nil _) look;
  faults = few;
  takes = refl;
  told = tt;
  images = tt;
}

-- The outcome of a call in which no access fails, by why the image is malformed, whether it is fatal, the report that a look finds,
-- whether each slot is taken, and the number of the block.
abbrev outcome_by : Option Reason → Bool → Option ℕ → Bool → ℕ → Outcome
outcome_by (Some reason) fatal found true number = NoSlot
outcome_by (Some reason) fatal found false number = Malformed number reason
outcome_by None true found full number = Fatal number
outcome_by None false (Some report) full number = Duplicate number report
outcome_by None false None true number = NoSlot
outcome_by None false None false number = Queued number

fits_block : (limit : ℕ) (stands : Option (List ℕ)) (block : List ℕ) (reason : Option Reason) (fatal full : Bool) (found : Option ℕ) (n : ℕ) → stands ≡ Some block → image_reason limit block ≡ reason → is_fatal (image_of limit block) ≡ fatal → FitsBlock limit stands (outcome_by reason fatal found full n)
fits_block limit stands block (Some reason) fatal true found n is why severe = (block, is, λ none. let never : Some reason ≡ None = sym why ∙ none in absurd cc)
fits_block limit stands block (Some reason) fatal false found n is why severe = (block, is, why)
fits_block limit stands block None true full found n is why severe = (block, is, (why, severe))
fits_block limit stands block None false full (Some report) n is why severe = (block, is, (why, severe))
fits_block limit stands block None false true None n is why severe = (block, is, λ none. severe)
fits_block limit stands block None false false None n is why severe = (block, is, (why, severe))

fits_hit : (reason : Option Reason) (fatal full : Bool) (found : Option ℕ) (n : ℕ) → FitsHit reason found (outcome_by reason fatal found full n)
fits_hit (Some reason) fatal true found n = tt
fits_hit (Some reason) fatal false found n = tt
fits_hit None true full found n = tt
fits_hit None false full (Some report) n = refl
fits_hit None false true None n = refl
fits_hit None false false None n = refl

fits_look : (k limit : ℕ) (stands : Option (List ℕ)) (block : List ℕ) (reports : List Report) (now : ℕ) (fatal full : Bool) (n : ℕ) → stands ≡ Some block → FitsLook k limit stands reports now (outcome_by (image_reason limit block) fatal (hit k reports (image_of limit block) now) full n)
fits_look k limit stands block reports now fatal full n is =
    subst (λ (s : Option (List ℕ)). FitsLook k limit s reports now (outcome_by (image_reason limit block) fatal (hit k reports (image_of limit block) now) full n)) (sym is)
    (fits_hit (image_reason limit block) fatal full (hit k reports (image_of limit block) now) n)

-- The order of pending blocks

queued_push : (calls : List Call) (call : Call) → queued_names (calls ++ call ∷ []) ≡ queued_names calls ++ queued_names (call ∷ [])
queued_push calls call = flat_map-append _ calls (call ∷ [])

-- After a call that makes the block that stands pending, its packet goes behind the others, for each context.
pub order_push : (plan : Plan) (before : List Executed) (names : List (ℕ × ℕ)) (line n : ℕ) (call : Call) → ((c : ℕ) → served_by plan c names ≡ served_by plan c (queued_names (calls_in before))) → pending_number call.reply.outcome ≡ n ∷ [] → (c : ℕ) → served_by plan c (names ++ (call.source, n) ∷ []) ≡ served_by plan c (queued_names (calls_in (call_line line call.source call ∷ before)))
order_push plan before names line n call order is c =
    let one : queued_names (call ∷ []) ≡ (call.source, n) ∷ [] = append-nil _ ∙ ap (map (λ number. (call.source, number))) is in
    let own : (ℕ × ℕ) → Bool = λ name. eqb (plan.server name.0) c in
    filter-append own names ((call.source, n) ∷ [])
    ∙ ap (λ xs. xs ++ served_by plan c ((call.source, n) ∷ [])) (order c)
    ∙ sym (filter-append own (queued_names (calls_in before)) ((call.source, n) ∷ []))
    ∙ ap (λ xs. served_by plan c (queued_names (calls_in before) ++ xs)) (sym one)
    ∙ ap (served_by plan c) (sym (queued_push (calls_in before) call))

-- the packet of the block that stands is an image
pub image_pushed : (plan : Plan) (before : List Executed) (s n : ℕ) (block : List ℕ) → block_at n (queue s before) ≡ Some block → IsImageIn plan before (record { source = s; seq = n; reason = image_reason (plan.limit s) block; bytes = image_of (plan.limit s) block })
image_pushed plan before s n block at = record { block = block; at = at; bytes = refl; reason = refl }
