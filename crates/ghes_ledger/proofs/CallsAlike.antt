-- The call of a line `nmi` is determined by the lines before it.
use Rattle.std.proofs.Common.{◌≡◌, ◌≤◌, ◌<◌, ℕ, zero, suc, ◌+◌, Bool, true, false, cond, eqb, leb, ◌&&◌, ◌||◌, List, [], ◌∷◌, ◌++◌, map, length, take, refl, sym, ap, subst, ◌∙◌, arith, append-nil, add-zero, zero-add, Option, Some, None}
use Rattle.std.specs.List.{range_with_len}
use Rattle.std.proofs.lemmas.Bool.{eq-eqb, le-leb, lt-leb}
use Rattle.std.proofs.lemmas.List.{length-append, same_from_push}
use Rattle.std.proofs.lemmas.List.Concat.{flat_map-append}
use Rattle.std.proofs.lemmas.List.Elements.{filter-append}
use Rattle.cper_block.specs.declared.malformed.Malformed.{Malformed as Reason}
use Rattle.ghes_call.specs.declared.call.AckState.{AckState}
use Rattle.ghes_call.specs.declared.call.AckState.TheVariants.{NotAsked, Done, Failed}
use Rattle.ghes_call.specs.declared.call.Call.{Call}
use Rattle.ghes_call.specs.declared.call.Outcome.{Outcome}
use Rattle.ghes_call.specs.declared.call.Outcome.TheVariants.{Nothing, Queued, Malformed, Duplicate, Fatal, NoSlot, Fault, Stopped}
use Rattle.ghes_ledger.specs.declared.ledger.Report.{Report}
use Rattle.ghes_ledger.specs.History.{Executed, calls_in, taken_in, clock_after}
use Rattle.cper_block.specs.Image.{image_of, image_reason, is_fatal}
use Rattle.ghes_ledger.specs.Lawful.{IsAsked, FitsBlock, FitsSlots, FitsStop, FitsHit, FitsLook, Looks, LooksInLine, IsLawfulLine}
use Rattle.ghes_ledger.specs.Names.{queued_names, fatal_names}
use Rattle.ghes_ledger.specs.Outcomes.{number_of, pending_number, fatal_number, acknowledges, is_fault, is_failed}
use Rattle.ghes_ledger.specs.Plan.{Plan}
use Rattle.ghes_ledger.specs.Queue.{number_by, numbers_of, acknowledged, faulty_calls, fails_in, standing}
use Rattle.ghes_ledger.specs.Reports.{hit, reports_in}

-- 1 to 5 is 1 to 3, and then 4 to 5
pub range-add : (a m n : ℕ) → range_with_len a (m + n) ≡ range_with_len a m ++ range_with_len (a + m) n
range-add a zero n = rw (zero-add, add-zero) refl
range-add a (suc m) n =
    let longer : suc m + n ≡ suc (m + n) = omega arith in
    let later : a + suc m ≡ a + 1 + m = omega arith in
    rw (longer, later) (ap (λ rest. a ∷ rest) (range-add (a + 1) m n))

-- one more number at the end
pub range-push : (n : ℕ) → range_with_len 1 (n + 1) ≡ range_with_len 1 n ++ (n + 1) ∷ []
range-push n =
    let last : 1 + n ≡ n + 1 = omega arith in
    range-add 1 n 1 ∙ ap (λ k. range_with_len 1 n ++ k ∷ []) last

-- the last of numbers that count from 1
last_number : (xs : List ℕ) (m : ℕ) → xs ++ m ∷ [] ≡ range_with_len 1 (length (xs ++ m ∷ [])) → m ≡ length xs + 1
last_number xs m e =
    let size : length (xs ++ m ∷ []) ≡ length xs + 1 = length-append xs (m ∷ []) in
    (same_from_push xs (range_with_len 1 (length xs)) m (length xs + 1) (e ∙ ap (range_with_len 1) size ∙ range-push (length xs))).1

take_all : {A : Type 0} (xs : List A) → take (length xs) xs ≡ xs
take_all [] = refl
take_all (x ∷ xs) = ap (λ rest. x ∷ rest) (take_all xs)

nil_of_none : {A : Type 0} (xs : List A) → length xs ≤ 0 → xs ≡ []
nil_of_none [] e = refl
nil_of_none (x ∷ xs) e = absurd (omega (arith, e))

-- The outcome of a call in which no access fails and no other context has a fatal block.
pub outcome_by : Option Reason → Bool → Option ℕ → Bool → ℕ → Outcome
outcome_by (Some reason) fatal found true number = NoSlot
outcome_by (Some reason) fatal found false number = Malformed number reason
outcome_by None true found full number = Fatal number
outcome_by None false (Some report) full number = Duplicate number report
outcome_by None false None true number = NoSlot
outcome_by None false None false number = Queued number

pub outcome_of : ℕ → ℕ → Option (List ℕ) → List Report → ℕ → Bool → ℕ → Outcome
outcome_of k limit None reports now full number = Nothing
outcome_of k limit (Some block) reports now full number = outcome_by (image_reason limit block) (is_fatal (image_of limit block)) (hit k reports (image_of limit block) now) full number

-- it is this one, by all that is known of it
record Known (full : Bool) (n : ℕ) (outcome : Outcome) : Type 0 where
  number : (m : ℕ) → number_of outcome ≡ m ∷ [] → m ≡ n
  room : (m : ℕ) → pending_number outcome ≡ m ∷ [] → full ≡ false
  slots : outcome ≡ NoSlot → full ≡ true
  stop : outcome ≡ Stopped → ⊥
  fault : outcome ≡ Fault → ⊥

no_slot : (reason : Option Reason) (fatal : Bool) (found : Option ℕ) (n : ℕ) → (reason ≡ None → fatal ≡ false) → FitsHit reason found NoSlot → NoSlot ≡ outcome_by reason fatal found true n
unfolding outcome_by
no_slot (Some reason) fatal found n mild look = refl
no_slot None fatal found n mild look = rw (mild refl, look) refl

outcome_is : (k limit : ℕ) (stands : Option (List ℕ)) (reports : List Report) (now : ℕ) (full : Bool) (n : ℕ) (outcome : Outcome) → FitsBlock limit stands outcome → FitsLook k limit stands reports now outcome → Known full n outcome → outcome ≡ outcome_of k limit stands reports now full n
unfolding outcome_by outcome_of
outcome_is k limit None reports now full n Nothing fits look known = refl
outcome_is k limit None reports now full n (Queued m) fits look known = absurd (none_stands fits.0 fits.1)
  where
    none_stands : (block : List ℕ) → None ≡ Some block → ⊥
    none_stands block e = cc
outcome_is k limit None reports now full n (Malformed m reason) fits look known = let e : None ≡ Some fits.0 = fits.1 in absurd cc
outcome_is k limit None reports now full n (Duplicate m r) fits look known = let e : None ≡ Some fits.0 = fits.1 in absurd cc
outcome_is k limit None reports now full n (Fatal m) fits look known = let e : None ≡ Some fits.0 = fits.1 in absurd cc
outcome_is k limit None reports now full n NoSlot fits look known = let e : None ≡ Some fits.0 = fits.1 in absurd cc
outcome_is k limit None reports now full n Fault fits look known = absurd (known.fault refl)
outcome_is k limit None reports now full n Stopped fits look known = absurd (known.stop refl)
outcome_is k limit (Some b) reports now full n Nothing fits look known = let e : true ≡ false = fits in absurd cc
outcome_is k limit (Some b) reports now full n (Queued m) fits look known =
    let same : fits.0 ≡ b = let e : Some b ≡ Some fits.0 = fits.1 in cc in
    let why : image_reason limit b ≡ None = ap (image_reason limit) (sym same) ∙ fits.2.0 in
    let mild : is_fatal (image_of limit b) ≡ false = ap (λ x. is_fatal (image_of limit x)) (sym same) ∙ fits.2.1 in
    let found : hit k reports (image_of limit b) now ≡ None = look in
    rw (why, mild, found, known.room m refl, known.number m refl) refl
outcome_is k limit (Some b) reports now full n (Malformed m reason) fits look known =
    let same : fits.0 ≡ b = let e : Some b ≡ Some fits.0 = fits.1 in cc in
    let why : image_reason limit b ≡ Some reason = ap (image_reason limit) (sym same) ∙ fits.2 in
    rw (why, known.room m refl, known.number m refl) refl
outcome_is k limit (Some b) reports now full n (Duplicate m r) fits look known =
    let same : fits.0 ≡ b = let e : Some b ≡ Some fits.0 = fits.1 in cc in
    let why : image_reason limit b ≡ None = ap (image_reason limit) (sym same) ∙ fits.2.0 in
    let mild : is_fatal (image_of limit b) ≡ false = ap (λ x. is_fatal (image_of limit x)) (sym same) ∙ fits.2.1 in
    let found : hit k reports (image_of limit b) now ≡ Some r = look in
    rw (why, mild, found, known.number m refl) refl
outcome_is k limit (Some b) reports now full n (Fatal m) fits look known =
    let same : fits.0 ≡ b = let e : Some b ≡ Some fits.0 = fits.1 in cc in
    let why : image_reason limit b ≡ None = ap (image_reason limit) (sym same) ∙ fits.2.0 in
    let severe : is_fatal (image_of limit b) ≡ true = ap (λ x. is_fatal (image_of limit x)) (sym same) ∙ fits.2.1 in
    rw (why, severe, known.number m refl) refl
outcome_is k limit (Some b) reports now full n NoSlot fits look known =
    let same : fits.0 ≡ b = let e : Some b ≡ Some fits.0 = fits.1 in cc in
    let mild : image_reason limit b ≡ None → is_fatal (image_of limit b) ≡ false = λ none. ap (λ x. is_fatal (image_of limit x)) (sym same) ∙ fits.2 (ap (image_reason limit) same ∙ none) in
    rw (known.slots refl) (no_slot (image_reason limit b) (is_fatal (image_of limit b)) (hit k reports (image_of limit b) now) n mild look)
outcome_is k limit (Some b) reports now full n Fault fits look known = absurd (known.fault refl)
outcome_is k limit (Some b) reports now full n Stopped fits look known = absurd (known.stop refl)

-- The call of a line

-- a line with this call alone, and no taken block
abbrev pub with_call : Executed → Call → Executed
with_call line call = record { act = line.act; made = line.made; calls = call ∷ []; ends = line.ends; peeks = line.peeks; taken = [] }

is_full : Plan → List Executed → Bool
is_full plan before = leb (plan.slots + length (taken_in before)) (length (queued_names (calls_in before)))

abbrev next_number : List Executed → Call → ℕ
next_number before call = acknowledged call.source (calls_in before) + 1

numbers_push : (before : List Executed) (call : Call) → numbers_of call.source (calls_in before ++ call ∷ []) ≡ numbers_of call.source (calls_in before) ++ number_of call.reply.outcome
numbers_push before call =
    let s = call.source in
    flat_map-append (number_by s) (calls_in before) (call ∷ [])
    ∙ ap (λ b. numbers_of s (calls_in before) ++ (cond b (number_of call.reply.outcome) [] ++ [])) (eq-eqb s s refl)
    ∙ ap (λ xs. numbers_of s (calls_in before) ++ xs) (append-nil (number_of call.reply.outcome))

queued_push : (before : List Executed) (call : Call) → length (queued_names (calls_in before ++ call ∷ [])) ≡ length (queued_names (calls_in before)) + length (queued_names (call ∷ []))
queued_push before call = ap length (flat_map-append _ (calls_in before) (call ∷ [])) ∙ length-append (queued_names (calls_in before)) (queued_names (call ∷ []))

-- a call in which an access fails counts
fails_here : (before : List Executed) (call : Call) → length (faulty_calls call.source (calls_in before ++ call ∷ [])) ≤ 0 → (is_fault call.reply.outcome || is_failed call.reply.ack) ≡ false
fails_here before call few =
    let s = call.source in
    let test : Call → Bool = λ c. eqb c.source s && (is_fault c.reply.outcome || is_failed c.reply.ack) in
    let all : length (faulty_calls s (calls_in before ++ call ∷ [])) ≡ length (faulty_calls s (calls_in before)) + length (faulty_calls s (call ∷ [])) =
    ap length (filter-append test (calls_in before) (call ∷ [])) ∙ length-append _ _ in
    let own : faulty_calls s (call ∷ []) ≡ cond (is_fault call.reply.outcome || is_failed call.reply.ack) (call ∷ []) [] =
    ap (λ b. cond (b && (is_fault call.reply.outcome || is_failed call.reply.ack)) (call ∷ []) []) (eq-eqb s s refl) in
    let none : length (cond (is_fault call.reply.outcome || is_failed call.reply.ack) (call ∷ []) []) ≤ 0 = omega (arith, all, few, ap length own) in
    not_counted (is_fault call.reply.outcome || is_failed call.reply.ack) none
  where
    not_counted : (b : Bool) → length (cond b (call ∷ []) []) ≤ 0 → b ≡ false
    not_counted true le = absurd (omega (arith, le))
    not_counted false le = refl

not_first : (x y : Bool) → (x || y) ≡ false → x ≡ false
not_first true y e = e
not_first false y e = refl

not_second : (x y : Bool) → (x || y) ≡ false → y ≡ false
not_second true y e = absurd cc
not_second false y e = e

known : (plan : Plan) (before : List Executed) (line : Executed) (call : Call) → IsLawfulLine plan before (with_call line call) → ((1 ≤ length (queued_names (call ∷ []))) → length (queued_names (calls_in before)) < plan.slots + length (taken_in before)) → fails_in call.source before ≡ 0 → numbers_of call.source (calls_in before ++ call ∷ []) ≡ range_with_len 1 (acknowledged call.source (calls_in before ++ call ∷ [])) → Known (is_full plan before) (next_number before call) call.reply.outcome
unfolding is_full
known plan before line call l room plain numbers =
    let o = call.reply.outcome in
    let few : length (faulty_calls call.source (calls_in before ++ call ∷ [])) ≤ 0 = omega (arith, l.faults call.source, plain) in
    let good : (is_fault o || is_failed call.reply.ack) ≡ false = fails_here before call few in
    record {
      number = λ m e.
          let pushed : numbers_of call.source (calls_in before ++ call ∷ []) ≡ numbers_of call.source (calls_in before) ++ m ∷ [] = numbers_push before call ∙ ap (λ xs. numbers_of call.source (calls_in before) ++ xs) e in
          last_number (numbers_of call.source (calls_in before)) m (sym pushed ∙ numbers ∙ ap (λ xs. range_with_len 1 (length xs)) pushed);
      room = λ m e.
          let one : length (queued_names (call ∷ [])) ≡ 1 = ap (λ xs. length {A = ℕ × ℕ} (map (λ number. (call.source, number)) xs ++ [])) e in
          let less : length (queued_names (calls_in before)) < plan.slots + length (taken_in before) = room (omega (arith, one)) in
          lt-leb (plan.slots + length (taken_in before)) (length (queued_names (calls_in before))) less;
      slots = λ e.
          let le : plan.slots + length (taken_in before) ≤ length (queued_names (calls_in before ++ call ∷ [])) + length (cond (is_fault o) (call ∷ []) []) = subst (λ (x : Outcome). FitsSlots plan before (with_call line call) x) e l.each_call.0.slots in
          let none : length (queued_names (call ∷ [])) ≡ 0 = ap (λ x. length {A = ℕ × ℕ} (map (λ number. (call.source, number)) (pending_number x) ++ [])) e in
          let no_fault : length (cond (is_fault o) (call ∷ []) []) ≡ 0 = ap (λ x. length (cond (is_fault x) (call ∷ []) [])) e in
          le-leb (plan.slots + length (taken_in before)) (length (queued_names (calls_in before))) (omega (arith, le, none, no_fault, queued_push before call));
      stop = λ e.
          let some : 1 ≤ length (fatal_names (call ∷ [])) = subst (λ (x : Outcome). FitsStop (with_call line call) x) e l.each_call.0.stop in
          let none : length (fatal_names (call ∷ [])) ≡ 0 = ap (λ x. length {A = ℕ × ℕ} (map (λ number. (call.source, number)) (fatal_number x) ++ [])) e in
          omega (arith, some, none);
      fault = λ e.
          let yes : is_fault o ≡ true = ap is_fault e in
          let no_fault : is_fault o ≡ false = not_first (is_fault o) (is_failed call.reply.ack) good in
          let never : true ≡ false = sym yes ∙ no_fault in
          absurd cc;
    }

-- the state of an acknowledgement in which no access fails
ack_of : Bool → AckState
ack_of true = Done
ack_of false = NotAsked

ack_is : (asked : Bool) (ack : AckState) → IsAsked asked ack → is_failed ack ≡ false → ack ≡ ack_of asked
unfolding ack_of
ack_is true NotAsked is good = absurd (is refl)
ack_is true Done is good = refl
ack_is true Failed is good = absurd cc
ack_is false ack is good = is

-- the call that a source's context makes
pub serial_call : Plan → List Executed → ℕ → Call
serial_call plan before s =
    let outcome = outcome_of plan.places (plan.limit s) (standing s before (calls_in before)) (reports_in before) (clock_after before) (is_full plan before) (acknowledged s (calls_in before) + 1) in
    record { context = plan.server s; source = s; now = clock_after before; reply = record { outcome = outcome; ack = ack_of (acknowledges outcome && plan.has_ack s) } }

look_here : (plan : Plan) (before : List Executed) (line : Executed) (call : Call) → LooksInLine plan before (with_call line call) → FitsLook plan.places (plan.limit call.source) (standing call.source before (calls_in before)) (reports_in before) call.now call.reply.outcome
look_here plan before line call looks =
    let c = call.context in
    let mine : cond (eqb c c) (call ∷ []) [] ≡ call ∷ [] = ap (λ b. cond b (call ∷ []) []) (eq-eqb c c refl) in
    let here : Looks plan before (reports_in before ++ []) (length (reports_in before)) (calls_in before) (call ∷ []) =
    subst (λ (xs : List Call). Looks plan before (reports_in before ++ []) (length (reports_in before)) (calls_in before) xs) mine (looks c) in
    let size : length (reports_in before ++ []) ≡ length (reports_in before) = ap length (append-nil (reports_in before)) in
    let all : here.0 ≡ length (reports_in before) = omega (arith, here.1, here.2, size) in
    let seen : take here.0 (reports_in before ++ []) ≡ reports_in before = ap (λ n. take n (reports_in before ++ [])) all ∙ ap (take (length (reports_in before))) (append-nil (reports_in before)) ∙ take_all (reports_in before) in
    subst (λ (xs : List Report). FitsLook plan.places (plan.limit call.source) (standing call.source before (calls_in before)) xs call.now call.reply.outcome) seen here.3

abbrev call_with : ℕ → ℕ → ℕ → Outcome → AckState → Call
call_with c s now outcome ack = record { context = c; source = s; now = now; reply = record { outcome = outcome; ack = ack } }

-- the call of a line is this one
pub call_is : (plan : Plan) (before : List Executed) (line : Executed) (call : Call) → IsLawfulLine plan before (with_call line call) → ((1 ≤ length (queued_names (call ∷ []))) → length (queued_names (calls_in before)) < plan.slots + length (taken_in before)) → fails_in call.source before ≡ 0 → numbers_of call.source (calls_in before ++ call ∷ []) ≡ range_with_len 1 (acknowledged call.source (calls_in before ++ call ∷ [])) → call ≡ serial_call plan before call.source
unfolding serial_call
call_is plan before line call l room plain numbers =
    let s = call.source in
    let o = call.reply.outcome in
    let lawful = l.each_call.0 in
    let o2 = outcome_of plan.places (plan.limit s) (standing s before (calls_in before)) (reports_in before) (clock_after before) (is_full plan before) (acknowledged s (calls_in before) + 1) in
    let few : length (faulty_calls s (calls_in before ++ call ∷ [])) ≤ 0 = omega (arith, l.faults s, plain) in
    let good : is_failed call.reply.ack ≡ false = not_second (is_fault o) (is_failed call.reply.ack) (fails_here before call few) in
    let outcome : o ≡ o2 =
    outcome_is plan.places (plan.limit s) (standing s before (calls_in before)) (reports_in before) call.now (is_full plan before) (next_number before call) o lawful.block (look_here plan before line call l.looks) (known plan before line call l room plain numbers)
    ∙ ap (λ t. outcome_of plan.places (plan.limit s) (standing s before (calls_in before)) (reports_in before) t (is_full plan before) (acknowledged s (calls_in before) + 1)) lawful.by.now in
    let ack : call.reply.ack ≡ ack_of (acknowledges o2 && plan.has_ack s) =
    ack_is (acknowledges o && plan.has_ack s) call.reply.ack lawful.asked good ∙ ap (λ x. ack_of (acknowledges x && plan.has_ack s)) outcome in
    ap (λ c. call_with c s call.now o call.reply.ack) lawful.by.context
    ∙ ap (λ t. call_with (plan.server s) s t o call.reply.ack) lawful.by.now
    ∙ ap (λ x. call_with (plan.server s) s (clock_after before) x call.reply.ack) outcome
    ∙ ap (λ x. call_with (plan.server s) s (clock_after before) o2 x) ack
