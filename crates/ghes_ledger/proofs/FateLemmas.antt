-- The fates of single blocks in a lawful ledger.
use Rattle.std.proofs.Common.{◌≡◌, ◌≤◌, ◌<◌, ℕ, zero, suc, ◌+◌, ◌-◌, Bool, true, false, cond, eqb, ◌&&◌, List, [], ◌∷◌, ◌++◌, map, length, refl, sym, ap, subst, ◌∙◌, arith, append_assoc, Some, add-zero}
use Rattle.std.specs.Prelude.{slice_get, filter, IsPermutation}
use Rattle.std.specs.List.{flat_map, range_with_len, AllByRecursion}
use Rattle.std.proofs.lemmas.Bool.{eqb-true, eq-eqb, ne_eqb}
use Rattle.std.proofs.lemmas.List.{length-append, map-append}
use Rattle.std.proofs.lemmas.List.Concat.{flat_map-append}
use Rattle.std.proofs.lemmas.List.Elements.{filter-append}
use Rattle.std.proofs.lemmas.List.Sorted.{IsPermutation-refl}
use Rattle.ghes_call.specs.declared.call.Call.{Call}
use Rattle.ghes_call.specs.declared.call.Outcome.{Outcome}
use Rattle.ghes_call.specs.declared.call.Outcome.TheVariants.{Nothing, Queued, Malformed, Duplicate, Fatal, NoSlot, Fault, Stopped}
use Rattle.ghes_call.specs.Packet.{PacketSeen}
use Rattle.ghes_ledger.specs.declared.ledger.PanicEntry.{PanicEntry}
use Rattle.ghes_ledger.specs.declared.ledger.Taken.{Taken}
use Rattle.ghes_ledger.specs.declared.ledger.Taken.TheVariants.{Delivered, Dropped}
use Rattle.ghes_ledger.specs.Fates.{duplicate_fate, call_fate, taken_fate, panic_fate, fates_of, bytes_if, entries_of, HasOneFateEach}
use Rattle.ghes_ledger.specs.History.{Act, Executed, calls_in, taken_in, on_source, kept_calls, Each, EachCall}
use Rattle.cper_block.specs.Image.{image_of}
use Rattle.ghes_ledger.specs.Kept.{Kept}
use Rattle.ghes_ledger.specs.Lawful.{IsImageIn, IsLawfulCall, IsLawfulLine, IsLawful}
use Rattle.ghes_ledger.specs.Names.{packet_of, panic_packet, name_of, queued_names, fatal_names, taken_names, panic_names, waiting, fatals, served_by}
use Rattle.ghes_ledger.specs.Outcomes.{number_of, pending_number, fatal_number}
use Rattle.ghes_ledger.specs.Plan.{Plan}
use Rattle.ghes_ledger.specs.Queue.{blocks_of, queue, block_at, number_by, numbers_of, acknowledged}
use Rattle.ghes_ledger.proofs.SourceLemmas.{on_source-kept}

-- a number as often as it stands in a list
times : ℕ → List ℕ → List ℕ
times n xs = filter (λ m. eqb m n) xs

times_below : (n a len : ℕ) → n < a → times n (range_with_len a len) ≡ []
unfolding times
times_below n a zero less = refl
times_below n a (suc len) less =
    ap (λ b. cond b (a ∷ times n (range_with_len (a + 1) len)) (times n (range_with_len (a + 1) len))) (ne_eqb a n (λ e. omega arith))
    ∙ times_below n (a + 1) len (omega arith)

times_past : (n a len : ℕ) → a + len ≤ n → times n (range_with_len a len) ≡ []
unfolding times
times_past n a zero less = refl
times_past n a (suc len) less =
    ap (λ b. cond b (a ∷ times n (range_with_len (a + 1) len)) (times n (range_with_len (a + 1) len))) (ne_eqb a n (λ e. omega arith))
    ∙ times_past n (a + 1) len (omega arith)

-- a number of a range stands in it once
times_within : (k a len : ℕ) → k < len → times (a + k) (range_with_len a len) ≡ (a + k) ∷ []
unfolding times
times_within k a zero less = absurd (omega arith)
times_within zero a (suc len) less =
    let same : a + 0 ≡ a = omega arith in
    ap (λ b. cond b (a ∷ times (a + 0) (range_with_len (a + 1) len)) (times (a + 0) (range_with_len (a + 1) len))) (eq-eqb a (a + 0) (omega arith))
    ∙ ap (λ xs. a ∷ xs) (times_below (a + 0) (a + 1) len (omega arith)) ∙ ap (λ n. n ∷ []) (sym same)
times_within (suc k) a (suc len) less =
    let later : a + suc k ≡ a + 1 + k = omega arith in
    ap (λ b. cond b (a ∷ times (a + suc k) (range_with_len (a + 1) len)) (times (a + suc k) (range_with_len (a + 1) len))) (ne_eqb a (a + suc k) (λ e. omega arith))
    ∙ ap (λ n. times n (range_with_len (a + 1) len)) later ∙ times_within k (a + 1) len (omega arith) ∙ ap (λ n. n ∷ []) (sym later)

map-map : {A B C : Type 0} (f : A → B) (g : B → C) (xs : List A) → map g (map f xs) ≡ map (λ x. g (f x)) xs
map-map f g [] = refl
map-map f g (x ∷ xs) = ap (λ rest. g (f x) ∷ rest) (map-map f g xs)

and_left : (x y : Bool) → (x && y) ≡ true → x ≡ true
and_left true y e = refl
and_left false y e = e

and_right : (x y : Bool) → (x && y) ≡ true → y ≡ true
and_right true y e = e
and_right false y e = absurd cc

-- a name as often as it stands in a list
abbrev is_name : ℕ → ℕ → (ℕ × ℕ) → Bool
is_name s n name = eqb name.0 s && eqb name.1 n

named : ℕ → ℕ → List (ℕ × ℕ) → List (ℕ × ℕ)
named s n names = filter (is_name s n) names

named-append : (s n : ℕ) (xs ys : List (ℕ × ℕ)) → named s n (xs ++ ys) ≡ named s n xs ++ named s n ys
unfolding named
named-append s n xs ys = filter-append (is_name s n) xs ys

length_cond : {A B : Type 0} (b : Bool) (x : A) (y : B) → length (cond b (x ∷ []) []) ≡ length (cond b (y ∷ []) [])
length_cond true x y = refl
length_cond false x y = refl

-- the name of one number
name_here : (here : Bool) (s n source number : ℕ) → eqb source s ≡ here → length (named s n ((source, number) ∷ [])) ≡ length (times n (cond here (number ∷ []) []))
unfolding named times
name_here true s n source number e = ap (λ b. length {A = ℕ × ℕ} (cond (b && eqb number n) ((source, number) ∷ []) [])) e ∙ length_cond {A = ℕ × ℕ} (eqb number n) _ _
name_here false s n source number e = ap (λ b. length {A = ℕ × ℕ} (cond (b && eqb number n) ((source, number) ∷ []) [])) e

-- a duplicate has its call alone, and every other acknowledged block has its name among the queued or the fatal ones
outcome_counts : (here : Bool) (s n source : ℕ) (outcome : Outcome) → eqb source s ≡ here → length (cond here (duplicate_fate n outcome) []) + (length (named s n (map (λ number. (source, number)) (pending_number outcome))) + length (named s n (map (λ number. (source, number)) (fatal_number outcome)))) ≡ length (times n (cond here (number_of outcome) []))
unfolding named times
outcome_counts true s n source Nothing e = refl
outcome_counts true s n source (Queued m) e = omega (arith, name_here true s n source m e)
outcome_counts true s n source (Malformed m reason) e = omega (arith, name_here true s n source m e)
outcome_counts true s n source (Duplicate m report) e = add-zero _ ∙ length_cond (eqb m n) _ _
outcome_counts true s n source (Fatal m) e = omega (arith, name_here true s n source m e)
outcome_counts true s n source NoSlot e = refl
outcome_counts true s n source Fault e = refl
outcome_counts true s n source Stopped e = refl
outcome_counts false s n source Nothing e = refl
outcome_counts false s n source (Queued m) e = omega (arith, name_here false s n source m e)
outcome_counts false s n source (Malformed m reason) e = omega (arith, name_here false s n source m e)
outcome_counts false s n source (Duplicate m report) e = refl
outcome_counts false s n source (Fatal m) e = omega (arith, name_here false s n source m e)
outcome_counts false s n source NoSlot e = refl
outcome_counts false s n source Fault e = refl
outcome_counts false s n source Stopped e = refl

calls_count : (s n : ℕ) (calls : List Call) → length (flat_map (call_fate s n) calls) + (length (named s n (queued_names calls)) + length (named s n (fatal_names calls))) ≡ length (times n (numbers_of s calls))
unfolding named times
calls_count s n [] = refl
calls_count s n (call ∷ calls) =
    let queued = map (λ number. (call.source, number)) (pending_number call.reply.outcome) in
    let fatal = map (λ number. (call.source, number)) (fatal_number call.reply.outcome) in
    let now : length (call_fate s n call) + (length (named s n queued) + length (named s n fatal)) ≡ length (times n (number_by s call)) = outcome_counts (eqb call.source s) s n call.source call.reply.outcome refl in
    let rest : length (flat_map (call_fate s n) calls) + (length (named s n (queued_names calls)) + length (named s n (fatal_names calls))) ≡ length (times n (numbers_of s calls)) = calls_count s n calls in
    let a : length (call_fate s n call ++ flat_map (call_fate s n) calls) ≡ length (call_fate s n call) + length (flat_map (call_fate s n) calls) = length-append _ _ in
    let b : length (named s n (queued ++ queued_names calls)) ≡ length (named s n queued) + length (named s n (queued_names calls)) = ap length (named-append s n queued (queued_names calls)) ∙ length-append _ _ in
    let d : length (named s n (fatal ++ fatal_names calls)) ≡ length (named s n fatal) + length (named s n (fatal_names calls)) = ap length (named-append s n fatal (fatal_names calls)) ∙ length-append _ _ in
    let e : length (times n (number_by s call ++ numbers_of s calls)) ≡ length (times n (number_by s call)) + length (times n (numbers_of s calls)) = ap length (filter-append (λ m. eqb m n) (number_by s call) (numbers_of s calls)) ∙ length-append _ _ in
    omega (arith, now, rest, a, b, d, e)

-- the fates that calls give are those of the calls on the source
fate_of_source : (b : Bool) (s n : ℕ) (call : Call) (calls : List Call) → eqb call.source s ≡ b → cond b (duplicate_fate n call.reply.outcome) [] ++ flat_map (λ c. duplicate_fate n c.reply.outcome) (on_source s calls) ≡ flat_map (λ c. duplicate_fate n c.reply.outcome) (cond b (call ∷ on_source s calls) (on_source s calls))
fate_of_source true s n call calls e = refl
fate_of_source false s n call calls e = refl

fates_on_source : (s n : ℕ) (calls : List Call) → flat_map (call_fate s n) calls ≡ flat_map (λ c. duplicate_fate n c.reply.outcome) (on_source s calls)
fates_on_source s n [] = refl
fates_on_source s n (call ∷ calls) = ap (λ rest. call_fate s n call ++ rest) (fates_on_source s n calls) ∙ fate_of_source (eqb call.source s) s n call calls refl

number_of_source : (b : Bool) (s : ℕ) (call : Call) (calls : List Call) → cond b (number_of call.reply.outcome) [] ++ flat_map (λ c. number_of c.reply.outcome) (on_source s calls) ≡ flat_map (λ c. number_of c.reply.outcome) (cond b (call ∷ on_source s calls) (on_source s calls))
number_of_source true s call calls = refl
number_of_source false s call calls = refl

pub numbers_on_source : (s : ℕ) (calls : List Call) → numbers_of s calls ≡ flat_map (λ c. number_of c.reply.outcome) (on_source s calls)
numbers_on_source s [] = refl
numbers_on_source s (call ∷ calls) = ap (λ rest. number_by s call ++ rest) (numbers_on_source s calls) ∙ number_of_source (eqb call.source s) s call calls

-- there are as many fates of taken blocks and of blocks of the panic list as entries
taken_counts : (s n : ℕ) (entry : Taken) → length (taken_fate s n entry) ≡ length (bytes_if s n (packet_of entry))
taken_counts s n (Delivered source seq bytes reported) = length_cond (eqb source s && eqb seq n) _ _
taken_counts s n (Dropped source seq bytes reason) = length_cond (eqb source s && eqb seq n) _ _

all_taken_counts : (s n : ℕ) (taken : List Taken) → length (flat_map (taken_fate s n) taken) ≡ length (flat_map (bytes_if s n) (map packet_of taken))
all_taken_counts s n [] = refl
all_taken_counts s n (entry ∷ taken) =
    length-append (taken_fate s n entry) (flat_map (taken_fate s n) taken)
    ∙ ap (λ k. k + length (flat_map (taken_fate s n) taken)) (taken_counts s n entry)
    ∙ ap (λ k. length (bytes_if s n (packet_of entry)) + k) (all_taken_counts s n taken)
    ∙ sym (length-append (bytes_if s n (packet_of entry)) (flat_map (bytes_if s n) (map packet_of taken)))

all_panic_counts : (s n : ℕ) (panic : List PanicEntry) → length (flat_map (panic_fate s n) panic) ≡ length (flat_map (bytes_if s n) (map panic_packet panic))
all_panic_counts s n [] = refl
all_panic_counts s n (entry ∷ panic) =
    length-append (panic_fate s n entry) (flat_map (panic_fate s n) panic)
    ∙ ap (λ k. k + length (flat_map (panic_fate s n) panic)) (length_cond (eqb entry.source s && eqb entry.seq n) _ _)
    ∙ ap (λ k. length (bytes_if s n (panic_packet entry)) + k) (all_panic_counts s n panic)
    ∙ sym (length-append (bytes_if s n (panic_packet entry)) (flat_map (bytes_if s n) (map panic_packet panic)))

-- the entries of a block are as many as its names
entry_names : (s n : ℕ) (packets : List PacketSeen) → length (flat_map (bytes_if s n) packets) ≡ length (named s n (map name_of packets))
unfolding named
entry_names s n [] = refl
entry_names s n (packet ∷ packets) = entry_name (eqb packet.source s && eqb packet.seq n) packet packets (entry_names s n packets) where
  entry_name : (b : Bool) (packet : PacketSeen) (packets : List PacketSeen) → length (flat_map (bytes_if s n) packets) ≡ length (named s n (map name_of packets)) → length (cond b (packet.bytes ∷ []) [] ++ flat_map (bytes_if s n) packets) ≡ length (cond b (name_of packet ∷ named s n (map name_of packets)) (named s n (map name_of packets)))
  entry_name true packet packets e = ap suc e
  entry_name false packet packets e = e

-- a name among those that its own context serves
named_here : (b : Bool) (plan : Plan) (s n : ℕ) (name : ℕ × ℕ) (names : List (ℕ × ℕ)) → eqb name.0 s ≡ b → named s n (served_by plan (plan.server s) names) ≡ named s n names → named s n (served_by plan (plan.server s) (name ∷ names)) ≡ named s n (name ∷ names)
unfolding named
named_here true plan s n name names e rest =
    let own : eqb (plan.server name.0) (plan.server s) ≡ true = eq-eqb _ _ (ap plan.server (eqb-true name.0 s e)) in
    ap (λ b. named s n (cond b (name ∷ served_by plan (plan.server s) names) (served_by plan (plan.server s) names))) own
    ∙ ap (λ xs. cond (is_name s n name) (name ∷ xs) xs) rest
named_here false plan s n name names e rest =
    named_other (eqb (plan.server name.0) (plan.server s)) ∙ rest ∙ sym (ap (λ b. cond (b && eqb name.1 n) (name ∷ named s n names) (named s n names)) e) where
      named_other : (b : Bool) → named s n (cond b (name ∷ served_by plan (plan.server s) names) (served_by plan (plan.server s) names)) ≡ named s n (served_by plan (plan.server s) names)
      named_other true = ap (λ b. cond (b && eqb name.1 n) (name ∷ named s n (served_by plan (plan.server s) names)) (named s n (served_by plan (plan.server s) names))) e
      named_other false = refl

named_served : (plan : Plan) (s n : ℕ) (names : List (ℕ × ℕ)) → named s n (served_by plan (plan.server s) names) ≡ named s n names
unfolding named
named_served plan s n [] = refl
named_served plan s n (name ∷ names) = named_here (eqb name.0 s) plan s n name names refl (named_served plan s n names)

-- the entries of a block of a lawful ledger are as many as its names among the queued and the fatal ones
entries_count : (plan : Plan) (lines : List Act) (kept : Kept) (history : List Executed) → IsLawful plan lines kept history → (s n : ℕ) → length (entries_of s n kept) ≡ length (named s n (queued_names (calls_in history))) + length (named s n (fatal_names (calls_in history)))
entries_count plan lines kept history l s n =
    let taken = taken_names kept.taken in
    let wait = panic_names (waiting kept.panic) in
    let fatal = panic_names (fatals kept.panic) in
    let names : map name_of (map packet_of kept.taken ++ map panic_packet kept.panic) ≡ (taken ++ wait) ++ fatal =
    map-append name_of (map packet_of kept.taken) (map panic_packet kept.panic)
    ∙ ap (λ xs. xs ++ map name_of (map panic_packet kept.panic)) (map-map packet_of name_of kept.taken)
    ∙ ap (λ xs. taken ++ xs) (map-map panic_packet name_of kept.panic ∙ ap panic_names l.panic_order ∙ map-append _ (waiting kept.panic) (fatals kept.panic))
    ∙ sym (append_assoc taken wait fatal) in
    let by_server : named s n (taken ++ wait) ≡ named s n (queued_names (calls_in history)) =
    sym (named_served plan s n (taken ++ wait)) ∙ ap (named s n) (l.order (plan.server s)) ∙ named_served plan s n (queued_names (calls_in history)) in
    entry_names s n (map packet_of kept.taken ++ map panic_packet kept.panic)
    ∙ ap (λ xs. length (named s n xs)) names
    ∙ ap length (named-append s n (taken ++ wait) fatal ∙ ap (λ xs. xs ++ named s n fatal) by_server ∙ ap (λ xs. named s n (queued_names (calls_in history)) ++ named s n xs) l.fatal_blocks)
    ∙ length-append _ _

-- there are as many fates as Duplicate calls and entries
fates_count : (plan : Plan) (lines : List Act) (kept : Kept) (history : List Executed) → IsLawful plan lines kept history → (s n : ℕ) → length (fates_of s n kept) ≡ length (flat_map (call_fate s n) (calls_in history)) + length (entries_of s n kept)
fates_count plan lines kept history l s n =
    let calls : flat_map (call_fate s n) kept.calls ≡ flat_map (call_fate s n) (calls_in history) =
    ap (flat_map (call_fate s n)) l.beside.calls ∙ fates_on_source s n (kept_calls plan history)
    ∙ ap (flat_map (λ c. duplicate_fate n c.reply.outcome)) (on_source-kept plan s history l.each_line) ∙ sym (fates_on_source s n (calls_in history)) in
    let taken = flat_map (taken_fate s n) kept.taken in
    let panic = flat_map (panic_fate s n) kept.panic in
    let whole : length (fates_of s n kept) ≡ length (flat_map (call_fate s n) kept.calls) + length (taken ++ panic) = length-append _ _ in
    let parts : length (taken ++ panic) ≡ length taken + length panic = length-append _ _ in
    let of_taken : length taken ≡ length (flat_map (bytes_if s n) (map packet_of kept.taken)) = all_taken_counts s n kept.taken in
    let of_panic : length panic ≡ length (flat_map (bytes_if s n) (map panic_packet kept.panic)) = all_panic_counts s n kept.panic in
    let both : length (entries_of s n kept) ≡ length (flat_map (bytes_if s n) (map packet_of kept.taken)) + length (flat_map (bytes_if s n) (map panic_packet kept.panic)) =
    ap length (flat_map-append (bytes_if s n) (map packet_of kept.taken) (map panic_packet kept.panic)) ∙ length-append _ _ in
    let same : length (flat_map (call_fate s n) kept.calls) ≡ length (flat_map (call_fate s n) (calls_in history)) = ap length calls in
    omega (arith, whole, parts, of_taken, of_panic, both, same)

acknowledged_is : (plan : Plan) (lines : List Act) (kept : Kept) (history : List Executed) → IsLawful plan lines kept history → (s : ℕ) → numbers_of s kept.calls ≡ numbers_of s (calls_in history)
acknowledged_is plan lines kept history l s =
    ap (numbers_of s) l.beside.calls ∙ numbers_on_source s (kept_calls plan history)
    ∙ ap (flat_map (λ c. number_of c.reply.outcome)) (on_source-kept plan s history l.each_line) ∙ sym (numbers_on_source s (calls_in history))

-- a number stands among those of a source as often as in the range up to the acknowledged blocks
number_times : (plan : Plan) (lines : List Act) (kept : Kept) (history : List Executed) → IsLawful plan lines kept history → (s n : ℕ) → times n (numbers_of s (calls_in history)) ≡ times n (range_with_len 1 (acknowledged s kept.calls))
number_times plan lines kept history l s n = ap (times n) (l.numbers s) ∙ ap (λ xs. times n (range_with_len 1 (length xs))) (sym (acknowledged_is plan lines kept history l s))

-- as many as its number among those of the source
fates_of_number : (plan : Plan) (lines : List Act) (kept : Kept) (history : List Executed) → IsLawful plan lines kept history → (s n : ℕ) → length (fates_of s n kept) ≡ length (times n (range_with_len 1 (acknowledged s kept.calls)))
fates_of_number plan lines kept history l s n =
    let numbers : length (times n (numbers_of s (calls_in history))) ≡ length (times n (range_with_len 1 (acknowledged s kept.calls))) = ap length (number_times plan lines kept history l s n) in
    omega (arith, fates_count plan lines kept history l s n, entries_count plan lines kept history l s n, calls_count s n (calls_in history), numbers)

nil_of_none : {A : Type 0} (xs : List A) → length xs ≡ 0 → xs ≡ []
nil_of_none [] e = refl
nil_of_none (x ∷ xs) e = absurd (omega (arith, e))

-- an acknowledged block has exactly one fate
pub one_of_acknowledged : (plan : Plan) (lines : List Act) (kept : Kept) (history : List Executed) → IsLawful plan lines kept history → (s k : ℕ) → k < acknowledged s kept.calls → length (fates_of s (k + 1) kept) ≡ 1
one_of_acknowledged plan lines kept history l s k less =
    let place : k + 1 ≡ 1 + k = omega arith in
    fates_of_number plan lines kept history l s (k + 1)
    ∙ ap (λ m. length (times m (range_with_len 1 (acknowledged s kept.calls)))) place ∙ ap length (times_within k 1 (acknowledged s kept.calls) less)

-- a block that is not acknowledged has none
pub none_of_others : (plan : Plan) (lines : List Act) (kept : Kept) (history : List Executed) → IsLawful plan lines kept history → (s k : ℕ) → acknowledged s kept.calls ≤ k → fates_of s (k + 1) kept ≡ []
none_of_others plan lines kept history l s k beyond =
    nil_of_none _ (fates_of_number plan lines kept history l s (k + 1) ∙ ap length (times_past (k + 1) 1 (acknowledged s kept.calls) (omega arith)))

pub none_of_zero : (plan : Plan) (lines : List Act) (kept : Kept) (history : List Executed) → IsLawful plan lines kept history → (s : ℕ) → fates_of s 0 kept ≡ []
none_of_zero plan lines kept history l s =
    nil_of_none _ (fates_of_number plan lines kept history l s 0 ∙ ap length (times_below 0 1 (acknowledged s kept.calls) (omega arith)))

-- an element of a list is one of a longer list
pub get_longer : {A : Type 0} (xs ys : List A) (k : ℕ) (x : A) → slice_get xs k ≡ Some x → slice_get (xs ++ ys) k ≡ Some x
get_longer [] ys k x e = absurd cc
get_longer (y ∷ xs) ys zero x e = e
get_longer (y ∷ xs) ys (suc k) x e = get_longer xs ys k x e

-- an image stays one
pub image_later : (plan : Plan) (before : List Executed) (line : Executed) (packet : PacketSeen) → IsImageIn plan before packet → IsImageIn plan (line ∷ before) packet
image_later plan before line packet i = record {
  block = i.block;
  at = get_longer (queue packet.source before) (blocks_of packet.source line.made) (packet.seq - 1) i.block i.at;
  bytes = i.bytes;
  reason = i.reason;
}

-- the bytes of a packet that is an image
image_bytes : (here : Bool) (plan : Plan) (history : List Executed) (s k : ℕ) (block : List ℕ) (packet : PacketSeen) → eqb packet.source s && eqb packet.seq (k + 1) ≡ here → slice_get (queue s history) k ≡ Some block → IsImageIn plan history packet → AllByRecursion (λ bytes. bytes ≡ image_of (plan.limit s) block) (cond here (packet.bytes ∷ []) [])
image_bytes true plan history s k block packet e is i =
    let source : packet.source ≡ s = eqb-true packet.source s (and_left (eqb packet.source s) (eqb packet.seq (k + 1)) e) in
    let seq : packet.seq ≡ k + 1 = eqb-true packet.seq (k + 1) (and_right (eqb packet.source s) (eqb packet.seq (k + 1)) e) in
    let back : k + 1 - 1 ≡ k = omega arith in
    let found : Some i.block ≡ Some block = sym i.at ∙ ap (λ r. block_at packet.seq (queue r history)) source ∙ ap (λ n. block_at n (queue s history)) seq ∙ ap (slice_get (queue s history)) back ∙ is in
    let same : i.block ≡ block = cc in
    (i.bytes ∙ ap (λ r. image_of (plan.limit r) i.block) source ∙ ap (image_of (plan.limit s)) same, tt)
image_bytes false plan history s k block packet e is i = tt

all_of_both : (P : List ℕ → Type 0) (xs ys : List (List ℕ)) → AllByRecursion P xs → AllByRecursion P ys → AllByRecursion P (xs ++ ys)
all_of_both P [] ys all_xs all_ys = all_ys
all_of_both P (x ∷ xs) ys all_xs all_ys = (all_xs.0, all_of_both P xs ys all_xs.1 all_ys)

bytes_of_all : (plan : Plan) (history : List Executed) (s k : ℕ) (block : List ℕ) (packets : List PacketSeen) → slice_get (queue s history) k ≡ Some block → AllByRecursion (IsImageIn plan history) packets → AllByRecursion (λ bytes. bytes ≡ image_of (plan.limit s) block) (flat_map (bytes_if s (k + 1)) packets)
bytes_of_all plan history s k block [] is all = tt
bytes_of_all plan history s k block (packet ∷ packets) is all =
    all_of_both _ (bytes_if s (k + 1) packet) (flat_map (bytes_if s (k + 1)) packets)
    (image_bytes (eqb packet.source s && eqb packet.seq (k + 1)) plan history s k block packet refl is all.0)
    (bytes_of_all plan history s k block packets is all.1)

images_more : (plan : Plan) (history : List Executed) (xs ys : List PacketSeen) → AllByRecursion (IsImageIn plan history) xs → AllByRecursion (IsImageIn plan history) ys → AllByRecursion (IsImageIn plan history) (xs ++ ys)
images_more plan history [] ys all_xs all_ys = all_ys
images_more plan history (x ∷ xs) ys all_xs all_ys = (all_xs.0, images_more plan history xs ys all_xs.1 all_ys)

images_later : (plan : Plan) (before : List Executed) (line : Executed) (taken : List Taken) → AllByRecursion (λ entry. IsImageIn plan before (packet_of entry)) taken → AllByRecursion (IsImageIn plan (line ∷ before)) (map packet_of taken)
images_later plan before line [] all = tt
images_later plan before line (entry ∷ taken) all = (image_later plan before line (packet_of entry) all.0, images_later plan before line taken all.1)

all_later : (plan : Plan) (before : List Executed) (line : Executed) (packets : List PacketSeen) → AllByRecursion (IsImageIn plan before) packets → AllByRecursion (IsImageIn plan (line ∷ before)) packets
all_later plan before line [] all = tt
all_later plan before line (packet ∷ packets) all = (image_later plan before line packet all.0, all_later plan before line packets all.1)

-- each taken block is an image
taken_images : (plan : Plan) (history : List Executed) → Each (IsLawfulLine plan) history → AllByRecursion (IsImageIn plan history) (map packet_of (taken_in history))
taken_images plan [] each = tt
taken_images plan (line ∷ before) each =
    subst (λ (xs : List PacketSeen). AllByRecursion (IsImageIn plan (line ∷ before)) xs) (sym (map-append packet_of (taken_in before) line.taken))
    (images_more plan (line ∷ before) (map packet_of (taken_in before)) (map packet_of line.taken)
    (all_later plan before line (map packet_of (taken_in before)) (taken_images plan before each.0)) (images_later plan before line line.taken each.1.images))

panic_all : (plan : Plan) (history : List Executed) (panic : List PanicEntry) → AllByRecursion (λ entry. IsImageIn plan history (panic_packet entry)) panic → AllByRecursion (IsImageIn plan history) (map panic_packet panic)
panic_all plan history [] all = tt
panic_all plan history (entry ∷ panic) all = (all.0, panic_all plan history panic all.1)

-- the entries of a block are its image, byte for byte
pub entries_of_block : (plan : Plan) (lines : List Act) (kept : Kept) (history : List Executed) → IsLawful plan lines kept history → (s k : ℕ) (block : List ℕ) → slice_get (queue s history) k ≡ Some block → AllByRecursion (λ bytes. bytes ≡ image_of (plan.limit s) block) (entries_of s (k + 1) kept)
entries_of_block plan lines kept history l s k block is =
    bytes_of_all plan history s k block (map packet_of kept.taken ++ map panic_packet kept.panic) is
    (images_more plan history (map packet_of kept.taken) (map panic_packet kept.panic)
    (subst (λ (xs : List Taken). AllByRecursion (IsImageIn plan history) (map packet_of xs)) (sym l.beside.taken) (taken_images plan history l.each_line))
    (panic_all plan history kept.panic l.panic_images))

-- what holds of each number of two lists
all_both : (P : ℕ → Type 0) (xs ys : List ℕ) → AllByRecursion P xs → AllByRecursion P ys → AllByRecursion P (xs ++ ys)
all_both P [] ys all_xs all_ys = all_ys
all_both P (x ∷ xs) ys all_xs all_ys = (all_xs.0, all_both P xs ys all_xs.1 all_ys)

all_weaker : (low high : ℕ) (xs : List ℕ) → low ≤ high → AllByRecursion (λ n. n ≤ low) xs → AllByRecursion (λ n. n ≤ high) xs
all_weaker low high [] le all = tt
all_weaker low high (x ∷ xs) le all = (omega (arith, all.0), all_weaker low high xs le all.1)

-- the numbers that the calls of a line acknowledged were made before it
made_by : (b : Bool) (s : ℕ) (before : List Executed) (call : Call) → eqb call.source s ≡ b → AllByRecursion (λ number. number ≤ length (queue call.source before)) (number_of call.reply.outcome) → AllByRecursion (λ number. number ≤ length (queue s before)) (cond b (number_of call.reply.outcome) [])
made_by true s before call e made =
    let P : ℕ → Type 0 = λ source. AllByRecursion (λ number. number ≤ length (queue source before)) (number_of call.reply.outcome) in
    subst P (eqb-true call.source s e) made
made_by false s before call e made = tt

made_in_line : (plan : Plan) (s : ℕ) (before : List Executed) (line : Executed) (past calls : List Call) → EachCall (IsLawfulCall plan before line) past calls → AllByRecursion (λ number. number ≤ length (queue s before)) (numbers_of s calls)
made_in_line plan s before line past [] all = tt
made_in_line plan s before line past (call ∷ calls) all =
    all_both (λ number. number ≤ length (queue s before)) (number_by s call) (numbers_of s calls)
    (made_by (eqb call.source s) s before call refl all.0.made) (made_in_line plan s before line (past ++ call ∷ []) calls all.1)

numbers_made : (plan : Plan) (s : ℕ) (history : List Executed) → Each (IsLawfulLine plan) history → AllByRecursion (λ number. number ≤ length (queue s history)) (numbers_of s (calls_in history))
numbers_made plan s [] each = tt
numbers_made plan s (line ∷ before) each =
    let low = length (queue s before) in
    let high = length (queue s (line ∷ before)) in
    let grown : high ≡ low + length (blocks_of s line.made) = length-append (queue s before) (blocks_of s line.made) in
    let le : low ≤ high = omega (arith, grown) in
    let P : List ℕ → Type 0 = λ xs. AllByRecursion (λ number. number ≤ high) xs in
    subst P (sym (flat_map-append (number_by s) (calls_in before) line.calls))
    (all_both (λ number. number ≤ high) (numbers_of s (calls_in before)) (numbers_of s line.calls)
    (all_weaker low high (numbers_of s (calls_in before)) le (numbers_made plan s before each.0))
    (all_weaker low high (numbers_of s line.calls) le (made_in_line plan s before line (calls_in before) line.calls each.1.each_call)))

-- a count whose numbers are within a bound is within it
counted_from : (a len bound : ℕ) → AllByRecursion (λ n. n ≤ bound) (range_with_len (a + 1) len) → a ≤ bound → a + len ≤ bound
counted_from a zero bound all low = omega (arith, low)
counted_from a (suc len) bound all low = omega (arith, counted_from (a + 1) len bound all.1 all.0)

-- no more blocks are acknowledged than were made
pub acknowledged_made : (plan : Plan) (lines : List Act) (kept : Kept) (history : List Executed) → IsLawful plan lines kept history → (s : ℕ) → acknowledged s kept.calls ≤ length (queue s history)
acknowledged_made plan lines kept history l s =
    let a = acknowledged s (calls_in history) in
    let same : acknowledged s kept.calls ≡ a = ap length (acknowledged_is plan lines kept history l s) in
    let P : List ℕ → Type 0 = λ xs. AllByRecursion (λ number. number ≤ length (queue s history)) xs in
    let all : AllByRecursion (λ number. number ≤ length (queue s history)) (range_with_len 1 a) = subst P (l.numbers s) (numbers_made plan s history l.each_line) in
    omega (arith, same, counted_from 0 a (length (queue s history)) all (omega arith))

numbers_are : (plan : Plan) (lines : List Act) (kept : Kept) (history : List Executed) → IsLawful plan lines kept history → (s : ℕ) → numbers_of s kept.calls ≡ range_with_len 1 (acknowledged s kept.calls)
numbers_are plan lines kept history l s =
    let same : numbers_of s kept.calls ≡ numbers_of s (calls_in history) = acknowledged_is plan lines kept history l s in
    same ∙ l.numbers s ∙ ap (λ xs. range_with_len 1 (length xs)) (sym same)

-- each acknowledged block of a source has one fate, and no other block has one
pub one_fate_each : (plan : Plan) (lines : List Act) (kept : Kept) (history : List Executed) → IsLawful plan lines kept history → (s : ℕ) → HasOneFateEach s kept
one_fate_each plan lines kept history l s = record {
  numbers = subst (λ (xs : List ℕ). IsPermutation (numbers_of s kept.calls) xs) (numbers_are plan lines kept history l s) (IsPermutation-refl (numbers_of s kept.calls));
  one = one_of_acknowledged plan lines kept history l s;
  none = none_of_others plan lines kept history l s;
  not_zero = none_of_zero plan lines kept history l s;
}
