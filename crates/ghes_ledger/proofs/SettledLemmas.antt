-- A table of fates that is filled one after another has at each number the last of that number.
use Rattle.std.proofs.Common.{◌≡◌, ◌<◌, ℕ, zero, suc, ◌+◌, Bool, true, false, cond, eqb, ◌&&◌, List, [], ◌∷◌, ◌++◌, map, length, take, get_or, set, replicate, zero-add, append-nil, refl, sym, ap, subst, ◌∙◌, arith, Option, Some, None}
use Rattle.std.specs.Prelude.{count_by, filter}
use Rattle.std.specs.List.{flat_map, filter_map, range_with_len}
use Rattle.std.proofs.lemmas.Bool.{eq-eqb, ne_eqb}
use Rattle.std.proofs.lemmas.List.{length-append, take_more}
use Rattle.std.proofs.lemmas.List.Concat.{flat_map-append}
use Rattle.std.proofs.lemmas.List.Elements.{filter_map-append}
use Rattle.std.proofs.lemmas.List.Sums.{length-filter}
use Rattle.ghes_call.specs.declared.call.Call.{Call}
use Rattle.ghes_call.specs.declared.call.Outcome.{Outcome}
use Rattle.ghes_call.specs.declared.call.Outcome.TheVariants.{Nothing, Queued, Malformed, Duplicate, Fatal, NoSlot, Fault, Stopped}
use Rattle.ghes_ledger.specs.declared.fate.Fate.{Fate}
use Rattle.ghes_ledger.specs.declared.ledger.PanicEntry.{PanicEntry}
use Rattle.ghes_ledger.specs.declared.ledger.Taken.{Taken}
use Rattle.ghes_ledger.specs.declared.ledger.Taken.TheVariants.{Delivered, Dropped}
use Rattle.ghes_ledger.specs.Fates.{duplicate_fate, call_fate, taken_fate, panic_fate, fates_of, HasOneFateEach, AreFatesOf}
use Rattle.ghes_ledger.specs.Kept.{Kept}
use Rattle.ghes_ledger.specs.Outcomes.{number_of, acknowledges}
use Rattle.ghes_ledger.specs.Queue.{number_by, numbers_of, acknowledged}
use Rattle.ghes_ledger.specs.Settled.{is_acknowledged, numbered_duplicate, numbered_call, numbered_taken, numbered_panic, put, filled, numbered_fates, settled}

-- a table that is filled by two lists, one after the other
pub filled_more : (table : List (Option Fate)) (xs ys : List (ℕ × Fate)) → filled table (xs ++ ys) ≡ filled (filled table xs) ys
filled_more table [] ys = refl
filled_more table (x ∷ xs) ys = filled_more (put table x) xs ys

-- a table that is filled by one more element of a list
pub filled_next : {X : Type 0} (f : X → List (ℕ × Fate)) (table now next : List (Option Fate)) (xs : List X) (i : ℕ) (d x : X) → i < length xs → get_or xs i d ≡ x → now ≡ filled table (flat_map f (take i xs)) → next ≡ filled now (f x) → next ≡ filled table (flat_map f (take (i + 1) xs))
filled_next f table now next xs i d x less is so_far step =
    step ∙ ap (λ t. filled t (f x)) so_far ∙ sym (filled_more table (flat_map f (take i xs)) (f x))
    ∙ ap (λ ys. filled table (flat_map f (take i xs) ++ ys)) (sym (append-nil (f x)))
    ∙ ap (filled table) (sym (flat_map-append f (take i xs) (x ∷ [])))
    ∙ ap (λ y. filled table (flat_map f (take i xs ++ y ∷ []))) (sym is)
    ∙ ap (λ ys. filled table (flat_map f ys)) (sym (take_more xs i d less))

-- a table that is filled by the calls, the taken blocks and the panic list of a ledger
pub filled_all : (s : ℕ) (kept : Kept) (table first second third : List (Option Fate)) (calls : List Call) (taken : List Taken) (panic : List PanicEntry) → calls ≡ kept.calls → taken ≡ kept.taken → panic ≡ kept.panic → first ≡ filled table (flat_map (numbered_call s) calls) → second ≡ filled first (flat_map (numbered_taken s) taken) → third ≡ filled second (flat_map (numbered_panic s) panic) → third ≡ filled table (numbered_fates s kept)
filled_all s kept table first second third calls taken panic of_calls of_taken of_panic one two three =
    let a = flat_map (numbered_call s) kept.calls in
    let b = flat_map (numbered_taken s) kept.taken in
    let d = flat_map (numbered_panic s) kept.panic in
    three ∙ ap (λ xs. filled second (flat_map (numbered_panic s) xs)) of_panic
    ∙ ap (λ t. filled t d) (two ∙ ap (λ xs. filled first (flat_map (numbered_taken s) xs)) of_taken)
    ∙ ap (λ t. filled (filled t b) d) (one ∙ ap (λ xs. filled table (flat_map (numbered_call s) xs)) of_calls)
    ∙ sym (filled_more (filled table a) b d) ∙ sym (filled_more table a (b ++ d))

-- the fates of a table with one more place
pub found_next : (fates : List Fate) (table : List (Option Fate)) (i : ℕ) (fate : Option Fate) → i < length table → get_or table i None ≡ fate → fates ≡ filter_map (λ x. x) (take i table) → fates ++ filter_map (λ x. x) (fate ∷ []) ≡ filter_map (λ x. x) (take (i + 1) table)
found_next fates table i fate less is so_far =
    ap (λ xs. xs ++ filter_map (λ x. x) (fate ∷ [])) so_far ∙ sym (filter_map-append (λ x. x) (take i table) (fate ∷ []))
    ∙ ap (λ y. filter_map (λ x. x) (take i table ++ y ∷ [])) (sym is) ∙ ap (filter_map (λ x. x)) (sym (take_more table i None less))

-- the fates of one number
abbrev picked : ℕ → List (ℕ × Fate) → List Fate
picked n xs = flat_map (λ x. cond (eqb x.0 n) (x.1 ∷ []) []) xs

-- A source's numbered fates have of each number the fates of that block.
picked_duplicate : (n : ℕ) (outcome : Outcome) → picked n (numbered_duplicate outcome) ≡ duplicate_fate n outcome
picked_duplicate n (Duplicate number report) = append_none (eqb number n) _ where
  append_none : (b : Bool) (fate : Fate) → cond b (fate ∷ []) [] ++ [] ≡ cond b (fate ∷ []) []
  append_none true fate = refl
  append_none false fate = refl
picked_duplicate n Nothing = refl
picked_duplicate n (Queued number) = refl
picked_duplicate n (Malformed number reason) = refl
picked_duplicate n (Fatal number) = refl
picked_duplicate n NoSlot = refl
picked_duplicate n Fault = refl
picked_duplicate n Stopped = refl

picked_if : (b : Bool) (n : ℕ) (xs : List (ℕ × Fate)) → picked n (cond b xs []) ≡ cond b (picked n xs) []
picked_if true n xs = refl
picked_if false n xs = refl

picked_calls : (s n : ℕ) (calls : List Call) → picked n (flat_map (numbered_call s) calls) ≡ flat_map (call_fate s n) calls
picked_calls s n [] = refl
picked_calls s n (call ∷ calls) =
    flat_map-append _ (numbered_call s call) (flat_map (numbered_call s) calls)
    ∙ ap (λ xs. xs ++ picked n (flat_map (numbered_call s) calls)) (picked_if (eqb call.source s) n (numbered_duplicate call.reply.outcome) ∙ ap (λ xs. cond (eqb call.source s) xs []) (picked_duplicate n call.reply.outcome))
    ∙ ap (λ xs. call_fate s n call ++ xs) (picked_calls s n calls)

picked_one : (b : Bool) (n number : ℕ) (fate : Fate) → picked n (cond b ((number, fate) ∷ []) []) ≡ cond (b && eqb number n) (fate ∷ []) []
picked_one true n number fate = append_none (eqb number n) fate where
  append_none : (b : Bool) (fate : Fate) → cond b (fate ∷ []) [] ++ [] ≡ cond b (fate ∷ []) []
  append_none true fate = refl
  append_none false fate = refl
picked_one false n number fate = refl

picked_entry : (s n : ℕ) (entry : Taken) → picked n (numbered_taken s entry) ≡ taken_fate s n entry
picked_entry s n (Delivered source seq bytes reported) = picked_one (eqb source s) n seq _
picked_entry s n (Dropped source seq bytes reason) = picked_one (eqb source s) n seq _

picked_taken : (s n : ℕ) (taken : List Taken) → picked n (flat_map (numbered_taken s) taken) ≡ flat_map (taken_fate s n) taken
picked_taken s n [] = refl
picked_taken s n (entry ∷ taken) =
    flat_map-append _ (numbered_taken s entry) (flat_map (numbered_taken s) taken)
    ∙ ap (λ xs. xs ++ picked n (flat_map (numbered_taken s) taken)) (picked_entry s n entry) ∙ ap (λ xs. taken_fate s n entry ++ xs) (picked_taken s n taken)

picked_panic : (s n : ℕ) (panic : List PanicEntry) → picked n (flat_map (numbered_panic s) panic) ≡ flat_map (panic_fate s n) panic
picked_panic s n [] = refl
picked_panic s n (entry ∷ panic) =
    flat_map-append _ (numbered_panic s entry) (flat_map (numbered_panic s) panic)
    ∙ ap (λ xs. xs ++ picked n (flat_map (numbered_panic s) panic)) (picked_one (eqb entry.source s) n entry.seq _) ∙ ap (λ xs. panic_fate s n entry ++ xs) (picked_panic s n panic)

picked_fates : (s n : ℕ) (kept : Kept) → picked n (numbered_fates s kept) ≡ fates_of s n kept
picked_fates s n kept =
    flat_map-append _ (flat_map (numbered_call s) kept.calls) (flat_map (numbered_taken s) kept.taken ++ flat_map (numbered_panic s) kept.panic)
    ∙ ap (λ xs. xs ++ picked n (flat_map (numbered_taken s) kept.taken ++ flat_map (numbered_panic s) kept.panic)) (picked_calls s n kept.calls)
    ∙ ap (λ xs. flat_map (call_fate s n) kept.calls ++ xs)
    (flat_map-append _ (flat_map (numbered_taken s) kept.taken) (flat_map (numbered_panic s) kept.panic)
    ∙ ap (λ xs. xs ++ picked n (flat_map (numbered_panic s) kept.panic)) (picked_taken s n kept.taken) ∙ ap (λ xs. flat_map (taken_fate s n) kept.taken ++ xs) (picked_panic s n kept.panic))

-- the last of these fates, or else this
last_or : Option Fate → List Fate → Option Fate
last_or fate [] = fate
last_or fate (x ∷ xs) = last_or (Some x) xs

-- two functions that agree on each number of a range
map_alike : {X : Type 0} (f g : ℕ → X) (a len : ℕ) → ((n : ℕ) → f n ≡ g n) → map f (range_with_len a len) ≡ map g (range_with_len a len)
map_alike f g a zero same = refl
map_alike f g a (suc len) same = ap (λ x. x ∷ map f (range_with_len (a + 1) len)) (same a) ∙ ap (λ xs. g a ∷ xs) (map_alike f g (a + 1) len same)

-- a number below a range is none of it
map_above : {X : Type 0} (f : ℕ → X) (y : X) (n a len : ℕ) → n < a → map (λ m. cond (eqb n m) y (f m)) (range_with_len a len) ≡ map f (range_with_len a len)
map_above f y n a zero less = refl
map_above f y n a (suc len) less =
    ap (λ b. cond b y (f a) ∷ map (λ m. cond (eqb n m) y (f m)) (range_with_len (a + 1) len)) (ne_eqb n a (λ e. omega (arith, e, less)))
    ∙ ap (λ xs. f a ∷ xs) (map_above f y n (a + 1) len (omega (arith, less)))

-- one place of a table by numbers is set
set_in_range : {X : Type 0} (f : ℕ → X) (y : X) (k a len : ℕ) → set (map f (range_with_len a len)) k y ≡ map (λ m. cond (eqb (a + k) m) y (f m)) (range_with_len a len)
set_in_range f y k a zero = refl
set_in_range f y zero a (suc len) =
    let same : a + 0 ≡ a = omega arith in
    ap (λ xs. y ∷ xs) (sym (map_above f y a (a + 1) len (omega arith)) ∙ ap (λ n. map (λ m. cond (eqb n m) y (f m)) (range_with_len (a + 1) len)) (sym same))
    ∙ ap (λ b. cond b y (f a) ∷ map (λ m. cond (eqb (a + 0) m) y (f m)) (range_with_len (a + 1) len)) (sym (eq-eqb (a + 0) a same))
set_in_range f y (suc k) a (suc len) =
    let later : a + 1 + k ≡ a + suc k = omega arith in
    ap (λ xs. f a ∷ xs) (set_in_range f y k (a + 1) len ∙ ap (λ n. map (λ m. cond (eqb n m) y (f m)) (range_with_len (a + 1) len)) later)
    ∙ ap (λ b. cond b y (f a) ∷ map (λ m. cond (eqb (a + suc k) m) y (f m)) (range_with_len (a + 1) len)) (sym (ne_eqb (a + suc k) a (λ e. omega (arith, e))))

-- one more fate
last_picked : (b : Bool) (old : Option Fate) (fate : Fate) (more : List Fate) → last_or (cond b (Some fate) old) more ≡ last_or old (cond b (fate ∷ []) [] ++ more)
unfolding last_or
last_picked true old fate more = refl
last_picked false old fate more = refl

filled_is : (g : ℕ → Option Fate) (len : ℕ) (xs : List (ℕ × Fate)) → filled (map g (range_with_len 0 len)) xs ≡ map (λ n. last_or (g n) (picked n xs)) (range_with_len 0 len)
unfolding last_or
filled_is g len [] = refl
filled_is g len (x ∷ xs) =
    let first : put (map g (range_with_len 0 len)) x ≡ map (λ m. cond (eqb x.0 m) (Some x.1) (g m)) (range_with_len 0 len) =
    set_in_range g (Some x.1) x.0 0 len ∙ ap (λ n. map (λ m. cond (eqb n m) (Some x.1) (g m)) (range_with_len 0 len)) (zero-add x.0) in
    ap (λ table. filled table xs) first ∙ filled_is (λ m. cond (eqb x.0 m) (Some x.1) (g m)) len xs
    ∙ map_alike (λ n. last_or (cond (eqb x.0 n) (Some x.1) (g n)) (picked n xs)) (λ n. last_or (g n) (picked n (x ∷ xs))) 0 len (λ n. last_picked (eqb x.0 n) (g n) x.1 (picked n xs))

abbrev no_fate : Option Fate
no_fate = None

empty_table : (a len : ℕ) → replicate len no_fate ≡ map (λ n. no_fate) (range_with_len a len)
empty_table a zero = refl
empty_table a (suc len) = ap (λ xs. no_fate ∷ xs) (empty_table (a + 1) len)

-- one fate is the last one
one_fate : (fates : List Fate) (rest : List Fate) (others : List (List Fate)) → length fates ≡ 1 → others ≡ map (λ fate. fate ∷ []) rest → fates ∷ others ≡ map (λ fate. fate ∷ []) (filter_map (λ fate. fate) (last_or None fates ∷ []) ++ rest)
unfolding last_or
one_fate [] rest others one same = absurd (omega (arith, one))
one_fate (fate ∷ []) rest others one same = ap (λ xs. (fate ∷ []) ∷ xs) same
one_fate (fate ∷ other ∷ fates) rest others one same = absurd (omega (arith, one))

first_of_table : (fate : Option Fate) (fates : List (Option Fate)) → filter_map (λ x. x) (fate ∷ fates) ≡ filter_map (λ x. x) (fate ∷ []) ++ filter_map (λ x. x) fates
first_of_table None fates = refl
first_of_table (Some fate) fates = refl

all_of_table : (f : ℕ → List Fate) (a len : ℕ) → ((k : ℕ) → k < len → length (f (a + k)) ≡ 1) → map f (range_with_len a len) ≡ map (λ fate. fate ∷ []) (filter_map (λ fate. fate) (map (λ n. last_or None (f n)) (range_with_len a len)))
all_of_table f a zero one = refl
all_of_table f a (suc len) one =
    let here : length (f a) ≡ 1 = ap (λ n. length (f n)) (omega arith) ∙ one 0 (omega arith) in
    let later : (k : ℕ) → k < len → length (f (a + 1 + k)) ≡ 1 = λ k less. ap (λ n. length (f n)) (omega arith) ∙ one (k + 1) (omega (arith, less)) in
    one_fate (f a) _ (map f (range_with_len (a + 1) len)) here (all_of_table f (a + 1) len later)
    ∙ ap (map (λ fate. fate ∷ [])) (sym (first_of_table (last_or None (f a)) (map (λ n. last_or None (f n)) (range_with_len (a + 1) len))))

none_at_zero : (fates : List Fate) → fates ≡ [] → last_or None fates ≡ None
unfolding last_or
none_at_zero [] e = refl
none_at_zero (x ∷ xs) e = let never : x ∷ xs ≡ [] = e in absurd cc

-- in a ledger with one fate for each block of a source, the table has them in order
are_fates : (s : ℕ) (kept : Kept) → HasOneFateEach s kept → AreFatesOf s kept (settled s kept)
are_fates s kept has =
    let count = acknowledged s kept.calls in
    let f : ℕ → List Fate = λ n. fates_of s n kept in
    let table : filled (replicate (count + 1) None) (numbered_fates s kept) ≡ map (λ n. last_or None (f n)) (range_with_len 0 (count + 1)) =
    ap (λ t. filled t (numbered_fates s kept)) (empty_table 0 (count + 1)) ∙ filled_is (λ n. None) (count + 1) (numbered_fates s kept)
    ∙ map_alike (λ n. last_or None (picked n (numbered_fates s kept))) (λ n. last_or None (f n)) 0 (count + 1) (λ n. ap (last_or None) (picked_fates s n kept)) in
    let more : count + 1 ≡ suc count = omega arith in
    let split : map (λ n. last_or None (f n)) (range_with_len 0 (count + 1)) ≡ last_or None (f 0) ∷ map (λ n. last_or None (f n)) (range_with_len 1 count) = ap (λ len. map (λ n. last_or None (f n)) (range_with_len 0 len)) more in
    let zeroth : last_or None (f 0) ≡ None = none_at_zero (f 0) has.not_zero in
    all_of_table f 1 count (λ k less. ap (λ n. length (f n)) (omega arith) ∙ has.one k less)
    ∙ ap (map (λ fate. fate ∷ [])) (ap (filter_map (λ fate. fate)) (sym (table ∙ split ∙ ap (λ x. x ∷ map (λ n. last_or None (f n)) (range_with_len 1 count)) zeroth)))

-- the calls that acknowledged a block of a source are as many as the numbers of those blocks
acknowledged_once : (outcome : Outcome) → length (number_of outcome) ≡ cond (acknowledges outcome) 1 0
acknowledged_once Nothing = refl
acknowledged_once (Queued number) = refl
acknowledged_once (Malformed number reason) = refl
acknowledged_once (Duplicate number report) = refl
acknowledged_once (Fatal number) = refl
acknowledged_once NoSlot = refl
acknowledged_once Fault = refl
acknowledged_once Stopped = refl

count_of : (s : ℕ) (call : Call) → length (number_by s call) ≡ cond (is_acknowledged s call) 1 0
count_of s call = count_if (eqb call.source s) call where
  count_if : (b : Bool) (call : Call) → length (cond b (number_of call.reply.outcome) []) ≡ cond (b && acknowledges call.reply.outcome) 1 0
  count_if true call = acknowledged_once call.reply.outcome
  count_if false call = refl

count_more : (b : Bool) (call : Call) (calls : List Call) → cond b 1 0 + length calls ≡ length (cond b (call ∷ calls) calls)
count_more true call calls = omega arith
count_more false call calls = zero-add (length calls)

acknowledged_filtered : (s : ℕ) (calls : List Call) → acknowledged s calls ≡ length (filter (is_acknowledged s) calls)
acknowledged_filtered s [] = refl
acknowledged_filtered s (call ∷ calls) =
    length-append (number_by s call) (numbers_of s calls) ∙ ap (λ n. n + acknowledged s calls) (count_of s call) ∙ ap (λ n. cond (is_acknowledged s call) 1 0 + n) (acknowledged_filtered s calls)
    ∙ count_more (is_acknowledged s call) call (filter (is_acknowledged s) calls)

pub acknowledged_is_count : (s : ℕ) (calls : List Call) → acknowledged s calls ≡ count_by (is_acknowledged s) calls
acknowledged_is_count s calls = acknowledged_filtered s calls ∙ length-filter (is_acknowledged s) calls

-- what is answered
pub settled_are_fates : (s : ℕ) (kept : Kept) (fates : List Fate) → fates ≡ settled s kept → HasOneFateEach s kept → AreFatesOf s kept fates
settled_are_fates s kept fates is has = subst (λ (xs : List Fate). AreFatesOf s kept xs) (sym is) (are_fates s kept has)
