-- What each form of a line asks for is allowed.
use Rattle.std.proofs.Common.{◌≡◌, ◌≢◌, ◌<◌, ◌≤◌, ◌+◌, ◌^◌, ℕ, Bool, true, false, cond, not, ◌&&◌, eqb, ltb, leb, bytes_eq, codes, List, [], ◌∷◌, length, drop, Option, Some, None, Result, Ok, Err, IfOk, IfSome, suc, refl, sym, ap, ◌∙◌, arith}
use Rattle.std.specs.Prelude.{slice_get}
use Rattle.std.specs.List.{list_all}
use Rattle.std.specs.Char.{is_digit}
use Rattle.std.specs.Str.Parse.{digits_value}
use Rattle.std.proofs.lemmas.Bool.{eqb-false, ltb-true, leb-true}
use Rattle.byteorder.specs.Endian.{little_number}
use Rattle.hex.specs.Hex.{decode_of}
use Rattle.apei_einj.specs.Request.{is_error_type}
use Rattle.apei_einj.specs.declared.request.Place.{Place}
use Rattle.apei_einj.specs.declared.request.Place.TheVariants as places
use Rattle.ghes_script.specs.Asked.{slots, contexts, serve, ackcell, available, busy, status, route, clock, or_hex, is_block, block_of, raised, raise, nmi, work, run, peek, fail, place_form, memory_place, processor_place, pcie_place, place_of, table_form, error_of, injection_by, injection, inject, asked_by, asked}
use Rattle.ghes_script.specs.Name.{class_of, name_of}
use Rattle.ghes_script.specs.Number.{numeral, is_marked, number_of, or_kind, ◌>>=◌, number, number_within, number_below}
use Rattle.ghes_script.specs.Setup.{Setup, found_from, found_of, named, source_of, acked_source_of}
use Rattle.ghes_script.specs.Sound.{IsSource, IsAcked, IsRaised, FitsPlace, IsAllowed}
use Rattle.ghes_script.specs.Words.{none_of, one_of, two_of}
use Rattle.ghes_script.specs.declared.error.ScriptKind.{ScriptKind}
use Rattle.ghes_script.specs.declared.error.ScriptKind.TheVariants.{Command, Number, Range, NoInjection, Words, Source}
use Rattle.ghes_script.specs.declared.line.What.{What}
use Rattle.ghes_script.specs.declared.line.What.TheVariants as asks
use Rattle.ghes_script.specs.declared.name.Name.{Name}
use Rattle.ghes_script.specs.declared.name.Name.TheVariants as names
use Rattle.ghes_script.specs.declared.setup.Found.{Found}
use Rattle.ghes_script.specs.declared.setup.SourceName.{SourceName}
use Rattle.ghes_script.specs.declared.sofar.Sofar.{Sofar}

-- what holds of a value and is led on by the next step holds of its value
bound : {A B : Type 0} (r : Result A ScriptKind) (f : A → Result B ScriptKind) (Q : A → Type 0) (P : B → Type 0) → IfOk r Q → ((x : A) → Q x → IfOk (f x) P) → IfOk (r >>= f) P
bound (Ok x) f Q P holds next = next x holds
bound (Err kind) f Q P holds next = tt

-- a step of which nothing is known
along : {A B : Type 0} (r : Result A ScriptKind) (f : A → Result B ScriptKind) (P : B → Type 0) → ((x : A) → IfOk (f x) P) → IfOk (r >>= f) P
along (Ok x) f P next = next x
along (Err kind) f P next = tt

-- a value that passes a test
tested : {A : Type 0} (b : Bool) (x : A) (kind : ScriptKind) (P : A → Type 0) → (b ≡ true → P x) → IfOk (cond b (Ok x) (Err kind)) P
tested true x kind P holds = holds refl
tested false x kind P holds = tt

both : (x y : Bool) → (x && y) ≡ true → (x ≡ true) × (y ≡ true)
both true true e = (refl, refl)
both true false e = (refl, e)
both false true e = (e, refl)
both false false e = (e, e)

-- a numeral is below 2^64
IfNumber : Option ℕ → Type 0
IfNumber None = Unit {0}
IfNumber (Some n) = n < 2 ^ 64

numeral_fits : (base : ℕ) (digits : List ℕ) → IfNumber (numeral base digits)
unfolding numeral IfNumber
numeral_fits base digits = by_test (ltb 0 (length digits)) (list_all (λ c. is_digit c base) digits) (ltb (digits_value base digits) (2 ^ 64)) refl where
  by_test : (x y z : Bool) → ltb (digits_value base digits) (2 ^ 64) ≡ z → IfNumber (cond (x && (y && z)) (Some (digits_value base digits)) None)
  by_test true true true e = ltb-true (digits_value base digits) (2 ^ 64) e
  by_test true true false e = tt
  by_test true false z e = tt
  by_test false y z e = tt

number_of_fits : (word : List ℕ) → IfNumber (number_of word)
unfolding number_of IfNumber
number_of_fits word = by_test (is_marked word) (leb (length word) 18) where
  by_test : (x y : Bool) → IfNumber (cond x (cond y (numeral 16 (drop 2 word)) None) (numeral 10 word))
  by_test true true = numeral_fits 16 (drop 2 word)
  by_test true false = tt
  by_test false y = numeral_fits 10 word

number_fits : (word : List ℕ) → IfOk (number word) (λ n. n < 2 ^ 64)
unfolding IfNumber
number_fits word = by_number (number_of word) (number_of_fits word) where
  by_number : (o : Option ℕ) → IfNumber o → IfOk (or_kind Number o) (λ n. n < 2 ^ 64)
  by_number None fits = tt
  by_number (Some n) fits = fits

within_fits : (low high : ℕ) (word : List ℕ) → IfOk (number_within low high word) (λ n. (low ≤ n) × (n ≤ high))
unfolding number_within
within_fits low high word = along (number word) (λ n. cond (leb low n && leb n high) (Ok n) (Err Range)) (λ n. (low ≤ n) × (n ≤ high)) (λ n.
    tested (leb low n && leb n high) n Range (λ n. (low ≤ n) × (n ≤ high)) (λ e. let parts = both (leb low n) (leb n high) e in (leb-true low n parts.0, leb-true n high parts.1)))

below_fits : (limit : ℕ) (word : List ℕ) → IfOk (number_below limit word) (λ n. n < limit)
unfolding number_below
below_fits limit word = along (number word) (λ n. cond (ltb n limit) (Ok n) (Err Range)) (λ n. n < limit) (λ n.
    tested (ltb n limit) n Range (λ n. n < limit) (λ e. ltb-true n limit e))

-- a source that is found lies among the names, and has what its name has
pub record IsFound (at : ℕ) (names : List SourceName) (found : Found) : Type 0 where
  pub place : ℕ
  pub below : place < length names
  pub is : found.at ≡ at + place
  pub name : SourceName
  pub there : slice_get names place ≡ Some name
  pub v2 : name.v2 ≡ found.v2

-- a source that is found
abbrev placed : ℕ → Bool → Found
placed at v2 = record { at = at; v2 = v2 }

found_is : (at id : ℕ) (names : List SourceName) → IfSome (found_from at names id) (IsFound at names)
found_is at id [] = tt
found_is at id (first ∷ names) = by_test (eqb first.id id) (found_is (at + 1) id names) where
  shifted : (o : Option Found) → IfSome o (IsFound (at + 1) names) → IfSome o (IsFound at (first ∷ names))
  shifted None is = tt
  shifted (Some found) is = record { place = suc is.place; below = omega arith; is = omega arith; name = is.name; there = is.there; v2 = is.v2 }

  by_test : (b : Bool) → IfSome (found_from (at + 1) names id) (IsFound (at + 1) names) → IfSome (cond b (Some (placed at first.v2)) (found_from (at + 1) names id)) (IsFound at (first ∷ names))
  by_test true more = record { place = 0; below = omega arith; is = omega arith; name = first; there = refl; v2 = refl }
  by_test false more = shifted (found_from (at + 1) names id) more

named_is : (setup : Setup) (word : List ℕ) → IfOk (named setup word) (IsFound 0 setup.names)
unfolding named
named_is setup word = along (number word) (λ id. or_kind Source (found_of setup.names id)) (IsFound 0 setup.names) (λ id. by_found (found_of setup.names id) (found_is 0 id setup.names)) where
  by_found : (o : Option Found) → IfSome o (IsFound 0 setup.names) → IfOk (or_kind Source o) (IsFound 0 setup.names)
  by_found None is = tt
  by_found (Some found) is = is

source_is : (setup : Setup) (word : List ℕ) → IfOk (source_of setup word) (IsSource setup)
unfolding source_of
source_is setup word = bound (named setup word) (λ found. Ok found.at) (IsFound 0 setup.names) (IsSource setup) (named_is setup word) (λ found is.
    let below : is.place < length setup.names = is.below in
    let same : found.at ≡ 0 + is.place = is.is in
    omega arith)

acked_is : (setup : Setup) (word : List ℕ) → IfOk (acked_source_of setup word) (IsAcked setup)
unfolding acked_source_of
acked_is setup word = bound (named setup word) (λ found. cond found.v2 (Ok found.at) (Err Source)) (IsFound 0 setup.names) (IsAcked setup) (named_is setup word) (λ found is.
    tested found.v2 found.at Source (IsAcked setup) (λ v2.
    let same : is.place ≡ found.at = omega (arith, is.is) in
    record { name = is.name; there = ap (slice_get setup.names) (sym same) ∙ is.there; v2 = is.v2 ∙ v2 }))

-- a line of one number
one_number : (read : List ℕ → Result ℕ ScriptKind) (make : ℕ → What) (Q : ℕ → Type 0) (P : What → Type 0) (args : List (List ℕ)) → ((word : List ℕ) → IfOk (read word) Q) → ((n : ℕ) → Q n → P (make n)) → IfOk (one_of args >>= λ word. read word >>= λ n. Ok (make n)) P
one_number read make Q P args reads makes = along (one_of args) (λ word. read word >>= λ n. Ok (make n)) P (λ word. bound (read word) (λ n. Ok (make n)) Q P (reads word) makes)

-- a line of a source and a number
two_numbers : (first second : List ℕ → Result ℕ ScriptKind) (make : ℕ → ℕ → What) (Q R : ℕ → Type 0) (P : What → Type 0) (args : List (List ℕ)) → ((word : List ℕ) → IfOk (first word) Q) → ((word : List ℕ) → IfOk (second word) R) → ((m n : ℕ) → Q m → R n → P (make m n)) → IfOk (two_of args >>= λ words. first words.0 >>= λ m. second words.1 >>= λ n. Ok (make m n)) P
two_numbers first second make Q R P args firsts seconds makes =
    along (two_of args) (λ words. first words.0 >>= λ m. second words.1 >>= λ n. Ok (make m n)) P (λ words.
    bound (first words.0) (λ m. second words.1 >>= λ n. Ok (make m n)) Q P (firsts words.0) (λ m q.
    bound (second words.1) (λ n. Ok (make m n)) R P (seconds words.1) (λ n r. makes m n q r)))

block_is : (word : List ℕ) → IfOk (block_of word) IsRaised
unfolding block_of
block_is word = along (or_hex (decode_of word)) (λ block. cond (is_block block) (Ok block) (Err Range)) IsRaised (λ block.
    tested (is_block block) block Range IsRaised (λ e.
    let least = both (leb 20 (length block)) (leb (length block) 65536 && not (eqb (little_number 4 block) 0)) e in
    let most = both (leb (length block) 65536) (not (eqb (little_number 4 block) 0)) least.1 in
    record {
      least = leb-true 20 (length block) least.0;
      most = leb-true (length block) 65536 most.0;
      status = eqb-false (little_number 4 block) 0 (negated (eqb (little_number 4 block) 0) most.1);
    })) where
      negated : (b : Bool) → not b ≡ true → b ≡ false
      negated true e = sym e
      negated false e = refl

raised_is : (setup : Setup) (args : List (List ℕ)) → IfOk (raised setup args) (λ found. IsSource setup found.0)
unfolding raised
raised_is setup args = along (two_of args) (λ words. source_of setup words.0 >>= λ source. Ok (source, words.1)) (λ found. IsSource setup found.0) (λ words.
    bound (source_of setup words.0) (λ source. Ok (source, words.1)) (IsSource setup) (λ found. IsSource setup found.0) (source_is setup words.0) (λ source is. is))

raise_is : (setup : Setup) (sofar : Sofar) (args : List (List ℕ)) → IfOk (raise setup args) (IsAllowed setup sofar)
unfolding raise
raise_is setup sofar args = bound (raised setup args) (λ found. block_of found.1 >>= λ block. Ok (asks.Raise found.0 block)) (λ found. IsSource setup found.0) (IsAllowed setup sofar) (raised_is setup args) (λ found is.
    bound (block_of found.1) (λ block. Ok (asks.Raise found.0 block)) IsRaised (IsAllowed setup sofar) (block_is found.1) (λ block raised. (is, raised)))

route_is : (setup : Setup) (sofar : Sofar) (args : List (List ℕ)) → IfOk (route setup args) (IsAllowed setup sofar)
unfolding route
route_is setup sofar args = along (two_of args) (λ words. or_kind Range (class_of words.0) >>= λ class. source_of setup words.1 >>= λ source. Ok (asks.Route class source)) (IsAllowed setup sofar) (λ words.
    along (or_kind Range (class_of words.0)) (λ class. source_of setup words.1 >>= λ source. Ok (asks.Route class source)) (IsAllowed setup sofar) (λ class.
    bound (source_of setup words.1) (λ source. Ok (asks.Route class source)) (IsSource setup) (IsAllowed setup sofar) (source_is setup words.1) (λ source is. is)))

memory_is : (args : List (List ℕ)) → IfOk (memory_place args) FitsPlace
unfolding memory_place
memory_is args = along (two_of args) (λ words. number words.0 >>= λ address. number words.1 >>= λ mask. Ok (places.Memory address mask)) FitsPlace (λ words.
    bound (number words.0) (λ address. number words.1 >>= λ mask. Ok (places.Memory address mask)) (λ n. n < 2 ^ 64) FitsPlace (number_fits words.0) (λ address fits.
    bound (number words.1) (λ mask. Ok (places.Memory address mask)) (λ n. n < 2 ^ 64) FitsPlace (number_fits words.1) (λ mask fits'. (fits, fits'))))

processor_is : (args : List (List ℕ)) → IfOk (processor_place args) FitsPlace
unfolding processor_place
processor_is args = along (one_of args) (λ word. number_below (2 ^ 32) word >>= λ id. Ok (places.Processor id)) FitsPlace (λ word.
    bound (number_below (2 ^ 32) word) (λ id. Ok (places.Processor id)) (λ n. n < 2 ^ 32) FitsPlace (below_fits (2 ^ 32) word) (λ id fits. fits))

pcie_is : (args : List (List ℕ)) → IfOk (pcie_place args) FitsPlace
unfolding pcie_place
pcie_is args = along (one_of args) (λ word. number_below (2 ^ 32) word >>= λ function. Ok (places.Pcie function)) FitsPlace (λ word.
    bound (number_below (2 ^ 32) word) (λ function. Ok (places.Pcie function)) (λ n. n < 2 ^ 32) FitsPlace (below_fits (2 ^ 32) word) (λ function fits. fits))

place_is : (args : List (List ℕ)) → IfOk (place_of args) FitsPlace
unfolding place_of
place_is [] = tt
place_is (name ∷ args) = by_test (bytes_eq name (codes "memory")) (bytes_eq name (codes "processor")) (bytes_eq name (codes "pcie")) where
  by_test : (x y z : Bool) → IfOk (cond x (memory_place args) (cond y (processor_place args) (cond z (pcie_place args) (Err Words)))) FitsPlace
  by_test true y z = memory_is args
  by_test false true z = processor_is args
  by_test false false true = pcie_is args
  by_test false false false = tt

table_is : (setup : Setup) → IfOk (table_form setup) (λ form. setup.injection ≡ true)
table_is setup = tested setup.injection tt NoInjection (λ form. setup.injection ≡ true) (λ e. e)

error_is : (setup : Setup) (word : List ℕ) → IfOk (error_of setup word) (λ error. 0 < length setup.names)
unfolding error_of
error_is setup word = along (number word) (λ error. cond (eqb (length setup.names) 0) (Err Source) (cond (is_error_type error) (Ok error) (Err Range))) (λ error. 0 < length setup.names) (λ error. by_test error (eqb (length setup.names) 0) refl) where
  by_test : (error : ℕ) (b : Bool) → eqb (length setup.names) 0 ≡ b → IfOk (cond b (Err Source) (cond (is_error_type error) (Ok error) (Err Range))) (λ error. 0 < length setup.names)
  by_test error true e = tt
  by_test error false e = let some : length setup.names ≢ 0 = eqb-false (length setup.names) 0 e in tested (is_error_type error) error Range (λ error. 0 < length setup.names) (λ type. omega arith)

injection_is : (setup : Setup) (sofar : Sofar) (error : ℕ) (place : Place) → setup.injection ≡ true → 0 < length setup.names → FitsPlace place → IfOk (injection error place) (IsAllowed setup sofar)
unfolding injection
injection_is setup sofar error place table some fits = by_test (is_error_type error) refl where
  by_test : (b : Bool) (e : is_error_type error ≡ b) → IfOk (injection_by error place b e) (IsAllowed setup sofar)
  by_test true e = (table, some, fits)
  by_test false e = tt

inject_is : (setup : Setup) (sofar : Sofar) (args : List (List ℕ)) → IfOk (inject setup args) (IsAllowed setup sofar)
unfolding inject
inject_is setup sofar [] = tt
inject_is setup sofar (word ∷ rest) =
    along (place_form rest) (λ form. table_form setup >>= λ table. error_of setup word >>= λ error. place_of rest >>= λ place. injection error place) (IsAllowed setup sofar) (λ form.
    bound (table_form setup) (λ table. error_of setup word >>= λ error. place_of rest >>= λ place. injection error place) (λ form. setup.injection ≡ true) (IsAllowed setup sofar) (table_is setup) (λ table has.
    bound (error_of setup word) (λ error. place_of rest >>= λ place. injection error place) (λ error. 0 < length setup.names) (IsAllowed setup sofar) (error_is setup word) (λ error some.
    bound (place_of rest) (λ place. injection error place) FitsPlace (IsAllowed setup sofar) (place_is rest) (λ place fits. injection_is setup sofar error place has some fits))))

-- each form
asked_by_is : (setup : Setup) (sofar : Sofar) (name : Name) (args : List (List ℕ)) → IfOk (asked_by setup sofar name args) (IsAllowed setup sofar)
unfolding asked_by slots contexts serve ackcell available busy status clock nmi work run peek fail
asked_by_is setup sofar names.Slots args = one_number (number_within 1 64) asks.Slots (λ n. (1 ≤ n) × (n ≤ 64)) (IsAllowed setup sofar) args (within_fits 1 64) (λ n q. q)
asked_by_is setup sofar names.Contexts args = one_number (number_within 1 16) asks.Contexts (λ n. (1 ≤ n) × (n ≤ 16)) (IsAllowed setup sofar) args (within_fits 1 16) (λ n q. q)
asked_by_is setup sofar names.Serve args = two_numbers (source_of setup) (number_below sofar.contexts) asks.Serve (IsSource setup) (λ n. n < sofar.contexts) (IsAllowed setup sofar) args (source_is setup) (below_fits sofar.contexts) (λ m n q r. (q, r))
asked_by_is setup sofar names.AckCell args = two_numbers (acked_source_of setup) number asks.AckCell (IsAcked setup) (λ n. n < 2 ^ 64) (IsAllowed setup sofar) args (acked_is setup) number_fits (λ m n q r. (q, r))
asked_by_is setup sofar names.Available args = one_number (number_below (2 ^ 32)) asks.Available (λ n. n < 2 ^ 32) (IsAllowed setup sofar) args (below_fits (2 ^ 32)) (λ n q. q)
asked_by_is setup sofar names.Busy args = one_number (number_within 0 2000) asks.Busy (λ n. (0 ≤ n) × (n ≤ 2000)) (IsAllowed setup sofar) args (within_fits 0 2000) (λ n q. q.1)
asked_by_is setup sofar names.Status args = one_number (number_within 0 255) asks.Status (λ n. (0 ≤ n) × (n ≤ 255)) (IsAllowed setup sofar) args (within_fits 0 255) (λ n q. q.1)
asked_by_is setup sofar names.Route args = route_is setup sofar args
asked_by_is setup sofar names.Clock args = one_number number asks.Clock (λ n. n < 2 ^ 64) (IsAllowed setup sofar) args number_fits (λ n q. q)
asked_by_is setup sofar names.Raise args = raise_is setup sofar args
asked_by_is setup sofar names.Inject args = inject_is setup sofar args
asked_by_is setup sofar names.Nmi args = one_number (source_of setup) asks.Nmi (IsSource setup) (IsAllowed setup sofar) args (source_is setup) (λ n q. q)
asked_by_is setup sofar names.Work args = along (none_of args) (λ nothing. Ok asks.Work) (IsAllowed setup sofar) (λ nothing. tt)
asked_by_is setup sofar names.Run args = one_number (number_within 1 1000) asks.Run (λ n. (1 ≤ n) × (n ≤ 1000)) (IsAllowed setup sofar) args (within_fits 1 1000) (λ n q. q)
asked_by_is setup sofar names.Peek args = one_number (acked_source_of setup) asks.Peek (IsAcked setup) (IsAllowed setup sofar) args (acked_is setup) (λ n q. q)
asked_by_is setup sofar names.Fail args = two_numbers (source_of setup) (number_within 1 16) asks.Fail (IsSource setup) (λ n. (1 ≤ n) × (n ≤ 16)) (IsAllowed setup sofar) args (source_is setup) (within_fits 1 16) (λ m n q r. (q, r))

pub asked_is : (setup : Setup) (sofar : Sofar) (name : List ℕ) (args : List (List ℕ)) → IfOk (asked setup sofar name args) (IsAllowed setup sofar)
unfolding asked
asked_is setup sofar name args = along (or_kind Command (name_of name)) (λ named. asked_by setup sofar named args) (IsAllowed setup sofar) (λ named. asked_by_is setup sofar named args)
