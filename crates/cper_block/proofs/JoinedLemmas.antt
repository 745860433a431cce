-- Joined parts, whose header says so, are a well-formed block.
use Rattle.std.proofs.Common.{◌≡◌, ◌≤◌, ◌<◌, ℕ, ◌+◌, min, Bool, true, false, cond, ltb, eqb, not, ◌&&◌, List, [], ◌∷◌, ◌++◌, length, take, drop, refl, sym, ap, subst, ◌∙◌, arith, append_assoc, append-nil, Option, Some, None}
use Rattle.std.specs.List.{flat_map, AllByRecursion}
use Rattle.std.proofs.lemmas.Bool.{le-ltb, eqb-true, eqb-false}
use Rattle.std.proofs.lemmas.List.{length-take, length-append, take_at, drop_at, take-append-drop, take_all}
use Rattle.cper_block.specs.declared.header.Header.{Header}
use Rattle.cper_block.specs.declared.malformed.Malformed.{Malformed}
use Rattle.cper_block.specs.declared.malformed.Malformed.TheVariants.{TooShort, TooLong, DataLength, RawOffset}
use Rattle.cper_block.specs.Header.{header_of, block_length, header_reason}
use Rattle.cper_block.specs.Cut.{IsEntry, Walks}
use Rattle.cper_block.specs.Block.{data_of, front_reason, JudgedBy, Judges, IsJoined}

-- both tests hold nowhere, where the second does not
second_false : (a b : Bool) → b ≡ false → (a && b) ≡ false
second_false true b none = none
second_false false b none = refl

-- entries are none, or have a header's bytes
data_row : (entries : List (List ℕ)) (n : ℕ) → AllByRecursion IsEntry entries → length (flat_map (λ (e : List ℕ). e) entries) ≡ n → (ltb 0 n && ltb n 64) ≡ false
data_row [] n all is = ap (λ k. ltb 0 k && ltb k 64) (sym is)
data_row (entry ∷ entries) n all is =
    let size = length-append entry (flat_map (λ (e : List ℕ). e) entries) in
    let header = all.0.header in
    second_false (ltb 0 n) (ltb n 64) (le-ltb n 64 (omega arith))

-- raw data begins behind the entries
raw_row : (none : Bool) (raw offset start gap : ℕ) → eqb raw 0 ≡ none → (0 < raw → start + gap ≡ offset) → (not none && ltb offset start) ≡ false
raw_row true raw offset start gap is where_raw = refl
raw_row false raw offset start gap is where_raw =
    let some : 0 < raw = let other = eqb-false raw 0 is in omega arith in
    let place = where_raw some in
    le-ltb offset start (omega arith)

-- joined parts are as long as the header says
joined_size_by : (none : Bool) (header : Header) (block : List ℕ) (entries : List (List ℕ)) → eqb header.raw_length 0 ≡ none → IsJoined header block entries → length block ≡ cond none (20 + header.length) (header.raw_offset + header.raw_length)
joined_size_by true header block entries is j =
    let zero : header.raw_length ≡ 0 = eqb-true header.raw_length 0 is in
    let no_gap = ap length (j.no_gap zero) in
    let sum = ap length j.whole in
    omega (arith, simp length-append at sum, j.front_length, j.data_length, j.raw_length)
joined_size_by false header block entries is j =
    let some : 0 < header.raw_length = let other = eqb-false header.raw_length 0 is in omega arith in
    let place = j.raw_offset some in
    let sum = ap length j.whole in
    omega (arith, simp length-append at sum, j.front_length, j.data_length, j.raw_length)

pub joined_size : (header : Header) (block : List ℕ) (entries : List (List ℕ)) → IsJoined header block entries → length block ≡ block_length header
joined_size header block entries j = joined_size_by (eqb header.raw_length 0) header block entries refl j

-- a table of four tests of which none holds
no_row : (a b c d : Bool) → a ≡ false → b ≡ false → c ≡ false → d ≡ false → cond a (Some TooShort) (cond b (Some TooLong) (cond c (Some DataLength) (cond d (Some RawOffset) None))) ≡ None
no_row false false false false a b c d = refl
no_row true b' c' d' a b c d = cc
no_row false true c' d' a b c d = cc
no_row false false true d' a b c d = cc
no_row false false false true a b c d = cc

joined_header : (header : Header) (block : List ℕ) (entries : List (List ℕ)) (limit : ℕ) → IsJoined header block entries → block_length header ≤ limit → header_reason header limit ≡ None
joined_header header block entries limit j within =
    let size = joined_size header block entries j in
    let sum = ap length j.whole in
    let long : 20 ≤ block_length header = omega (arith, simp length-append at sum, j.front_length) in
    no_row _ _ _ _
    (le-ltb (block_length header) 20 long)
    (le-ltb limit (block_length header) within)
    (data_row entries header.length j.each j.data_length)
    (raw_row (eqb header.raw_length 0) header.raw_length header.raw_offset (20 + header.length) (length j.gap) refl j.raw_offset)

-- the bytes of the entries are those that are joined
joined_data : (header : Header) (bytes : List ℕ) (n : ℕ) (entries : List (List ℕ)) → IsJoined header (take n bytes) entries → take header.length (drop 20 bytes) ≡ flat_map (λ (e : List ℕ). e) entries
joined_data header bytes n entries j =
    let parts = flat_map (λ (e : List ℕ). e) entries in
    let rest = drop n bytes in
    let later = (j.gap ++ j.raw) ++ rest in
    let is : bytes ≡ j.front ++ (parts ++ later) =
    sym (take-append-drop n bytes) ∙ ap (λ xs. xs ++ rest) j.whole
    ∙ append_assoc j.front (parts ++ (j.gap ++ j.raw)) rest ∙ ap (λ xs. j.front ++ xs) (append_assoc parts (j.gap ++ j.raw) rest) in
    ap (λ xs. take header.length (drop 20 xs)) is
    ∙ ap (take header.length) (drop_at j.front (parts ++ later) 20 j.front_length)
    ∙ take_at parts later header.length j.data_length

joined_walks : (bytes : List ℕ) (entries : List (List ℕ)) → AllByRecursion IsEntry entries → bytes ≡ flat_map (λ (e : List ℕ). e) entries → Walks bytes None
joined_walks bytes entries each is = (entries, [], record { whole = is ∙ sym (append-nil _); each = each }, refl, refl)

judged_by_none : (reason : Option Malformed) (entry_bytes : List ℕ) → reason ≡ None → Walks entry_bytes None → JudgedBy reason entry_bytes None
judged_by_none (Some reason) entry_bytes none walks = cc
judged_by_none None entry_bytes none walks = walks

-- joined parts at the front of bytes, whose header says so, are a well-formed block under each limit that they keep
pub judged_joined : (bytes : List ℕ) (limit : ℕ) (entries : List (List ℕ)) → IsJoined (header_of bytes) (take (block_length (header_of bytes)) bytes) entries → block_length (header_of bytes) ≤ limit → Judges bytes limit None
judged_joined bytes limit entries j within =
    let header = header_of bytes in
    let n = block_length header in
    let size = joined_size header (take n bytes) entries j in
    let taken = length-take n bytes in
    let sum = ap length j.whole in
    let at_hand : n ≤ length bytes = omega arith in
    let long : 20 ≤ length bytes = omega (arith, simp length-append at sum, j.front_length) in
    let front : front_reason bytes limit ≡ None =
    ap (λ b. cond b (Some TooShort) (header_reason header (min (length bytes) limit))) (le-ltb (length bytes) 20 long)
    ∙ joined_header header (take n bytes) entries (min (length bytes) limit) j (omega arith) in
    judged_by_none (front_reason bytes limit) (data_of bytes) front
    (joined_walks (data_of bytes) entries j.each (joined_data header bytes n entries j))

-- the same of bytes behind which nothing lies
pub judged_whole : (block : List ℕ) (limit : ℕ) (entries : List (List ℕ)) → IsJoined (header_of block) block entries → length block ≤ limit → Judges block limit None
judged_whole block limit entries j within =
    let size = joined_size (header_of block) block entries j in
    let whole : take (block_length (header_of block)) block ≡ block = take_all (block_length (header_of block)) block (omega arith) in
    let P : List ℕ → Type 0 = λ xs. IsJoined (header_of block) xs entries in
    judged_joined block limit entries (subst P (sym whole) j) (omega arith)
