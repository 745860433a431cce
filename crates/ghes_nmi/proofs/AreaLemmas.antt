-- What is read of an area is the front of the block that stands there, with zeros behind it.
use Rattle.std.proofs.Common.{refl, ◌≡◌, ◌≢◌, ◌≤◌, ◌<◌, ◌⊎◌, inl, inr, subst, ℕ, ◌+◌, ◌-◌, List, [], ◌++◌, length, take, drop, sym, ap, ◌∙◌, arith, append-nil, Option, Some, None, unwrap_or}
use Rattle.std.specs.Prelude.{replicate, option_map}
use Rattle.std.proofs.lemmas.Bool.{cases_lt}
use Rattle.std.proofs.lemmas.Option.{none-some}
use Rattle.std.proofs.lemmas.List.{take-append-le, take-append-drop, take-take, take-replicate, take_all, length-append, length-take, length-replicate}
use Rattle.std.proofs.Math.Seq.{take-append-add, take-append_seam, take-add}
use Rattle.apei_base.specs.Firmware.{Seen, standing, shown, area_bytes, IsRaised, IsSound}
use Rattle.apei_base.proofs.SeenLemmas.{standing_raised}
use Rattle.apei_base.specs.Number.{number_at}
use Rattle.cper_block.specs.Header.{header_of}
use Rattle.cper_block.specs.declared.header.Header.{Header}
use Rattle.cper_block.specs.Image.{padded}
use Rattle.cper_block.proofs.EntryLemmas.{number_at-append}
use Rattle.ghes_call.specs.Buffer.{BufferSeen}
use Rattle.ghes_nmi.specs.Steps.{standing_header}

-- a front is so long
pub padded_long : (n : ℕ) (block : List ℕ) → length (padded n block) ≡ n
padded_long n block =
    omega (arith, length-append (take n block) (replicate (n - length block) 0), length-take n block, length-replicate {A = ℕ} (n - length block) 0)

-- a front that is at hand
front_at_hand : (n m : ℕ) (block : List ℕ) → n ≤ length block → take n (block ++ replicate m 0) ≡ padded n block
front_at_hand n m block at_hand =
    let none : n - length block ≡ 0 = omega (arith, at_hand) in
    take-append-le n block (replicate m 0) at_hand ∙ sym (ap (λ k. take n block ++ replicate k 0) none ∙ append-nil (take n block))

-- a front that is longer than the block
front_past : (k m : ℕ) (block : List ℕ) → k ≤ m → take (length block + k) (block ++ replicate m 0) ≡ padded (length block + k) block
front_past k m block fits =
    let rest : length block + k - length block ≡ k = omega arith in
    let whole : take (length block + k) block ≡ block = take_all (length block + k) block (omega arith) in
    take-append-add block (replicate m 0) k ∙ ap (λ zeros. block ++ zeros) (take-replicate k m 0 fits)
    ∙ sym (ap (λ n. take (length block + k) block ++ replicate n 0) rest ∙ ap (λ xs. xs ++ replicate k 0) whole)

-- so many bytes from the front of a block with enough zeros behind it, where its length is n less some or more
by_length : (n m : ℕ) (block : List ℕ) → n ≤ m → (length block < n) ⊎ (n ≤ length block) → take n (block ++ replicate m 0) ≡ padded n block
by_length n m block fits (inr at_hand) = front_at_hand n m block at_hand
by_length n m block fits (inl past) =
    let k = n - length block in
    let is : length block + k ≡ n = omega (arith, past) in
    subst (λ j. take j (block ++ replicate m 0) ≡ padded j block) is (front_past k m block (omega (arith, fits)))

pub front_padded : (n m : ℕ) (block : List ℕ) → n ≤ m → take n (block ++ replicate m 0) ≡ padded n block
front_padded n m block fits = by_length n m block fits (cases_lt (length block) n)

-- what is told as a header with a status that is not 0 is the header of the block that stands
pub header_stands : (stands : Option (List ℕ)) (header : List ℕ) → header ≡ shown 0 20 (unwrap_or stands []) → number_at 0 4 header ≢ 0 → Some header ≡ option_map (padded 20) stands
header_stands None header is status = absurd (status (ap (number_at 0 4) is))
header_stands (Some block) header is status = ap Some (is ∙ front_padded 20 20 block (omega arith))

-- the status that is told of a raised block is its own
status_told : (block : List ℕ) → 20 ≤ length block → number_at 0 4 (shown 0 20 block) ≡ number_at 0 4 block
status_told block whole =
    let four : 0 + 4 ≤ length (take 20 block) = omega (arith, length-take 20 block, whole) in
    ap (number_at 0 4) (take-append-le 20 block (replicate 20 0) whole) ∙ sym (number_at-append 0 4 (take 20 block) (drop 20 block) four)
    ∙ ap (number_at 0 4) (take-append-drop 20 block)

-- where a status of 0 is told, no block stands that was raised
absent_by : (stands : Option (List ℕ)) (header : List ℕ) → ((block : List ℕ) → stands ≡ Some block → IsRaised block) → header ≡ shown 0 20 (unwrap_or stands []) → number_at 0 4 header ≡ 0 → option_map (padded 20) stands ≡ None
absent_by None header raised is zero = refl
absent_by (Some block) header raised is zero =
    absurd ((raised block refl).stands (sym (status_told block (raised block refl).whole) ∙ sym (ap (number_at 0 4) is) ∙ zero))

pub header_absent : (seen : Seen) (faults : ℕ) (header : List ℕ) → IsSound seen faults → header ≡ area_bytes 0 20 seen → number_at 0 4 header ≡ 0 → standing_header seen ≡ None
header_absent seen faults header sound is zero =
    absent_by (standing seen) header (λ block stands. standing_raised seen faults block sound stands) is zero

-- what a buffer tells, and what a header tells
abbrev pub told_bytes : BufferSeen → List ℕ
told_bytes seen = seen.bytes

abbrev pub told_status : Header → ℕ
told_status header = header.status

-- a buffer whose memory has these bytes in front has 20 of them in front
pub front_held : (memory items : List ℕ) (len : ℕ) → length memory ≡ len → 20 ≤ length memory → take 20 (take len (memory ++ drop (length memory) items)) ≡ take 20 memory
front_held memory items len size long =
    take-take 20 len (memory ++ drop (length memory) items) (omega (arith, size, long)) ∙ take-append-le 20 memory (drop (length memory) items) long

-- a front of 20 bytes has 20 bytes
pub front_long : (bytes memory : List ℕ) → bytes ≡ take 20 memory → 20 ≤ length memory → 20 ≤ length bytes
front_long bytes memory is long = omega (arith, ap length is, length-take 20 memory, long)

-- a header that a buffer holds is the front of its memory
pub header_in_front : (items bytes : List ℕ) (len : ℕ) (stands : Option (List ℕ)) → take len items ≡ bytes → len ≤ length items → Some bytes ≡ option_map (padded 20) stands → take 20 items ≡ bytes
header_in_front items bytes len None is within head = absurd (none-some bytes (sym head))
header_in_front items bytes len (Some block) is within head =
    let front : bytes ≡ padded 20 block = ap (λ o. unwrap_or o []) head in
    let long : length bytes ≡ 20 = ap length front ∙ padded_long 20 block in
    let size : 20 ≡ len = omega (arith, within, length-take len items, ap length is, long) in
    ap (λ k. take k items) size ∙ is

-- a header, and what is copied behind it, with what lies behind that
pub copied_behind : (count : ℕ) (memory header into behind rest : List ℕ) → header ≡ take 20 memory → length header ≡ 20 → length into ≡ count - 20 → 20 ≤ count → into ≡ rest → take count ((header ++ into) ++ behind) ≡ take 20 memory ++ rest
copied_behind count memory header into behind rest is size long whole is_rest =
    let sum : count ≡ length (header ++ into) = omega (arith, size, long, whole, length-append header into) in
    ap (λ k. take k ((header ++ into) ++ behind)) sum ∙ take-append_seam (header ++ into) behind
    ∙ ap (λ h. h ++ into) is ∙ ap (λ r. take 20 memory ++ r) is_rest

-- the first 20 bytes, where they are copied
pub copied_front : (into behind rest : List ℕ) → length into ≡ 20 → into ≡ rest → take 20 (into ++ behind) ≡ rest
copied_front into behind rest size is = ap (λ k. take k (into ++ behind)) (sym size) ∙ take-append_seam into behind ∙ is

-- the header, and the bytes behind it
pub joined_padded : (k : ℕ) (block : List ℕ) → padded 20 block ++ shown 20 k block ≡ padded (20 + k) block
joined_padded k block =
    let near : 20 ≤ 20 + k = omega arith in
    let whole : 20 + k ≤ 20 + k = omega arith in
    ap (λ front. front ++ shown 20 k block) (sym (front_padded 20 (20 + k) block near))
    ∙ sym (take-add 20 k (block ++ replicate (20 + k) 0)) ∙ front_padded (20 + k) (20 + k) block whole

-- bytes that are a header and what is read behind it are the front of the block that stands
image_joined : (header bytes : List ℕ) (count : ℕ) (block : List ℕ) → header ≡ padded 20 block → 20 ≤ count → bytes ≡ header ++ shown 20 (count - 20) block → bytes ≡ padded count block
image_joined header bytes count block head long is =
    let size : 20 + (count - 20) ≡ count = omega (arith, long) in
    is ∙ ap (λ front. front ++ shown 20 (count - 20) block) head ∙ joined_padded (count - 20) block ∙ ap (λ n. padded n block) size

-- and they are what a buffer holds of them, whose memory has them in front
pub image_held : (header memory items : List ℕ) (len count room : ℕ) (stands : Option (List ℕ)) → Some header ≡ option_map (padded 20) stands → 20 ≤ count → len ≡ count → length memory ≡ room → take count memory ≡ header ++ shown 20 (count - 20) (unwrap_or stands []) → take len (take room (memory ++ drop (length memory) items)) ≡ padded count (unwrap_or stands [])
image_held header memory items len count room None head long same size is = absurd (none-some header (sym head))
image_held header memory items len count room (Some block) head long same size is =
    let front : header ≡ padded 20 block = ap (λ o. unwrap_or o []) head in
    ap (λ k. take len (take k (memory ++ drop (length memory) items))) (sym size) ∙ ap (take len) (take-append_seam memory (drop (length memory) items))
    ∙ ap (λ k. take k memory) same ∙ image_joined header (take count memory) count block front long is

-- the header of a front is that of its first 20 bytes
header_padded : (n : ℕ) (block : List ℕ) → 20 ≤ n → header_of (padded n block) ≡ header_of (padded 20 block)
header_padded n block long =
    let rest = shown 20 (n - 20) block in
    let size : 20 + (n - 20) ≡ n = omega (arith, long) in
    let front : length (padded 20 block) ≡ 20 = padded_long 20 block in
    let whole : padded 20 block ++ rest ≡ padded n block = joined_padded (n - 20) block ∙ ap (λ k. padded k block) size in
    let same : (offset : ℕ) → offset + 4 ≤ 20 → number_at offset 4 (padded 20 block ++ rest) ≡ number_at offset 4 (padded 20 block) =
    λ offset within. number_at-append offset 4 (padded 20 block) rest (omega (arith, front, within)) in
    let parts : header_of (padded 20 block ++ rest) ≡ header_of (padded 20 block) =
    cc (same 0 (omega arith), same 4 (omega arith), same 8 (omega arith), same 12 (omega arith), same 16 (omega arith)) in
    ap header_of (sym whole) ∙ parts

-- what is held of the block that stands has the header that was read of it, and is so long
pub header_held : (header image : List ℕ) (count : ℕ) (stands : Option (List ℕ)) → Some header ≡ option_map (padded 20) stands → 20 ≤ count → image ≡ padded count (unwrap_or stands []) → (header_of image ≡ header_of header) × (length image ≡ count)
header_held header image count None head long is = absurd (none-some header (sym head))
header_held header image count (Some block) head long is =
    let front : header ≡ padded 20 block = ap (λ o. unwrap_or o []) head in
    (ap header_of is ∙ header_padded count block long ∙ sym (ap header_of front), ap length is ∙ padded_long count block)
