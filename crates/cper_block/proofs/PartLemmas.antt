-- A well-formed block is its header, its entries, a gap and its raw data.
use Rattle.std.proofs.Common.{◌≡◌, ◌≤◌, ℕ, ◌+◌, ◌-◌, min, Bool, true, false, cond, ltb, eqb, not, ◌&&◌, List, [], ◌++◌, length, take, drop, refl, sym, ap, subst, ◌∙◌, arith, append_assoc, append-nil, Option, Some, None}
use Rattle.std.specs.List.{flat_map}
use Rattle.std.proofs.Math.Seq.{take-add}
use Rattle.std.proofs.lemmas.Bool.{ltb-false, eqb-true, eqb-false}
use Rattle.std.proofs.lemmas.List.{length-take-le, length-drop, length-append, nil_from_length}
use Rattle.cper_block.specs.declared.header.Header.{Header}
use Rattle.cper_block.specs.declared.malformed.Malformed.{Malformed}
use Rattle.cper_block.specs.declared.malformed.Malformed.TheVariants.{TooShort, TooLong, DataLength, RawOffset, EntryTruncated, Leftover}
use Rattle.cper_block.specs.Header.{header_of, block_length, header_reason}
use Rattle.cper_block.specs.Cut.{Cuts, Walks}
use Rattle.cper_block.specs.Block.{data_of, front_reason, JudgedBy, Judges, IsJoined}

-- no reason, and so none of the first row
cond_none : (b : Bool) (reason : Malformed) (others : Option Malformed) → cond b (Some reason) others ≡ None → (b ≡ false) × (others ≡ None)
cond_none true reason others e = cc
cond_none false reason others e = (refl, e)

-- two reasons are no lack of one
cond_some : (b : Bool) (first second : Malformed) → cond b (Some first) (Some second) ≡ None → ⊥
cond_some true first second e = cc
cond_some false first second e = cc

-- a header without a reason
pub record IsSound (header : Header) (limit : ℕ) : Type 0 where
  pub long : 20 ≤ block_length header
  pub within : block_length header ≤ limit
  pub raw_behind : (not (eqb header.raw_length 0) && ltb header.raw_offset (20 + header.length)) ≡ false

pub sound_header : (header : Header) (limit : ℕ) → header_reason header limit ≡ None → IsSound header limit
sound_header header limit e =
    let first = cond_none (ltb (block_length header) 20) TooShort _ e in
    let second = cond_none (ltb limit (block_length header)) TooLong _ first.1 in
    let third = cond_none (ltb 0 header.length && ltb header.length 64) DataLength _ second.1 in
    let fourth = cond_none (not (eqb header.raw_length 0) && ltb header.raw_offset (20 + header.length)) RawOffset _ third.1 in
    record {
      long = ltb-false _ _ first.0;
      within = ltb-false _ _ second.0;
      raw_behind = fourth.0;
    }

-- a front without a reason, and its entries
judged_none : (reason : Option Malformed) (bytes : List ℕ) → JudgedBy reason bytes None → (reason ≡ None) × Walks bytes None
judged_none (Some reason) bytes j = cc
judged_none None bytes j = (refl, j)

-- a rest without a reason is empty
rest_empty_by : (b : Bool) (n : ℕ) (rest : List ℕ) → eqb (length rest) 0 ≡ b → None ≡ cond b None (cond (ltb (length rest) 64) (Some Leftover) (Some (EntryTruncated n))) → rest ≡ []
rest_empty_by true n rest is e = nil_from_length rest (eqb-true (length rest) 0 is)
rest_empty_by false n rest is e = absurd (cond_some (ltb (length rest) 64) Leftover (EntryTruncated n) (sym e))

cut_whole : (bytes : List ℕ) → Walks bytes None → (entries : List (List ℕ)) × Cuts bytes entries []
cut_whole bytes (entries, rest, cuts, none, is) =
    let P : List ℕ → Type 0 = λ left. Cuts bytes entries left in
    (entries, subst P (rest_empty_by (eqb (length rest) 0) (length entries) rest refl is) cuts)

-- raw data begins behind the entries
raw_behind : (raw offset start : ℕ) → eqb raw 0 ≡ false → (not (eqb raw 0) && ltb offset start) ≡ false → start ≤ offset
raw_behind raw offset start some e =
    let test : ltb offset start ≡ false = ap (λ b. not b && ltb offset start) (sym some) ∙ e in
    ltb-false offset start test

-- the front up to the end of the entries
front_and_data : (bytes : List ℕ) (n : ℕ) (entries : List (List ℕ)) → Cuts (take n (drop 20 bytes)) entries [] → take (20 + n) bytes ≡ take 20 bytes ++ flat_map (λ (e : List ℕ). e) entries
front_and_data bytes n entries c = take-add 20 n bytes ∙ ap (λ xs. take 20 bytes ++ xs) (c.whole ∙ append-nil _)

-- how long the entries are together
data_length_is : (bytes : List ℕ) (n : ℕ) (entries : List (List ℕ)) → 20 + n ≤ length bytes → Cuts (take n (drop 20 bytes)) entries [] → length (flat_map (λ (e : List ℕ). e) entries) ≡ n
data_length_is bytes n entries long c =
    let size : length (take n (drop 20 bytes)) ≡ n = length-take-le n (drop 20 bytes) (omega (arith, length-drop 20 bytes)) in
    ap length (sym (c.whole ∙ append-nil _)) ∙ size

joined_by : (b : Bool) (bytes : List ℕ) (limit : ℕ) (entries : List (List ℕ)) → eqb (header_of bytes).raw_length 0 ≡ b → 20 ≤ length bytes → IsSound (header_of bytes) (min (length bytes) limit) → Cuts (data_of bytes) entries [] → IsJoined (header_of bytes) (take (block_length (header_of bytes)) bytes) entries
joined_by true bytes limit entries is long sound cuts =
    let h = header_of bytes in
    let none : h.raw_length ≡ 0 = eqb-true h.raw_length 0 is in
    let size : block_length h ≡ 20 + h.length = ap (λ b. cond b (20 + h.length) (h.raw_offset + h.raw_length)) is in
    record {
      front = take 20 bytes;
      gap = [];
      raw = [];
      whole =
          ap (λ n. take n bytes) size ∙ front_and_data bytes h.length entries cuts
          ∙ ap (λ xs. take 20 bytes ++ xs) (sym (append-nil (flat_map (λ (e : List ℕ). e) entries)));
      front_length = length-take-le 20 bytes long;
      each = cuts.each;
      data_length = data_length_is bytes h.length entries (omega (arith, sound.within)) cuts;
      raw_length = sym none;
      raw_offset = λ some. absurd (omega arith);
      no_gap = λ e. refl;
    }
joined_by false bytes limit entries is long sound cuts =
    let h = header_of bytes in
    let start = 20 + h.length in
    let between = h.raw_offset - start in
    let size : block_length h ≡ h.raw_offset + h.raw_length = ap (λ b. cond b (20 + h.length) (h.raw_offset + h.raw_length)) is in
    let behind : start ≤ h.raw_offset = raw_behind h.raw_length h.raw_offset start is sound.raw_behind in
    let offset : h.raw_offset ≡ start + between = omega arith in
    let within : h.raw_offset + h.raw_length ≤ length bytes = omega (arith, sound.within) in
    let parts = flat_map (λ (e : List ℕ). e) entries in
    let gap = take between (drop start bytes) in
    let raw = take h.raw_length (drop h.raw_offset bytes) in
    let gap_size : length gap ≡ between = length-take-le between (drop start bytes) (omega (arith, length-drop start bytes)) in
    record {
      front = take 20 bytes;
      gap = gap;
      raw = raw;
      whole =
          ap (λ n. take n bytes) size ∙ take-add h.raw_offset h.raw_length bytes
          ∙ ap (λ n. take n bytes ++ raw) offset ∙ ap (λ xs. xs ++ raw) (take-add start between bytes)
          ∙ ap (λ xs. (xs ++ gap) ++ raw) (front_and_data bytes h.length entries cuts)
          ∙ append_assoc (take 20 bytes ++ parts) gap raw ∙ append_assoc (take 20 bytes) parts (gap ++ raw);
      front_length = length-take-le 20 bytes long;
      each = cuts.each;
      data_length = data_length_is bytes h.length entries (omega arith) cuts;
      raw_length = length-take-le h.raw_length (drop h.raw_offset bytes) (omega (arith, length-drop h.raw_offset bytes));
      raw_offset = λ some. omega arith;
      no_gap = λ e. absurd (eqb-false h.raw_length 0 is e);
    }

-- a well-formed block has no reason in its front
pub front_none : (bytes : List ℕ) (limit : ℕ) → Judges bytes limit None → header_reason (header_of bytes) (min (length bytes) limit) ≡ None
front_none bytes limit j =
    let both = judged_none (front_reason bytes limit) (data_of bytes) j in
    (cond_none (ltb (length bytes) 20) TooShort (header_reason (header_of bytes) (min (length bytes) limit)) both.0).1

-- what no reason says of the front
pub record IsFront (bytes : List ℕ) (limit : ℕ) : Type 0 where
  pub long : 20 ≤ length bytes
  pub sound : IsSound (header_of bytes) (min (length bytes) limit)
  pub walks : Walks (data_of bytes) None

pub front_is : (bytes : List ℕ) (limit : ℕ) → Judges bytes limit None → IsFront bytes limit
front_is bytes limit j =
    let both = judged_none (front_reason bytes limit) (data_of bytes) j in
    let front = cond_none (ltb (length bytes) 20) TooShort (header_reason (header_of bytes) (min (length bytes) limit)) both.0 in
    record {
      long = ltb-false _ _ front.0;
      sound = sound_header (header_of bytes) (min (length bytes) limit) front.1;
      walks = both.1;
    }

pub is_its_parts : (bytes : List ℕ) (limit : ℕ) → Judges bytes limit None → (entries : List (List ℕ)) × IsJoined (header_of bytes) (take (block_length (header_of bytes)) bytes) entries × Cuts (data_of bytes) entries []
is_its_parts bytes limit j =
    let f = front_is bytes limit j in
    let cut = cut_whole (data_of bytes) f.walks in
    (cut.0, joined_by (eqb (header_of bytes).raw_length 0) bytes limit cut.0 refl f.long f.sound cut.1, cut.1)

pub is_at_hand : (bytes : List ℕ) (limit : ℕ) → Judges bytes limit None → block_length (header_of bytes) ≤ length bytes
is_at_hand bytes limit j = omega (arith, (front_is bytes limit j).sound.within)

pub is_long : (bytes : List ℕ) (limit : ℕ) → Judges bytes limit None → 20 ≤ length bytes
is_long bytes limit j = (front_is bytes limit j).long

pub is_within : (bytes : List ℕ) (limit : ℕ) → Judges bytes limit None → block_length (header_of bytes) ≤ limit
is_within bytes limit j = omega (arith, (front_is bytes limit j).sound.within)

-- a block holds its header and its entries
pub holds_data : (bytes : List ℕ) (limit : ℕ) → Judges bytes limit None → 20 + (header_of bytes).length ≤ length bytes
holds_data bytes limit j =
    let size = block_length (header_of bytes) in
    let parts = (is_its_parts bytes limit j).1 in
    let at_hand = is_at_hand bytes limit j in
    let whole : length (take size bytes) ≡ size = length-take-le size bytes at_hand in
    let sum = ap length parts.whole in
    omega (arith, simp length-append at sum, parts.front_length, parts.data_length)
