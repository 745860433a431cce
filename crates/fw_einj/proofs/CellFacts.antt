-- What is read of cells after bytes were written.
use Rattle.std.proofs.Common.{◌≡◌, ◌⊎◌, inl, inr, ◌<◌, ◌≤◌, ℕ, zero, suc, ◌+◌, ◌-◌, ◌*◌, ◌/◌, ◌^◌, ◌&&◌, nat_lt, nat_le, Bool, true, false, cond, List, [], ◌∷◌, length, get_or, slice_index, take, drop, Option, Some, None, unwrap_or, refl, sym, ap, ap₂, ◌∙◌, arith, drop-cons, add-one, add-zero}
use Rattle.std.specs.Option.{option_map}
use Rattle.std.proofs.lemmas.Bool.Decides.{nat_tests}
use Rattle.std.proofs.lemmas.Nat.{from_le_bytes-to_le_bytes_4, from_le_bytes-to_le_bytes_8}
use Rattle.apei_einj.specs.Part.{memory_reach}
use Rattle.std.specs.Int.{w32, w64, to_le_bytes, from_le_bytes}
use Rattle.byteorder.specs.Endian.{little_bytes, little_number}
use Rattle.apei_base.specs.Bus.{Cells, Reach, same_space, byte_at, bytes_at, value_at}
use Rattle.apei_base.specs.declared.region.Space.{Space}
use Rattle.apei_base.specs.declared.region.Space.TheVariants.{Memory, Port}
use Rattle.fw_cells.specs.Changes.{with_bytes_at, with_value}
use Rattle.fw_cells.specs.Mapping.{is_in_run}
use Rattle.fw_einj.specs.Sample.{AreMapped}

-- cells from one place on and those from another on have none in common
abbrev pub Apart : Space → ℕ → ℕ → Space → ℕ → ℕ → Type 0
Apart of first n space address m = (same_space of space ≡ false) ⊎ ((address + m ≤ first) ⊎ (first + n ≤ address))

not_in : (first n address : ℕ) → (address + 1 ≤ first) ⊎ (first + n ≤ address) → is_in_run first n address ≡ false
not_in first n address out = grind (arith, nat_tests)

other_space : (b c : Bool) (x y : Option ℕ) → b ≡ false → cond b (cond c x y) y ≡ y
other_space b c x y e = ap (λ d. cond d (cond c x y) y) e

other_place : (b c : Bool) (x y : Option ℕ) → c ≡ false → cond b (cond c x y) y ≡ y
other_place true c x y e = ap (λ d. cond d x y) e
other_place false c x y e = refl

cell-apart : (cells : Cells) (of : Space) (first : ℕ) (bytes : List ℕ) (space : Space) (address : ℕ) → Apart of first (length bytes) space address 1
    → with_bytes_at cells of first bytes space address ≡ cells space address
cell-apart cells of first bytes space address apart =
    elim apart [
      | inl other ↦ other_space (same_space of space) (is_in_run first (length bytes) address) _ (cells space address) other
      | inr out ↦ other_place (same_space of space) (is_in_run first (length bytes) address) _ (cells space address) (not_in first (length bytes) address out)
    ]

apart-first : (of : Space) (first n : ℕ) (space : Space) (address m : ℕ) → Apart of first n space address (suc m) → Apart of first n space address 1
apart-first of first n space address m apart = elim apart [ inl other ↦ inl other | inr out ↦ elim out [ inl low ↦ inr (inl (omega arith)) | inr high ↦ inr (inr high) ] ]

apart-rest : (of : Space) (first n : ℕ) (space : Space) (address m : ℕ) → Apart of first n space address (suc m) → Apart of first n space (address + 1) m
apart-rest of first n space address m apart =
    elim apart [ inl other ↦ inl other | inr out ↦ elim out [ inl low ↦ inr (inl (omega arith)) | inr high ↦ inr (inr (omega arith)) ] ]

-- bytes elsewhere are as they were
pub bytes-apart : (cells : Cells) (of : Space) (first : ℕ) (bytes : List ℕ) (space : Space) (address n : ℕ) → Apart of first (length bytes) space address n
    → bytes_at (with_bytes_at cells of first bytes) space address n ≡ bytes_at cells space address n
unfolding bytes_at
bytes-apart cells of first bytes space address zero apart = refl
bytes-apart cells of first bytes space address (suc n) apart =
    ap₂ (λ (byte : ℕ) rest. byte ∷ rest)
    (ap (λ cell. cond (nat_lt address (2 ^ 64)) (unwrap_or cell 0) 0)
    (cell-apart cells of first bytes space address (apart-first of first (length bytes) space address n apart)))
    (bytes-apart cells of first bytes space (address + 1) n (apart-rest of first (length bytes) space address n apart))

pub value-apart : (cells : Cells) (of : Space) (first : ℕ) (bytes : List ℕ) (reach : Reach)
    → Apart of first (length bytes) reach.space reach.address (reach.width / 8)
    → value_at (with_bytes_at cells of first bytes) reach ≡ value_at cells reach
value-apart cells of first bytes reach apart =
    ap (little_number (reach.width / 8)) (bytes-apart cells of first bytes reach.space reach.address (reach.width / 8) apart)

-- what is mapped stays so
some_stays : (b c : Bool) (f : ℕ → ℕ) (old : Option ℕ) → (old ≡ None → ⊥) → cond b (cond c (option_map f old) old) old ≡ None → ⊥
some_stays true true f (Some x) some e = absurd (cc e)
some_stays true true f None some e = some refl
some_stays true false f old some e = some e
some_stays false c f old some e = some e

pub mapped-stay : (cells : Cells) (of : Space) (first : ℕ) (bytes : List ℕ) (space : Space) (address n : ℕ) → AreMapped cells space address n
    → AreMapped (with_bytes_at cells of first bytes) space address n
mapped-stay cells of first bytes space address n mapped k below e =
    some_stays (same_space of space) (is_in_run first (length bytes) (address + k)) _ (cells space (address + k)) (mapped k below) e

same_as-itself : (space : Space) → same_space space space ≡ true
same_as-itself Memory = refl
same_as-itself Port = refl

is_in : (first n k : ℕ) → k < n → first + n ≤ 2 ^ 64 → is_in_run first n (first + k) ≡ true
is_in first n k below ends = grind (arith, nat_tests)

-- a cell that is mapped takes the byte
put_there : (b c : Bool) (byte : ℕ) (old : Option ℕ) → b ≡ true → c ≡ true → (old ≡ None → ⊥) → unwrap_or (cond b (cond c (option_map (λ _. byte) old) old) old) 0 ≡ byte
put_there true true byte (Some x) same inside some = refl
put_there true true byte None same inside some = absurd (some refl)
put_there true false byte old same inside some = absurd (cc inside)
put_there false c byte old same inside some = absurd (cc same)

byte-there : (cells : Cells) (space : Space) (first : ℕ) (bytes : List ℕ) (k : ℕ) → AreMapped cells space first (length bytes) → first + length bytes ≤ 2 ^ 64
    → k < length bytes → byte_at (with_bytes_at cells space first bytes) space (first + k) ≡ get_or bytes k 0
byte-there cells space first bytes k mapped ends below =
    let low : nat_lt (first + k) (2 ^ 64) ≡ true = grind (arith, nat_tests) in
    let place : first + k - first ≡ k = omega arith in
    ap (λ b. cond b (unwrap_or (with_bytes_at cells space first bytes space (first + k)) 0) 0) low
    ∙ put_there (same_space space space) (is_in_run first (length bytes) (first + k)) (slice_index bytes (first + k - first)) (cells space (first + k))
    (same_as-itself space) (is_in first (length bytes) k below ends) (mapped k below)
    ∙ ap (slice_index bytes) place

-- the bytes from a place on begin with the one there
drop-item : (bytes : List ℕ) (k : ℕ) → k < length bytes → drop k bytes ≡ get_or bytes k 0 ∷ drop (k + 1) bytes
drop-item bytes k within = rw (add-one, drop-cons bytes k 0) refl

-- what was written is read, also in part
pub bytes-there : (cells : Cells) (space : Space) (first : ℕ) (bytes : List ℕ) (k n : ℕ) → AreMapped cells space first (length bytes) → first + length bytes ≤ 2 ^ 64
    → k + n ≤ length bytes → bytes_at (with_bytes_at cells space first bytes) space (first + k) n ≡ take n (drop k bytes)
unfolding bytes_at
bytes-there cells space first bytes k zero mapped ends within = refl
bytes-there cells space first bytes k (suc n) mapped ends within =
    let place : first + k + 1 ≡ first + (k + 1) = omega arith in
    ap₂ (λ (byte : ℕ) rest. byte ∷ rest) (byte-there cells space first bytes k mapped ends (omega arith))
    (ap (λ at. bytes_at (with_bytes_at cells space first bytes) space at n) place ∙ bytes-there cells space first bytes (k + 1) n mapped ends (omega arith))
    ∙ sym (ap (take (suc n)) (drop-item bytes k (omega arith)))

-- the number in the bytes of a number
number32 : (value : ℕ) → value < 2 ^ 32 → little_number 4 (little_bytes 4 value) ≡ value
number32 value small =
    let same : little_number 4 (little_bytes 4 value) ≡ from_le_bytes w32 (to_le_bytes w32 value) = omega arith in
    same ∙ from_le_bytes-to_le_bytes_4 value small

pub number64 : (value : ℕ) → value < 2 ^ 64 → little_number 8 (little_bytes 8 value) ≡ value
number64 value small =
    let same : little_number 8 (little_bytes 8 value) ≡ from_le_bytes w64 (to_le_bytes w64 value) = omega arith in
    same ∙ from_le_bytes-to_le_bytes_8 value small

-- a number that was written to a region is read there
pub value32-there : (cells : Cells) (at value : ℕ) → AreMapped cells Memory at 4 → at + 4 ≤ 2 ^ 64 → value < 2 ^ 32
    → value_at (with_value cells (memory_reach at 32) value) (memory_reach at 32) ≡ value
value32-there cells at value mapped ends small =
    ap (λ first. little_number 4 (bytes_at (with_value cells (memory_reach at 32) value) Memory first 4)) (sym (add-zero at))
    ∙ ap (little_number 4) (bytes-there cells Memory at (little_bytes 4 value) 0 4 mapped ends (omega arith))
    ∙ number32 value small

pub value64-there : (cells : Cells) (at value : ℕ) → AreMapped cells Memory at 8 → at + 8 ≤ 2 ^ 64 → value < 2 ^ 64
    → value_at (with_value cells (memory_reach at 64) value) (memory_reach at 64) ≡ value
value64-there cells at value mapped ends small =
    ap (λ first. little_number 8 (bytes_at (with_value cells (memory_reach at 64) value) Memory first 8)) (sym (add-zero at))
    ∙ ap (little_number 8) (bytes-there cells Memory at (little_bytes 8 value) 0 8 mapped ends (omega arith))
    ∙ number64 value small
