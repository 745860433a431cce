-- A structure's length is read from its own bytes, whatever follows.
use Rattle.std.proofs.Common.{◌≡◌, ◌≤◌, ◌<◌, ℕ, ◌+◌, ◌*◌, ◌==◌, Bool, true, false, cond, List, ◌++◌, length, take, drop, slice_index, refl, sym, ap, ◌∙◌, arith, Option, Some, None, unwrap_or}
use Rattle.std.proofs.lemmas.List.{length-take-le, get_or_append_left, take-append-drop, take_at}
use Rattle.byteorder.specs.Numbers.{little_from-append}
use Rattle.apei_hest.specs.Structure.{type_of, structure_length, IsStructure, structure_at}

-- the length by the type, with the bank counts at 32 and 44
unfoldable by_type : ℕ → ℕ → ℕ → Option ℕ
by_type kind at_32 at_44 =
    cond (kind == 0) (Some (40 + 28 * at_32)) (cond (kind == 1) (Some (48 + 28 * at_44)) (cond (kind == 2) (Some 20) (cond (kind == 6) (Some 48) (cond (kind == 7) (Some 44) (cond (kind == 8) (Some 56) (cond (kind == 9) (Some 64) (cond (kind == 10) (Some 92) (cond (kind == 11) (Some (48 + 28 * at_44)) None))))))))

structure_length-by_type : (bytes : List ℕ) → structure_length bytes ≡ by_type (type_of bytes) (slice_index bytes 32) (slice_index bytes 44)
unfolding structure_length by_type
structure_length-by_type bytes = refl

-- one type's length, or a later one's, is at least 20
one_at_least : (b : Bool) (n m : ℕ) (later : Option ℕ) → 20 ≤ n → (later ≡ Some m → 20 ≤ m) → cond b (Some n) later ≡ Some m → 20 ≤ m
one_at_least true n m later long other e = let same : n ≡ m = cc in omega arith
one_at_least false n m later long other e = other e

by_type_at_least : (kind at_32 at_44 m : ℕ) → by_type kind at_32 at_44 ≡ Some m → 20 ≤ m
unfolding by_type
by_type_at_least kind at_32 at_44 m =
    one_at_least (kind == 0) (40 + 28 * at_32) m _ (omega arith) (one_at_least (kind == 1) (48 + 28 * at_44) m _ (omega arith)
    (one_at_least (kind == 2) 20 m _ (omega arith) (one_at_least (kind == 6) 48 m _ (omega arith) (one_at_least (kind == 7) 44 m _ (omega arith)
    (one_at_least (kind == 8) 56 m _ (omega arith) (one_at_least (kind == 9) 64 m _ (omega arith) (one_at_least (kind == 10) 92 m _ (omega arith)
    (one_at_least (kind == 11) (48 + 28 * at_44) m _ (omega arith) (λ e. absurd cc)))))))))

-- a structure has 20 bytes at least
pub structure_at_least : (bytes : List ℕ) (m : ℕ) → structure_length bytes ≡ Some m → 20 ≤ m
structure_at_least bytes m e = by_type_at_least (type_of bytes) (slice_index bytes 32) (slice_index bytes 44) m (sym (structure_length-by_type bytes) ∙ e)

-- a length of one type, or of a later one, that stays where what it reads stays
one_same : (b : Bool) (n n' m : ℕ) (later later' : Option ℕ) → (n ≡ m → n' ≡ m) → (later ≡ Some m → later' ≡ Some m) → cond b (Some n) later ≡ Some m → cond b (Some n') later' ≡ Some m
one_same true n n' m later later' here other e = let same : n ≡ m = cc in ap Some (here same)
one_same false n n' m later later' here other e = other e

by_type_same : (kind a b a' b' m : ℕ) → (32 < m → a ≡ a') → (44 < m → b ≡ b') → by_type kind a b ≡ Some m → by_type kind a' b' ≡ Some m
unfolding by_type
by_type_same kind a b a' b' m same_a same_b =
    let banks_a : 40 + 28 * a ≡ m → 40 + 28 * a' ≡ m = λ e. let same : a ≡ a' = same_a (omega arith) in omega arith in
    let banks_b : 48 + 28 * b ≡ m → 48 + 28 * b' ≡ m = λ e. let same : b ≡ b' = same_b (omega arith) in omega arith in
    one_same (kind == 0) (40 + 28 * a) (40 + 28 * a') m _ _ banks_a (one_same (kind == 1) (48 + 28 * b) (48 + 28 * b') m _ _ banks_b
    (one_same (kind == 2) 20 20 m _ _ (λ e. e) (one_same (kind == 6) 48 48 m _ _ (λ e. e) (one_same (kind == 7) 44 44 m _ _ (λ e. e)
    (one_same (kind == 8) 56 56 m _ _ (λ e. e) (one_same (kind == 9) 64 64 m _ _ (λ e. e) (one_same (kind == 10) 92 92 m _ _ (λ e. e)
    (one_same (kind == 11) (48 + 28 * b) (48 + 28 * b') m _ _ banks_b (λ e. e)))))))))

-- bytes of one type that agree up to a length have this length alike
structure_length-same : (xs ys : List ℕ) (m : ℕ) → type_of xs ≡ type_of ys → ((i : ℕ) → i < m → slice_index xs i ≡ slice_index ys i) → structure_length xs ≡ Some m → structure_length ys ≡ Some m
structure_length-same xs ys m same_type same e =
    structure_length-by_type ys
    ∙ by_type_same (type_of ys) (slice_index xs 32) (slice_index xs 44) (slice_index ys 32) (slice_index ys 44) m (same 32) (same 44)
    (ap (λ kind. by_type kind (slice_index xs 32) (slice_index xs 44)) (sym same_type) ∙ sym (structure_length-by_type xs) ∙ e)

type_of-append : (xs ys : List ℕ) → 20 ≤ length xs → type_of (xs ++ ys) ≡ type_of xs
type_of-append xs ys long = little_from-append 2 xs ys (omega arith)

-- a structure keeps its length before other bytes
pub structure_length-append : (xs ys : List ℕ) → IsStructure xs → structure_length (xs ++ ys) ≡ Some (length xs)
structure_length-append xs ys is =
    structure_length-same xs (xs ++ ys) (length xs) (sym (type_of-append xs ys (structure_at_least xs (length xs) is)))
    (λ i below. sym (get_or_append_left xs ys 0 i below)) is

-- what begins bytes and has the length of the structure there is one
is_structure_from : (xs ys : List ℕ) → structure_length (xs ++ ys) ≡ Some (length xs) → IsStructure xs
is_structure_from xs ys e =
    structure_length-same (xs ++ ys) xs (length xs) (type_of-append xs ys (structure_at_least (xs ++ ys) (length xs) e))
    (λ i below. get_or_append_left xs ys 0 i below) e

-- the front of bytes that begin with a structure is one
pub front_is_structure : (bytes : List ℕ) (n : ℕ) → structure_length bytes ≡ Some n → n ≤ length bytes → IsStructure (take n bytes)
front_is_structure bytes n e within =
    is_structure_from (take n bytes) (drop n bytes) (ap structure_length (take-append-drop n bytes) ∙ e ∙ ap Some (sym (length-take-le n bytes within)))

-- the structure at the front of bytes
pub structure_at-append : (xs ys : List ℕ) → IsStructure xs → structure_at (xs ++ ys) ≡ xs
structure_at-append xs ys is =
    ap (λ n. take (unwrap_or n 0) (xs ++ ys)) (structure_length-append xs ys is) ∙ take_at xs ys (length xs) refl

-- a structure of type 9 has 64 bytes
pub length_of_9 : (bytes : List ℕ) → IsStructure bytes → type_of bytes ≡ 9 → length bytes ≡ 64
unfolding by_type
length_of_9 bytes is kind =
    let e : Some 64 ≡ Some (length bytes) =
    sym (ap (λ kind. by_type kind (slice_index bytes 32) (slice_index bytes 44)) kind) ∙ sym (structure_length-by_type bytes) ∙ is in
    cc

-- a structure of type 10 has 92 bytes
pub length_of_10 : (bytes : List ℕ) → IsStructure bytes → type_of bytes ≡ 10 → length bytes ≡ 92
unfolding by_type
length_of_10 bytes is kind =
    let e : Some 92 ≡ Some (length bytes) =
    sym (ap (λ kind. by_type kind (slice_index bytes 32) (slice_index bytes 44)) kind) ∙ sym (structure_length-by_type bytes) ∙ is in
    cc
