-- An entry's header is read from its own bytes, whatever follows.
use Rattle.std.proofs.Common.{◌≡◌, ◌≤◌, ℕ, zero, suc, ◌+◌, ◌*◌, ◌/◌, Bool, true, false, cond, leb, List, ◌++◌, length, drop, get_or, refl, ap, ◌∙◌, arith}
use Rattle.std.proofs.lemmas.List.{length-drop, get_or_append_left, drop-append-le}
use Rattle.byteorder.specs.Endian.{little_from, little_number}
use Rattle.apei_base.specs.Number.{number_at}
use Rattle.cper_block.specs.Entry.{entry_header_length, section_length, entry_length}

-- a number that lies in the front
little_from-append : (i n : ℕ) (xs ys : List ℕ) → i + n ≤ length xs → little_from i n (xs ++ ys) ≡ little_from i n xs
little_from-append i zero xs ys within = refl
little_from-append i (suc n) xs ys within =
    ap (λ b. b + 256 * little_from (suc i) n (xs ++ ys)) (get_or_append_left xs ys 0 i (omega arith))
    ∙ ap (λ m. get_or xs i 0 + 256 * m) (little_from-append (suc i) n xs ys (omega arith))

pub number_at-append : (offset n : ℕ) (xs ys : List ℕ) → offset + n ≤ length xs → number_at offset n (xs ++ ys) ≡ number_at offset n xs
number_at-append offset n xs ys within =
    let le : offset ≤ length xs = omega arith in
    ap (little_number n) (drop-append-le offset xs ys le)
    ∙ little_from-append 0 n (drop offset xs) ys (omega (arith, length-drop offset xs))

pub entry_header_length-append : (xs ys : List ℕ) → 64 ≤ length xs → entry_header_length (xs ++ ys) ≡ entry_header_length xs
entry_header_length-append xs ys long = ap (λ revision. cond (leb 3 (revision / 256)) 72 64) (number_at-append 20 2 xs ys (omega arith))

pub entry_length-append : (xs ys : List ℕ) → 64 ≤ length xs → entry_length (xs ++ ys) ≡ entry_length xs
entry_length-append xs ys long =
    ap (λ h. h + section_length (xs ++ ys)) (entry_header_length-append xs ys long)
    ∙ ap (λ s. entry_header_length xs + s) (number_at-append 24 4 xs ys (omega arith))

-- an entry has a header's bytes at least
header_at_least : (b : Bool) → 64 ≤ cond b 72 64
header_at_least true = omega arith
header_at_least false = omega arith

pub entry_at_least : (bytes : List ℕ) → 64 ≤ entry_length bytes
entry_at_least bytes =
    let header : 64 ≤ entry_header_length bytes = header_at_least (leb 3 (number_at 20 2 bytes / 256)) in
    omega arith
