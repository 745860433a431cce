-- A field is read from the bytes up to its end.
use Rattle.std.proofs.Common.{◌≡◌, ◌≤◌, ℕ, ◌+◌, cond, leb, eqb, ◌&&◌, List, ◌++◌, length, take, drop, sym, ap, ◌∙◌, arith, Some, None}
use Rattle.std.specs.Int.{bit_at}
use Rattle.std.specs.List.{before_first}
use Rattle.std.specs.Option.{option_map}
use Rattle.std.proofs.lemmas.Bool.{le-leb}
use Rattle.std.proofs.lemmas.List.{length-append, length-drop, drop-append-le, take-append-le}
use Rattle.byteorder.specs.Endian.{little_number}
use Rattle.byteorder.specs.Numbers.{little_from-append}
use Rattle.apei_base.specs.Number.{number_at}
use Rattle.cper_sections.specs.Field.{Field, end_of, is_valid, is_given, number_of, bytes_of, text_of}

-- a number that lies in the front
number_at-append : (offset n : ℕ) (xs ys : List ℕ) → offset + n ≤ length xs → number_at offset n (xs ++ ys) ≡ number_at offset n xs
number_at-append offset n xs ys within =
    let le : offset ≤ length xs = omega arith in
    ap (little_number n) (drop-append-le offset xs ys le)
    ∙ little_from-append n (drop offset xs) ys (omega (arith, length-drop offset xs))

-- bytes that lie in the front
take_drop-append : (offset n : ℕ) (xs ys : List ℕ) → offset + n ≤ length xs → take n (drop offset (xs ++ ys)) ≡ take n (drop offset xs)
take_drop-append offset n xs ys within =
    let le : offset ≤ length xs = omega arith in
    ap (take n) (drop-append-le offset xs ys le) ∙ take-append-le n (drop offset xs) ys (omega (arith, length-drop offset xs))

-- whether a field in the front is given
is_given-append : (field : Field) (xs ys : List ℕ) → 8 ≤ length xs → end_of field ≤ length xs → is_given field.bit field.at field.width (xs ++ ys) ≡ is_given field.bit field.at field.width xs
is_given-append field xs ys validation within =
    let longer : end_of field ≤ length (xs ++ ys) = omega (arith, length-append xs ys) in
    ap (λ n. eqb (bit_at n field.bit) 1 && leb (end_of field) (length (xs ++ ys))) (number_at-append 0 8 xs ys validation)
    ∙ ap (λ b. is_valid field.bit xs && b) (le-leb (end_of field) (length (xs ++ ys)) longer ∙ sym (le-leb (end_of field) (length xs) within))

-- what a field in the front says: as a number, as bytes and as a text
pub number_of-append : (field : Field) (xs ys : List ℕ) → 8 ≤ length xs → end_of field ≤ length xs → number_of field (xs ++ ys) ≡ number_of field xs
number_of-append field xs ys validation within =
    ap (λ b. cond b (Some (number_at field.at field.width (xs ++ ys))) None) (is_given-append field xs ys validation within)
    ∙ ap (λ n. cond (is_given field.bit field.at field.width xs) (Some n) None) (number_at-append field.at field.width xs ys within)

pub bytes_of-append : (field : Field) (xs ys : List ℕ) → 8 ≤ length xs → end_of field ≤ length xs → bytes_of field (xs ++ ys) ≡ bytes_of field xs
bytes_of-append field xs ys validation within =
    ap (λ b. cond b (Some (take field.width (drop field.at (xs ++ ys)))) None) (is_given-append field xs ys validation within)
    ∙ ap (λ part. cond (is_given field.bit field.at field.width xs) (Some part) None) (take_drop-append field.at field.width xs ys within)

pub text_of-append : (field : Field) (xs ys : List ℕ) → 8 ≤ length xs → end_of field ≤ length xs → text_of field (xs ++ ys) ≡ text_of field xs
text_of-append field xs ys validation within = ap (option_map (before_first (λ byte. eqb byte 0))) (bytes_of-append field xs ys validation within)
