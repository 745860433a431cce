-- What stood before and what was added.
use Rattle.std.proofs.Common.{◌≡◌, ◌≤◌, ℕ, List, [], ◌++◌, length, take, drop, arith}
use Rattle.std.proofs.lemmas.List.{take-append-le, drop-append-le, take-append-drop, take_all}
use Rattle.std.proofs.Math.ListN.{drop_of_length-le}

-- all bytes stood before
pub all_front : (bytes : List ℕ) (n : ℕ) → n ≡ length bytes → take n bytes ≡ bytes
all_front bytes n is = take_all n bytes (omega arith)

pub none_added : (bytes : List ℕ) (n : ℕ) → n ≡ length bytes → drop n bytes ≡ []
none_added bytes n is = drop_of_length-le bytes (omega arith)

-- one more piece
pub front_kept : (bytes piece : List ℕ) (n : ℕ) → n ≤ length bytes → take n (bytes ++ piece) ≡ take n bytes
front_kept bytes piece n within = take-append-le n bytes piece within

pub piece_added : (bytes piece : List ℕ) (n : ℕ) → n ≤ length bytes → drop n (bytes ++ piece) ≡ drop n bytes ++ piece
piece_added bytes piece n within = drop-append-le n bytes piece within

-- both are all bytes
pub front_and_added : (bytes : List ℕ) (n : ℕ) → take n bytes ++ drop n bytes ≡ bytes
front_and_added bytes n = take-append-drop n bytes
