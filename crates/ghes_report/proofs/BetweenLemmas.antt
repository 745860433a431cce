-- Parts of a list that may end before a count does.
use Rattle.std.proofs.Common.{◌≡◌, ℕ, List, length, min, take, drop}
use Rattle.std.proofs.lemmas.List.{drop_min, take_min}

pub dropped_min : {A : Type 0} (n : ℕ) (xs : List A) → drop (min n (length xs)) xs ≡ drop n xs
dropped_min n xs = drop_min n xs

pub taken_min : {A : Type 0} (n : ℕ) (xs : List A) → take (min n (length xs)) xs ≡ take n xs
taken_min n xs = take_min n xs
