-- One number more is named at most.
use Rattle.std.proofs.Common.{◌≡◌, ◌≤◌, ◌+◌, ℕ, List, [], ◌∷◌, length, Result, Ok, Err, OnOk, OnErr, ap, arith}
use Rattle.std.specs.Ordering.{nat_cmp, match_ordering}
use Rattle.std.specs.declared.cmp.Ordering.{Ordering}
use Rattle.std.specs.declared.cmp.Ordering.TheVariants.{Less, Equal, Greater}
use Rattle.fault_plan.specs.Plan.{Calls, with_number, with_failing}

-- one number more before another one, in its place, or behind it
placed : (o : Ordering) (number x : ℕ) (xs more : List ℕ) → length more ≤ length xs + 1 → length (match_ordering o (number ∷ x ∷ xs) (x ∷ xs) (x ∷ more)) ≤ length (x ∷ xs) + 1
placed Less number x xs more le = omega arith
placed Equal number x xs more le = omega arith
placed Greater number x xs more le = omega (arith, le)

length-with_number : (number : ℕ) (numbers : List ℕ) → length (with_number numbers number) ≤ length numbers + 1
length-with_number number [] = omega arith
length-with_number number (x ∷ xs) = placed (nat_cmp number x) number x xs (with_number xs number) (length-with_number number xs)

-- whether it was named or there was no memory for it
pub named_more : {T E : Type 0} (result : Result T E) (number : ℕ) (old new : Calls) → OnOk result (new ≡ with_failing number old) → OnErr result (new ≡ old) → length new.failing ≤ length old.failing + 1
named_more (Ok value) number old new ok err =
    let same = ap (λ (calls : Calls). length calls.failing) ok in omega (arith, same, length-with_number number old.failing)
named_more (Err error) number old new ok err =
    let same = ap (λ (calls : Calls). length calls.failing) err in omega (arith, same)
