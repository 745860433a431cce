-- One call more brings due what is listed at its number, and one number more takes nothing away.
use Rattle.std.proofs.Common.{◌≡◌, ◌≤◌, ◌+◌, ◌==◌, ◌||◌, ℕ, ◌<◌, Bool, cond, List, [], ◌∷◌, length, drop, get_or, arith, refl, sym, ap, ◌∙◌, add-one, nat_le, count_by}
use Rattle.std.proofs.Math.Seq.{drop-cons}
use Rattle.std.proofs.lemmas.Bool.Decides.{nat_tests}
use Rattle.std.proofs.lemmas.List.{at_drop_all}
use Rattle.std.proofs.lemmas.List.Sums.{sum_by-cons}
use Rattle.std.specs.BTreeMap.{is_at}
use Rattle.std.specs.List.{list_any}
use Rattle.std.specs.Ordering.{nat_cmp, match_ordering}
use Rattle.std.specs.declared.cmp.Ordering.{Ordering}
use Rattle.std.specs.declared.cmp.Ordering.TheVariants.{Less, Equal, Greater}
use Rattle.fault_plan.specs.Plan.{one_if, with_number, with_numbers}

-- one number more in the list
due_step : (made x before now : ℕ) (any : Bool) → before + one_if any ≤ now → cond (nat_le x made) 1 0 + before + one_if ((x == made + 1) || any) ≤ cond (nat_le x (made + 1)) 1 0 + now
due_step made x before now any rest = grind arith

-- of 1, 3 none is due after 0 calls, one after 1, and both after 3
due_more : (made : ℕ) (failing : List ℕ) → count_by (λ number. nat_le number made) failing + one_if (list_any (λ number. number == made + 1) failing) ≤ count_by (λ number. nat_le number (made + 1)) failing
due_more made [] = omega arith
due_more made (x ∷ xs) =
    rw (sum_by-cons (λ number. cond (nat_le number made) 1 0) x xs, sum_by-cons (λ number. cond (nat_le number (made + 1)) 1 0) x xs) (due_step made x _ _ _ (due_more made xs))

-- a search in an ordered set finds what is equal
at_equal : (number x : ℕ) → is_at (nat_cmp number) x ≡ (x == number)
at_equal number x = grind (arith, nat_tests)

pub found_equal : (number : ℕ) (failing : List ℕ) → list_any (is_at (nat_cmp number)) failing ≡ list_any (λ x. x == number) failing
found_equal number [] = refl
found_equal number (x ∷ xs) = cc (at_equal number x, found_equal number xs)

-- by the number of the call and whether it is listed
pub due_next : (made number : ℕ) (fails : Bool) (failing : List ℕ) → number ≡ made + 1 → fails ≡ list_any (λ each. each == number) failing → count_by (λ each. nat_le each made) failing + one_if fails ≤ count_by (λ each. nat_le each number) failing
due_next made number fails failing is listed = rw (listed, is) (due_more made failing)

-- one number more before another one, in its place, or behind it
due_placed : (o : Ordering) (p : ℕ → Bool) (number x : ℕ) (xs more : List ℕ) → count_by p xs ≤ count_by p more → count_by p (x ∷ xs) ≤ count_by p (match_ordering o (number ∷ x ∷ xs) (x ∷ xs) (x ∷ more))
due_placed Less p number x xs more le = rw (sum_by-cons (λ n. cond (p n) 1 0) number (x ∷ xs)) (omega arith)
due_placed Equal p number x xs more le = omega arith
due_placed Greater p number x xs more le = rw (sum_by-cons (λ n. cond (p n) 1 0) x xs, sum_by-cons (λ n. cond (p n) 1 0) x more) (omega arith)

-- as many as before are due with one number more, or more
pub due_added : (made number : ℕ) (failing : List ℕ) → count_by (λ each. nat_le each made) failing ≤ count_by (λ each. nat_le each made) (with_number failing number)
due_added made number [] = omega arith
due_added made number (x ∷ xs) = due_placed (nat_cmp number x) (λ each. nat_le each made) number x xs (with_number xs number) (due_added made number xs)

-- all of a list from an index on: the one that stands there, and those behind it
pub with_numbers-more : (numbers list : List ℕ) (i default : ℕ) → i < length list → with_numbers numbers (drop i list) ≡ with_numbers (with_number numbers (get_or list i default)) (drop (i + 1) list)
unfolding with_numbers
with_numbers-more numbers list i default within = ap (with_numbers numbers) (drop-cons list i default within) ∙ ap (λ n. with_numbers (with_number numbers (get_or list i default)) (drop n list)) (sym (add-one i))

-- no number is left at the end of the list
pub with_numbers-all : (numbers list : List ℕ) (i : ℕ) → length list ≤ i → with_numbers numbers (drop i list) ≡ numbers
unfolding with_numbers
with_numbers-all numbers list i past = at_drop_all (with_numbers numbers) list i past
