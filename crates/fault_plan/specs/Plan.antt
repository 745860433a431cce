-- Calls that are numbered, and which of them are to fail.
use Rattle.std.specs.Prelude.{◌+◌, ◌-◌, ◌^◌, ◌==◌, ◌&&◌, ℕ, Bool, List, [], ◌∷◌, min, nat_lt, nat_le, count_by, if◌then◌else◌}
use Rattle.std.specs.BTreeSet.{insert_key}
use Rattle.std.specs.List.{list_any}
use Rattle.std.specs.Ordering.{nat_cmp}

-- how many calls were made, and the numbers of those that are to fail, each once and in ascending order (own choice)
pub record Calls : Type 0 where
  pub made : ℕ
  pub failing : List ℕ

-- numbers in ascending order with one more, once (own choice)
abbrev pub with_number : List ℕ → ℕ → List ℕ
with_number numbers number = insert_key nat_cmp numbers number

-- numbers in ascending order with all of a list, each once (own choice)
unfoldable pub with_numbers : List ℕ → List ℕ → List ℕ
with_numbers numbers [] = numbers
with_numbers numbers (number ∷ more) = with_numbers (with_number numbers number) more

-- calls of which none is made yet (own choice)
abbrev pub no_calls : List ℕ → Calls
no_calls failing = record { made = 0; failing = with_numbers [] failing }

-- the calls with one more; the count stays at 2 ^ 64 - 1 (own choice)
abbrev pub with_call : Calls → Calls
with_call calls = record { made = min (calls.made + 1) (2 ^ 64 - 1); failing = calls.failing }

-- the calls where one number more is to fail (own choice)
abbrev pub with_failing : ℕ → Calls → Calls
with_failing number calls = record { made = calls.made; failing = with_number calls.failing number }

-- the next call is to fail; numbers begin at 1, and a call after number 2 ^ 64 - 1 has none (own choice)
abbrev pub fails_next : Calls → Bool
fails_next calls = nat_lt calls.made (2 ^ 64 - 1) && list_any (λ number. number == calls.made + 1) calls.failing

-- how many of the failures that are listed have come due; 0 has from the start (own choice)
abbrev pub due : Calls → ℕ
due calls = count_by (λ number. nat_le number calls.made) calls.failing

-- a failure as a number: 1 if there is one (own choice)
abbrev pub one_if : Bool → ℕ
one_if fails = if fails then 1 else 0
