-- What a reader up to a limit gave, against all that the reader under it has.
use Rattle.std.proofs.Common.{◌≡◌, ℕ, ◌<◌, List, [], ◌++◌, length, take, arith, Option, Some, None, IfSome}
use Rattle.std.proofs.lemmas.List.{take_all, length-take}
use Rattle.std.specs.Option.{option_map}
use Rattle.ghes_outside.specs.Outside.{Agrees}

-- fewer bytes than the limit are all of them: take 3 of "ab" is "ab"
all_taken : (xs bytes : List ℕ) (most : ℕ) → bytes ≡ take most xs → length bytes < most → bytes ≡ xs
all_taken xs bytes most same short = grind (arith, take_all, length-take {A = ℕ})

-- the same, where what the reader has may not be told
pub whole_below : (told : Option (List ℕ)) (most : ℕ) (old bytes : List ℕ) → old ≡ [] → IfSome (option_map (take most) told) (λ xs. bytes ≡ old ++ xs) → length bytes < most → Agrees told bytes
whole_below None most old bytes empty gave short = tt
whole_below (Some xs) most old bytes empty gave short = all_taken xs bytes most (rw empty at gave) short
