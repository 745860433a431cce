-- Lines of sources, one source after another.
use Rattle.std.proofs.Common.{◌≡◌, ◌+◌, ℕ, zero, suc, List, ◌++◌, sym, ap, ◌∙◌, append-nil, append_assoc, zero-add, add-one, arith}
use Rattle.std.specs.List.{flat_map, range_with_len}

-- one more number behind those from a on
more_from : (f : ℕ → List ℕ) (a n : ℕ) → flat_map f (range_with_len a (suc n)) ≡ flat_map f (range_with_len a n) ++ f (a + n)
more_from f a zero =
    let same : a ≡ a + 0 = omega arith in
    append-nil (f a) ∙ ap f same
more_from f a (suc n) =
    let next : (a + 1) + n ≡ a + suc n = omega arith in
    ap (λ xs. f a ++ xs) (more_from f (a + 1) n ∙ ap (λ m. flat_map f (range_with_len (a + 1) n) ++ f m) next)
    ∙ sym (append_assoc (f a) (flat_map f (range_with_len (a + 1) n)) (f (a + suc n)))

-- and behind those from 0 on
pub sources_more : (f : ℕ → List ℕ) (n : ℕ) → flat_map f (range_with_len 0 (n + 1)) ≡ flat_map f (range_with_len 0 n) ++ f n
sources_more f n =
    ap (λ m. flat_map f (range_with_len 0 m)) (add-one n) ∙ more_from f 0 n ∙ ap (λ m. flat_map f (range_with_len 0 n) ++ f m) (zero-add n)
