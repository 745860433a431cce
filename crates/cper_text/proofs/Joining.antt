-- Texts that are joined from the one side or from the other.
use Rattle.std.proofs.Common.{◌≡◌, ℕ, List, ◌++◌, ap, ◌∙◌, append_assoc}

pub grouped : (front middle back : List ℕ) → (front ++ middle) ++ back ≡ front ++ (middle ++ back)
grouped = append_assoc

-- four pieces that are added one after another
pub four_pieces : (old a b c d : List ℕ) → (((old ++ a) ++ b) ++ c) ++ d ≡ old ++ (((a ++ b) ++ c) ++ d)
four_pieces old a b c d =
    ap (λ xs. xs ++ d) (ap (λ xs. xs ++ c) (append_assoc old a b) ∙ append_assoc old (a ++ b) c)
    ∙ append_assoc old ((a ++ b) ++ c) d
