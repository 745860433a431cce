-- Bytes that are added one behind the other.
use Rattle.std.proofs.Common.{◌≡◌, ℕ, List, ◌++◌, ap, ◌∙◌, append_assoc}

-- a part was added to what there was, and a rest behind it: both were
pub adds : (old said rest : List ℕ) {middle new part : List ℕ} → part ≡ said → middle ≡ old ++ part → new ≡ middle ++ rest → new ≡ old ++ (said ++ rest)
adds old said rest same added more =
    more ∙ ap (λ bytes. bytes ++ rest) (added ∙ ap (λ bytes. old ++ bytes) same) ∙ append_assoc old said rest
