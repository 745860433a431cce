-- Blocks that may be printed.
use Rattle.std.proofs.Common.{◌≡◌, ℕ, zero, suc, List, [], ◌∷◌, take, drop, sym, None}
use Rattle.std.specs.List.{AllByRecursion}
use Rattle.cper_block.specs.Block.{Judges}
use Rattle.cper_block.specs.Reason.{reason_of}
use Rattle.cper_block.proofs.ReasonLemmas.{reason_is_judgement}
use Rattle.ghes_report.specs.Lines.{between}

-- without a reason it is a block
pub sound_judges : (bytes : List ℕ) → reason_of bytes 65536 ≡ None → Judges bytes 65536 None
sound_judges bytes none = reason_is_judgement bytes 65536 None (sym none)

-- what holds of all holds of those between two counts
all_taken : {A : Type 0} (P : A → Type 0) (n : ℕ) (xs : List A) → AllByRecursion P xs → AllByRecursion P (take n xs)
all_taken P zero xs all = tt
all_taken P (suc n) [] all = tt
all_taken P (suc n) (x ∷ xs) all = (all.0, all_taken P n xs all.1)

all_dropped : {A : Type 0} (P : A → Type 0) (n : ℕ) (xs : List A) → AllByRecursion P xs → AllByRecursion P (drop n xs)
all_dropped P zero xs all = all
all_dropped P (suc n) [] all = tt
all_dropped P (suc n) (x ∷ xs) all = all_dropped P n xs all.1

pub all_between : {A : Type 0} (P : A → Type 0) (from to : ℕ) (xs : List A) → AllByRecursion P xs → AllByRecursion P (between from to xs)
all_between P from to xs all = all_taken P _ (drop from xs) (all_dropped P from xs all)
