-- What decides of a table whose header, count and entries are not refused.
use Rattle.std.proofs.Common.{◌≡◌, ℕ, List, [], ◌∷◌, codes, refl, sym, ap, ◌∙◌, Option, None}
use Rattle.std.specs.List.{AllByRecursion}
use Rattle.std.specs.Option.{option_or, option_map}
use Rattle.apei_base.specs.Table.{sdt_refusal}
use Rattle.apei_einj.specs.Refusal.{first_refusal, missing_refusal}
use Rattle.apei_einj.specs.Table.{header_refusal, count_refusal, einj_entries, einj_refusal, IsRunnable}
use Rattle.apei_einj.specs.declared.entry.Entry.{Entry}
use Rattle.apei_einj.specs.declared.error.EinjError.{EinjError}
use Rattle.apei_einj.specs.declared.error.EinjError.TheVariants.{Table}

-- behind four that refuse nothing the fifth decides
all_none : (a b c d last : Option EinjError) → a ≡ None → b ≡ None → c ≡ None → d ≡ None → option_or a (option_or b (option_or c (option_or d last))) ≡ last
all_none a b c d last none_a none_b none_c none_d = rw (none_a, none_b, none_c, none_d)

-- entries that can be run are not refused
pub runnable_accepted : (xs : List Entry) → AllByRecursion IsRunnable xs → first_refusal xs ≡ None
unfolding first_refusal
runnable_accepted [] all = refl
runnable_accepted (x ∷ xs) all = ap (λ o. option_or o (first_refusal xs)) all.0.1 ∙ runnable_accepted xs all.1

-- the actions that are missing decide
pub judged_by_missing : (bytes : List ℕ) (found : List Entry) → sdt_refusal (codes "EINJ") bytes ≡ None → header_refusal bytes ≡ None → count_refusal bytes ≡ None → found ≡ einj_entries bytes → AllByRecursion IsRunnable found → einj_refusal bytes ≡ missing_refusal found
unfolding einj_refusal
judged_by_missing bytes found table header count same runnable =
    all_none (option_map Table (sdt_refusal (codes "EINJ") bytes)) (header_refusal bytes) (count_refusal bytes) (first_refusal (einj_entries bytes)) (missing_refusal (einj_entries bytes))
    (ap (option_map Table) table) header count (ap first_refusal (sym same) ∙ runnable_accepted found runnable)
    ∙ ap missing_refusal (sym same)
