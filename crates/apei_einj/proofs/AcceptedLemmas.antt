-- A table is accepted where it is its header and its entries, and these can be run.
use Rattle.std.proofs.Common.{◌≡◌, ◌⊎◌, inl, inr, ℕ, ◌*◌, ◌&&◌, nat_le, Bool, true, false, cond, List, [], ◌∷◌, length, drop, codes, refl, ap, ◌∙◌, arith, Option, Some, None, is_none}
use Rattle.std.specs.Option.{IsSome}
use Rattle.std.specs.List.{AllByRecursion}
use Rattle.std.proofs.lemmas.Bool.{le-leb}
use Rattle.std.proofs.lemmas.List.{length-append}
use Rattle.apei_base.proofs.CutLemmas.{cuts_length}
use Rattle.apei_base.proofs.TableLemmas.{refusal_of_table}
use Rattle.apei_base.specs.Cut.{joined}
use Rattle.apei_einj.specs.Anchor.{anchor_of}
use Rattle.apei_einj.specs.Refusal.{lacks, is_missing, first_missing, missing_refusal}
use Rattle.apei_einj.specs.Sound.{einj_pieces, IsEinj, HasAnchors}
use Rattle.apei_einj.specs.Table.{stated_count, has_header_size, einj_entries, einj_refusal, IsRunnable}
use Rattle.apei_einj.specs.declared.entry.Entry.{Entry}
use Rattle.apei_einj.specs.declared.error.EinjError.TheVariants.{HeaderSize, Missing}
use Rattle.apei_einj.proofs.CountLemmas.{count_accepted}
use Rattle.apei_einj.proofs.JudgeLemmas.{judged_by_missing}

-- a test that is not met leaves what follows
passes : {E : Type 0} (b : Bool) (error : E) (later : Option E) → b ≡ false → later ≡ None → cond b (Some error) later ≡ None
passes b error later unmet none = ap (λ c. cond c (Some error) later) unmet ∙ none

header_accepted : (whole sized : Bool) → whole ≡ true → sized ≡ true → cond (whole && sized) None (Some HeaderSize) ≡ None
header_accepted whole sized yes_whole yes_sized = rw (yes_whole, yes_sized)

-- pieces of 32 bytes
joined_length : (pieces : List (List ℕ)) → AllByRecursion (λ piece. length piece ≡ 32) pieces → length (joined pieces) ≡ 32 * length pieces
joined_length [] all = refl
joined_length (piece ∷ pieces) all =
    let size = length-append piece (joined pieces) in
    let later = joined_length pieces all.1 in
    let here = all.0 in
    omega arith

-- the bytes behind the headers are as many as the count says
counted : (bytes : List ℕ) → IsEinj bytes → 32 * stated_count bytes ≡ length (drop 48 bytes)
counted bytes is =
    let size = cuts_length (λ piece. length piece ≡ 32) (drop 48 bytes) (einj_pieces bytes) [] is.cut in
    let pieces = joined_length (einj_pieces bytes) is.cut.each in
    omega (arith, is.as_many)

-- an anchor is not lacking
not_lacking : (found : Option Entry) → IsSome found → is_none found ≡ false
not_lacking (Some entry) e = refl
not_lacking None e = absurd (cc e)

not_both_lacking : (first second : Option Entry) → IsSome first ⊎ IsSome second → (is_none first && is_none second) ≡ false
not_both_lacking (Some entry) second e = refl
not_both_lacking None (Some entry) e = refl
not_both_lacking None None e = elim e [ inl first ↦ absurd (cc first) | inr second ↦ absurd (cc second) ]

also_true : (b : Bool) → b ≡ false → (b && true) ≡ false
also_true b e = ap (λ c. c && true) e

none_missing : (entries : List Entry) → HasAnchors entries → missing_refusal entries ≡ None
unfolding first_missing
none_missing entries has =
    passes (is_missing 1 entries) (Missing 1) _ (also_true (lacks 1 entries) (not_lacking (anchor_of 1 entries) has.get_trigger))
    (passes (is_missing 2 entries) (Missing 2) _ (not_both_lacking (anchor_of 2 entries) (anchor_of 8 entries) has.set_type)
    (passes (is_missing 3 entries) (Missing 3) _ (also_true (lacks 3 entries) (not_lacking (anchor_of 3 entries) has.get_type))
    (passes (is_missing 5 entries) (Missing 5) _ (also_true (lacks 5 entries) (not_lacking (anchor_of 5 entries) has.execute))
    (passes (is_missing 6 entries) (Missing 6) _ (also_true (lacks 6 entries) (not_lacking (anchor_of 6 entries) has.check_busy))
    (passes (is_missing 7 entries) (Missing 7) _ (also_true (lacks 7 entries) (not_lacking (anchor_of 7 entries) has.get_status)) refl)))))

-- a table whose entries can be run
pub accepted_of : (bytes : List ℕ) → IsEinj bytes → AllByRecursion IsRunnable (einj_entries bytes) → HasAnchors (einj_entries bytes) → einj_refusal bytes ≡ None
accepted_of bytes is runnable has =
    judged_by_missing bytes (einj_entries bytes) (refusal_of_table (codes "EINJ") bytes is.table)
    (header_accepted (nat_le 48 (length bytes)) (has_header_size bytes) (le-leb 48 (length bytes) is.whole) is.sized)
    (count_accepted bytes (counted bytes is)) refl runnable
    ∙ none_missing (einj_entries bytes) has
