-- How a run ends that is no replay: it has no ledger, and fewer statuses.
use Rattle.std.proofs.Common.{◌≡◌, ◌∙◌, ◌⊎◌, ℕ, List, [], ◌∷◌, ◌++◌, codes, Option, Some, None, inl, inr, refl, sym, ap, subst}
use Rattle.std.specs.Prelude.{IsTrue}
use Rattle.ghes_outside.specs.Outside.{FilesSeen, SinkSeen}
use Rattle.ghes_replay.specs.declared.exit.InputFile.{InputFile}
use Rattle.ghes_replay.specs.declared.exit.InputFile.TheVariants as files
use Rattle.ghes_replay.specs.declared.exit.Refusal.{Refusal}
use Rattle.ghes_replay.specs.declared.exit.Refusal.TheVariants as refusals
use Rattle.ghes_replay.specs.declared.putting.End.{End}
use Rattle.ghes_replay.specs.Done.{TaskCause, done_status}
use Rattle.ghes_ledger.specs.Kept.{Kept}
use Rattle.ghes_replay.specs.Hearing.{Hearing, Untold, IsHeard, closing_of}
use Rattle.ghes_replay.specs.Loading.{LoadCause, HestCause, EinjCause}
use Rattle.ghes_replay.specs.Refusal.{status_of, line_of, refused_name}
use Rattle.ghes_replay.specs.Run.{EndsBy, EndsTask, WasPut, bare_end, done_end, is_check_status, is_decode_status}
use Rattle.ghes_replay.specs.Seen.{Outside}
use Rattle.ghes_replay.specs.Task.{Check, Decode}

no_ledger : (ledger : Option Kept) (kept : Kept) → ledger ≡ None → ledger ≡ Some kept → ⊥
no_ledger ledger kept none some = none_some (sym none ∙ some)
  where
    none_some : None ≡ Some kept → ⊥
    none_some e = cc

without : (ledger : Option Kept) (hearing : Hearing) → ledger ≡ None → IsHeard ledger hearing → hearing ≡ Untold
without ledger hearing none heard =
    let P : Option Kept → Type 0 = λ l. IsHeard l hearing in
    subst P none heard

-- nobody is told of a listing, or of the text of a block
check_untold : (hest einj : List ℕ) (before after : Outside) (hearing : Hearing) (end : End) → EndsTask (Check hest einj) before after hearing end → hearing ≡ Untold
check_untold hest einj before after hearing end (inl (done, (none, checked), unfailed, heard, put)) = without done.ledger hearing none heard
check_untold hest einj before after hearing end (inr (inl (refusal, cause, counted, untold, put))) = untold
check_untold hest einj before after hearing end (inr (inr (done, (none, checked), unfailed, (kept, some, short), put))) = absurd (no_ledger done.ledger kept none some)

decode_untold : (block : List ℕ) (before after : Outside) (hearing : Hearing) (end : End) → EndsTask (Decode block) before after hearing end → hearing ≡ Untold
decode_untold block before after hearing end (inl (done, (none, decoded), unfailed, heard, put)) = without done.ledger hearing none heard
decode_untold block before after hearing end (inr (inl (refusal, cause, counted, untold, put))) = untold
decode_untold block before after hearing end (inr (inr (done, (none, decoded), unfailed, (kept, some, short), put))) = absurd (no_ledger done.ledger kept none some)

-- a listing, and the text of a block, have no ledger
check_bare : (hest einj : List ℕ) (before after : Outside) (hearing : Hearing) (end : End) → EndsTask (Check hest einj) before after hearing end → EndsTask (Check hest einj) before after hearing (bare_end end.status)
check_bare hest einj before after hearing end (inl (done, (none, checked), unfailed, heard, (same, put))) = inl (done, (none, checked), unfailed, heard, (sym none, put))
check_bare hest einj before after hearing end (inr (inl (refusal, cause, counted, untold, (same, put)))) = inr (inl (refusal, cause, counted, untold, (refl, put)))
check_bare hest einj before after hearing end (inr (inr (done, is, unfailed, short, (same, put)))) = inr (inr (done, is, unfailed, short, (refl, put)))

decode_bare : (block : List ℕ) (before after : Outside) (hearing : Hearing) (end : End) → EndsTask (Decode block) before after hearing end → EndsTask (Decode block) before after hearing (bare_end end.status)
decode_bare block before after hearing end (inl (done, (none, decoded), unfailed, heard, (same, put))) = inl (done, (none, decoded), unfailed, heard, (sym none, put))
decode_bare block before after hearing end (inr (inl (refusal, cause, counted, untold, (same, put)))) = inr (inl (refusal, cause, counted, untold, (refl, put)))
decode_bare block before after hearing end (inr (inr (done, is, unfailed, short, (same, put)))) = inr (inr (done, is, unfailed, short, (refl, put)))

pub check_ends : (hest einj : List ℕ) (before after : Outside) (hearing : Hearing) (end : End) → EndsTask (Check hest einj) before after hearing end → EndsBy (codes "check" ∷ hest ∷ einj ∷ []) before after Untold (bare_end end.status)
check_ends hest einj before after hearing end ends =
    let P : Hearing → Type 0 = λ h. EndsTask (Check hest einj) before after h (bare_end end.status) in
    inl (Check hest einj, refl, subst P (check_untold hest einj before after hearing end ends) (check_bare hest einj before after hearing end ends))

pub decode_ends : (block : List ℕ) (before after : Outside) (hearing : Hearing) (end : End) → EndsTask (Decode block) before after hearing end → EndsBy (codes "decode" ∷ block ∷ []) before after Untold (bare_end end.status)
decode_ends block before after hearing end ends =
    let P : Hearing → Type 0 = λ h. EndsTask (Decode block) before after h (bare_end end.status) in
    inl (Decode block, refl, subst P (decode_untold block before after hearing end ends) (decode_bare block before after hearing end ends))

-- a file is not loaded with status 5, or memory ran out
load_status : (before after : FilesSeen) (file : InputFile) (name : List ℕ) (refusal : Refusal) → LoadCause before after file name refusal → (status_of refusal ≡ 5) ⊎ (status_of refusal ≡ 7)
load_status before after file name (refusals.Load which why) cause = inl refl
load_status before after file name refusals.OutOfMemory cause = inr refl
load_status before after file name other cause = absurd cause

abbrev IsOfCheck : Refusal → Type 0
IsOfCheck refusal = IsTrue (is_check_status (status_of refusal))

check_at : (expected status : ℕ) → IsTrue (is_check_status expected) → status ≡ expected → IsTrue (is_check_status status)
check_at expected status is same =
    let P : ℕ → Type 0 = λ s. IsTrue (is_check_status s) in
    subst P (sym same) is

check_of_load : (refusal : Refusal) → (status_of refusal ≡ 5) ⊎ (status_of refusal ≡ 7) → IsOfCheck refusal
check_of_load refusal which = elim which [ inl five ↦ check_at 5 _ refl five | inr seven ↦ check_at 7 _ refl seven ]

check_of_hest : (before after : FilesSeen) (hest : List ℕ) (refusal : Refusal) → HestCause before after hest refusal → IsOfCheck refusal
check_of_hest before after hest (refusals.Hest error) cause = refl
check_of_hest before after hest other cause = check_of_load other (load_status before after files.Hest hest other cause)

check_of_einj : (before after : FilesSeen) (einj : List ℕ) (refusal : Refusal) → EinjCause before after einj refusal → IsOfCheck refusal
check_of_einj before after einj (refusals.Einj error) cause = refl
check_of_einj before after einj other cause = check_of_load other (load_status before after files.Einj einj other cause)

check_refused : (before after : FilesSeen) (hest einj : List ℕ) (refusal : Refusal) → TaskCause before after (Check hest einj) refusal → IsOfCheck refusal
check_refused before after hest einj refusal (inl cause) = check_of_hest before after hest refusal cause
check_refused before after hest einj refusal (inr (found, has, named, cause)) = check_of_einj before after einj refusal cause

check_put : (before after : SinkSeen) (text : List ℕ) (wanted end : End) → IsTrue (is_check_status wanted.status) → WasPut before after text wanted end → IsTrue (is_check_status end.status)
check_put before after text wanted end is (same, inl whole) = check_at wanted.status end.status is whole.0
check_put before after text wanted end is (same, inr cut) = check_at 6 end.status refl cut.0

-- the statuses of a listing
pub check_statuses : (hest einj : List ℕ) (before after : Outside) (hearing : Hearing) (end : End) → EndsTask (Check hest einj) before after hearing end → IsTrue (is_check_status end.status)
check_statuses hest einj before after hearing end (inl (done, (none, checked), unfailed, heard, put)) =
    check_put before.out after.out (done.text ++ closing_of hearing) (done_end done.ledger) end (check_at 0 (done_status done.ledger) refl (ap done_status none)) put
check_statuses hest einj before after hearing end (inr (inr (done, is, unfailed, short, put))) = check_put before.out after.out (line_of [] refusals.HandlerMemory) (bare_end 7) end refl put
check_statuses hest einj before after hearing end (inr (inl (refusal, cause, counted, untold, put))) =
    check_put before.out after.out (line_of (refused_name (Check hest einj) refusal) refusal) (bare_end (status_of refusal)) end
    (check_refused before.files after.files hest einj refusal cause) put

decode_at : (expected status : ℕ) → IsTrue (is_decode_status expected) → status ≡ expected → IsTrue (is_decode_status status)
decode_at expected status is same =
    let P : ℕ → Type 0 = λ s. IsTrue (is_decode_status s) in
    subst P (sym same) is

decode_put : (before after : SinkSeen) (text : List ℕ) (wanted end : End) → IsTrue (is_decode_status wanted.status) → WasPut before after text wanted end → IsTrue (is_decode_status end.status)
decode_put before after text wanted end is (same, inl whole) = decode_at wanted.status end.status is whole.0
decode_put before after text wanted end is (same, inr cut) = decode_at 6 end.status refl cut.0

decode_of_load : (refusal : Refusal) → (status_of refusal ≡ 5) ⊎ (status_of refusal ≡ 7) → IsTrue (is_decode_status (status_of refusal))
decode_of_load refusal which = elim which [ inl five ↦ decode_at 5 _ refl five | inr seven ↦ decode_at 7 _ refl seven ]

-- the statuses of a block's text
pub decode_statuses : (block : List ℕ) (before after : Outside) (hearing : Hearing) (end : End) → EndsTask (Decode block) before after hearing end → IsTrue (is_decode_status end.status)
decode_statuses block before after hearing end (inl (done, (none, decoded), unfailed, heard, put)) =
    decode_put before.out after.out (done.text ++ closing_of hearing) (done_end done.ledger) end (decode_at 0 (done_status done.ledger) refl (ap done_status none)) put
decode_statuses block before after hearing end (inr (inr (done, is, unfailed, short, put))) = decode_put before.out after.out (line_of [] refusals.HandlerMemory) (bare_end 7) end refl put
decode_statuses block before after hearing end (inr (inl (refusal, cause, counted, untold, put))) =
    decode_put before.out after.out (line_of (refused_name (Decode block) refusal) refusal) (bare_end (status_of refusal)) end
    (decode_of_load refusal (load_status before.files after.files files.Block block refusal cause)) put
