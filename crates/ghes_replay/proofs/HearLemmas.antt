-- What handlers are told behind a run, and what their ends say of them.
use Rattle.std.proofs.Common.{◌≡◌, ◌∙◌, List, ℕ, [], ◌++◌, length, refl, sym, ap, subst, inl, inr, append-nil, Option, Some, None, OnOk, IfErr}
use Rattle.std.specs.Prelude.{Result, Ok, Err, ⊤}
use Rattle.ghes_handlers.specs.Closing.{closing_texts}
use Rattle.ghes_handlers.specs.Deliveries.{deliveries_of}
use Rattle.ghes_ledger.specs.Kept.{Kept}
use Rattle.ghes_notify.specs.Delivery.{Delivery}
use Rattle.ghes_notify.specs.declared.handler.Verdict.{Verdict}
use Rattle.ghes_outside.specs.Outside.{SinkSeen}
use Rattle.ghes_replay.specs.declared.exit.Refusal.{Refusal}
use Rattle.ghes_replay.specs.declared.exit.Refusal.TheVariants as refusals
use Rattle.ghes_replay.specs.declared.putting.End.{End}
use Rattle.ghes_replay.specs.Done.{Output, output}
use Rattle.ghes_replay.specs.Hearing.{Hearing, Untold, ToldAll, ToldShort, IsHeard, AreHeard, AreToldIn, IsTelling, Closes, Hears, HearsAs, closing_of}
use Rattle.ghes_replay.specs.Run.{AreToldOf, PutsAnswer, PutsHeard, WasPut, closing_behind, done_end}

-- all was told, and then the closing texts were asked for
pub closed : {H : Type 0} (stands : H → List Delivery → Type 0) (answers : H → Delivery → Verdict) (closing : H → List ℕ) (ledger : Kept)
    (before after : List ℕ) (old new : List H) (result : Result ⊤ Refusal)
    → AreToldIn stands answers (deliveries_of ledger.taken) old new (Ok tt)
    → OnOk result (after ≡ before ++ closing_texts closing new) → IfErr result (λ refusal. refusal ≡ refusals.HandlerMemory)
    → Closes stands answers closing ledger before after old new result
closed stands answers closing ledger before after old new (Ok done) told ok err =
    (ToldAll ledger (closing_texts closing new), (told, refl), (refl, ok))
closed stands answers closing ledger before after old new (Err refusal) told ok err =
    let P : Refusal → Type 0 = λ r. Closes stands answers closing ledger before after old new (Err r) in
    subst P (sym err) (ToldShort ledger, (Ok tt, told), refl)

-- not all was told
pub stopped : {H : Type 0} (stands : H → List Delivery → Type 0) (answers : H → Delivery → Verdict) (closing : H → List ℕ) (ledger : Kept)
    (before after : List ℕ) (old new : List H) (refusal : Refusal)
    → IsTelling stands answers (deliveries_of ledger.taken) old new (Err refusal)
    → Closes stands answers closing ledger before after old new (Err refusal)
stopped stands answers closing ledger before after old new refusals.HandlerMemory (id, told) = (ToldShort ledger, (Err id, told), refl)
stopped stands answers closing ledger before after old new refusals.OutOfMemory same = (Untold, same, refl)
stopped stands answers closing ledger before after old new other told = absurd told

-- a replay whose handlers were told of all
pub replay_heard : {H : Type 0} (stands : H → List Delivery → Type 0) (answers : H → Delivery → Verdict) (closing : H → List ℕ) (ledger : Kept)
    (before after : List ℕ) (old new : List H) → Closes stands answers closing ledger before after old new (Ok tt)
    → Hears stands answers closing (output (Some ledger) before) old new (Ok (output (Some ledger) after))
replay_heard stands answers closing ledger before after old new (hearing, heard, (is, text)) =
    (hearing, heard, ((closing_of hearing, is), ap (output (Some ledger)) text))

-- a replay whose handlers were not told of all
pub replay_unheard : {H : Type 0} (stands : H → List Delivery → Type 0) (answers : H → Delivery → Verdict) (closing : H → List ℕ) (ledger : Kept)
    (before after : List ℕ) (old new : List H) (refusal : Refusal)
    → Closes stands answers closing ledger before after old new (Err refusal)
    → Hears stands answers closing (output (Some ledger) before) old new (Err refusal)
replay_unheard stands answers closing ledger before after old new refusals.HandlerMemory (hearing, heard, is) =
    (hearing, heard, (ledger, refl, is))
replay_unheard stands answers closing ledger before after old new refusals.OutOfMemory (hearing, heard, is) = (hearing, heard, is)
replay_unheard stands answers closing ledger before after old new other (hearing, heard, is) = absurd is

-- what has no ledger tells nothing
pub not_told : {H : Type 0} (stands : H → List Delivery → Type 0) (answers : H → Delivery → Verdict) (closing : H → List ℕ) (text : List ℕ)
    (handlers : List H) → Hears stands answers closing (output None text) handlers handlers (Ok (output None text))
not_told stands answers closing text handlers = (Untold, refl, (refl, ap (output None) (sym (append-nil text))))

-- what was heard was put, or a line for want of memory
pub heard_put : (before after : SinkSeen) (done : Output) (answer : Result Output Refusal) (hearing : Hearing) (end : End)
    → HearsAs done answer hearing → PutsAnswer before after answer end → PutsHeard before after done hearing end
heard_put before after done (Ok whole) hearing end (heard, same) put =
    let P : Output → Type 0 = λ w. WasPut before after w.text (done_end w.ledger) end in
    inl (heard, subst P same put)
heard_put before after done (Err refusals.HandlerMemory) hearing end short (inl put) = inr (inl (short, put))
heard_put before after done (Err refusals.HandlerMemory) hearing end short (inr put) = inr (inl (short, put))
heard_put before after done (Err refusals.OutOfMemory) hearing end untold (inl put) = inr (inr (untold, put))
heard_put before after done (Err refusals.OutOfMemory) hearing end untold (inr put) = inr (inr (untold, put))
heard_put before after done (Err other) hearing end heard put = absurd heard

-- the closing texts of handlers that were told of a ledger
pub closing_heard : {H : Type 0} (stands : H → List Delivery → Type 0) (answers : H → Delivery → Verdict) (closing : H → List ℕ)
    (ledger : Option Kept) (old new : List H) (hearing : Hearing) → IsHeard ledger hearing → AreHeard stands answers closing old new hearing
    → closing_of hearing ≡ closing_behind closing ledger new
closing_heard stands answers closing None old new hearing is heard = ap closing_of is
closing_heard stands answers closing (Some ledger) old new hearing (text, is) heard =
    let P : Hearing → Type 0 = λ h. AreHeard stands answers closing old new h in
    ap closing_of is ∙ (subst P is heard).1

-- what they stand for
pub told_heard : {H : Type 0} (stands : H → List Delivery → Type 0) (answers : H → Delivery → Verdict) (closing : H → List ℕ)
    (ledger : Option Kept) (old new : List H) (hearing : Hearing) → IsHeard ledger hearing → AreHeard stands answers closing old new hearing
    → AreToldOf stands answers ledger old new
told_heard stands answers closing None old new hearing is heard =
    let P : Hearing → Type 0 = λ h. AreHeard stands answers closing old new h in
    subst P is heard
told_heard stands answers closing (Some ledger) old new hearing (text, is) heard =
    let P : Hearing → Type 0 = λ h. AreHeard stands answers closing old new h in
    (subst P is heard).0

-- all come back
pub all_back : {H : Type 0} (stands : H → List Delivery → Type 0) (answers : H → Delivery → Verdict) (closing : H → List ℕ)
    (old new : List H) (hearing : Hearing) → AreHeard stands answers closing old new hearing → length new ≡ length old
all_back stands answers closing old new Untold heard = ap length heard
all_back stands answers closing old new (ToldAll ledger text) heard = heard.0.count
all_back stands answers closing old new (ToldShort ledger) heard = heard.1.count

-- they are as they were where nobody was told
pub as_before : {H : Type 0} (stands : H → List Delivery → Type 0) (answers : H → Delivery → Verdict) (closing : H → List ℕ)
    (old new : List H) (hearing : Hearing) → hearing ≡ Untold → AreHeard stands answers closing old new hearing → new ≡ old
as_before stands answers closing old new hearing is heard =
    let P : Hearing → Type 0 = λ h. AreHeard stands answers closing old new h in
    subst P is heard
