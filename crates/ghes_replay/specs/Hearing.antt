-- What becomes of the handlers of a run: behind a replay they are told of the deliveries of its ledger, and close its text.
use Rattle.std.specs.Prelude.{◌≡◌, ℕ, List, [], ◌++◌, Option, Some, None, Result, Ok, Err, ⊤}
use Rattle.ghes_handlers.specs.Closing.{closing_texts}
use Rattle.ghes_handlers.specs.Deliveries.{deliveries_of}
use Rattle.ghes_handlers.specs.Registering.{chain_of}
use Rattle.ghes_handlers.specs.Told.{AreTold}
use Rattle.ghes_ledger.specs.Kept.{Kept}
use Rattle.ghes_notify.specs.Delivery.{Delivery}
use Rattle.ghes_notify.specs.Order.{call_order}
use Rattle.ghes_notify.specs.declared.error.HandlerMemory.{HandlerMemory}
use Rattle.ghes_notify.specs.declared.handler.Verdict.{Verdict}
use Rattle.ghes_notify.specs.declared.order.Rank.{Rank}
use Rattle.ghes_replay.specs.declared.exit.Refusal.{Refusal}
use Rattle.ghes_replay.specs.declared.exit.Refusal.TheVariants as refusals
use Rattle.ghes_replay.specs.Done.{Output, output}

-- What the handlers of a run were told: nothing; or all deliveries of a ledger, and then these are their closing texts; or deliveries of a
-- ledger, and memory ran out for one of them (own choice).
pub data Hearing : Type 0 where
  Untold : Hearing
  ToldAll : Kept → List ℕ → Hearing
  ToldShort : Kept → Hearing

-- the closing texts of what was told
abbrev pub closing_of : Hearing → List ℕ
closing_of Untold = []
closing_of (ToldAll ledger text) = text
closing_of (ToldShort ledger) = []

-- what was done with this ledger was told so: all of a replay, and nothing of all else (own choice)
abbrev pub IsHeard : Option Kept → Hearing → Type 0
IsHeard None hearing = hearing ≡ Untold
IsHeard (Some ledger) hearing = (text : List ℕ) × (hearing ≡ ToldAll ledger text)

-- the order in which handlers are called that were registered one after another, each with priority 0 (own choice)
abbrev pub ranks_of : {H : Type 0} → List H → List Rank
ranks_of handlers = call_order (chain_of handlers).tags

-- handlers were told of deliveries in this order
abbrev pub AreToldIn : {H : Type 0} → (H → List Delivery → Type 0) → (H → Delivery → Verdict) → List Delivery → List H → List H
    → Result ⊤ HandlerMemory → Type 0
AreToldIn stands answers ds old new result = AreTold stands answers (ranks_of old) ds old new result

-- what the handlers are behind a run: as they were; or told of the deliveries of its ledger, with these closing texts; or told of them as
-- far as memory served
abbrev pub AreHeard : {H : Type 0} → (H → List Delivery → Type 0) → (H → Delivery → Verdict) → (H → List ℕ) → List H → List H → Hearing → Type 0
AreHeard stands answers closing old new Untold = new ≡ old
AreHeard stands answers closing old new (ToldAll ledger text) =
    AreToldIn stands answers (deliveries_of ledger.taken) old new (Ok tt) × (text ≡ closing_texts closing new)
AreHeard stands answers closing old new (ToldShort ledger) =
    (result : Result ⊤ HandlerMemory) × AreToldIn stands answers (deliveries_of ledger.taken) old new result

-- how telling handlers of deliveries ended: of all; or a handler's memory ran out; or memory ran out before
abbrev pub IsTelling : {H : Type 0} → (H → List Delivery → Type 0) → (H → Delivery → Verdict) → List Delivery → List H → List H → Result ⊤ Refusal → Type 0
IsTelling stands answers ds old new (Ok done) = AreToldIn stands answers ds old new (Ok tt)
IsTelling stands answers ds old new (Err refusals.HandlerMemory) = (id : HandlerMemory) × AreToldIn stands answers ds old new (Err id)
IsTelling stands answers ds old new (Err refusals.OutOfMemory) = new ≡ old
IsTelling stands answers ds old new (Err other) = ⊥

-- what telling handlers of a ledger gives, and closing its text: all of it, or what was told before memory ran out
abbrev pub ClosesAs : Kept → List ℕ → List ℕ → Result ⊤ Refusal → Hearing → Type 0
ClosesAs ledger before after (Ok done) hearing = (hearing ≡ ToldAll ledger (closing_of hearing)) × (after ≡ before ++ closing_of hearing)
ClosesAs ledger before after (Err refusals.HandlerMemory) hearing = hearing ≡ ToldShort ledger
ClosesAs ledger before after (Err refusals.OutOfMemory) hearing = hearing ≡ Untold
ClosesAs ledger before after (Err other) hearing = ⊥

abbrev pub Closes : {H : Type 0} → (H → List Delivery → Type 0) → (H → Delivery → Verdict) → (H → List ℕ) → Kept → List ℕ → List ℕ
    → List H → List H → Result ⊤ Refusal → Type 0
Closes stands answers closing ledger before after old new result =
    (hearing : Hearing) × AreHeard stands answers closing old new hearing × ClosesAs ledger before after result hearing

-- what was done is answered so behind the handlers: with their closing texts behind its text, or as want of memory
abbrev pub HearsAs : Output → Result Output Refusal → Hearing → Type 0
HearsAs done (Ok whole) hearing =
    IsHeard done.ledger hearing × (whole ≡ output done.ledger (done.text ++ closing_of hearing))
HearsAs done (Err refusals.HandlerMemory) hearing = (ledger : Kept) × (done.ledger ≡ Some ledger) × (hearing ≡ ToldShort ledger)
HearsAs done (Err refusals.OutOfMemory) hearing = hearing ≡ Untold
HearsAs done (Err other) hearing = ⊥

abbrev pub Hears : {H : Type 0} → (H → List Delivery → Type 0) → (H → Delivery → Verdict) → (H → List ℕ) → Output → List H → List H → Result Output Refusal → Type 0
Hears stands answers closing done old new answer =
    (hearing : Hearing) × AreHeard stands answers closing old new hearing × HearsAs done answer hearing
