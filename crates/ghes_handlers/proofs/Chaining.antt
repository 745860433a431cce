-- Chains of deliveries, one behind another.
use Rattle.std.proofs.Common.{◌≡◌, List, [], ◌∷◌, ◌++◌, refl, sym, subst}
use Rattle.std.specs.Prelude.{Result, Ok, Err, ⊤}
use Rattle.ghes_notify.specs.declared.handler.Verdict.{Verdict}
use Rattle.ghes_notify.specs.declared.error.HandlerMemory.{HandlerMemory}
use Rattle.ghes_notify.specs.declared.order.Rank.{Rank}
use Rattle.ghes_notify.specs.Delivery.{Delivery, Delivers}
use Rattle.ghes_handlers.specs.Told.{DeliversAlong, AreDelivered}

ok_err : (done : ⊤) (id : HandlerMemory) → Ok done ≡ Err id → ⊥
ok_err done id e = cc

-- one delivery is a chain
pub one_delivered : {H : Type 0} (stands : H → List Delivery → Type 0) (answers : H → Delivery → Verdict)
    (ranks : List Rank) (d : Delivery) (old new : List H) (answer : Result ⊤ HandlerMemory)
    → Delivers stands answers d ranks old new answer → AreDelivered stands answers ranks (d ∷ []) old new answer
one_delivered stands answers ranks d old new (Ok done) delivers =
    (old ∷ [], (new, Ok done, refl, delivers, (refl, refl, refl)))
one_delivered stands answers ranks d old new (Err id) delivers =
    (old ∷ [], (new, Err id, refl, delivers, (refl, refl, refl)))

along_more : {H : Type 0} (stands : H → List Delivery → Type 0) (answers : H → Delivery → Verdict) (ranks : List Rank)
    (ds es : List Delivery) (chain : List (List H)) (old between new : List H) (result : Result ⊤ HandlerMemory)
    → DeliversAlong stands answers ranks ds chain old between (Ok tt)
    → AreDelivered stands answers ranks es between new result
    → AreDelivered stands answers ranks (ds ++ es) old new result
along_more {H} stands answers ranks [] es chain old between new result first then =
    subst (λ (values : List H). AreDelivered stands answers ranks es values new result) first.1 then
along_more stands answers ranks (d ∷ ds) es [] old between new result first then = absurd first
along_more stands answers ranks (d ∷ ds) es (values ∷ chain) old between new result
    (mid, Ok done, same, delivers, rest) then =
    let more = along_more stands answers ranks ds es chain mid between new result rest then in
    (values ∷ more.0, (mid, Ok done, same, delivers, more.1))
along_more stands answers ranks (d ∷ ds) es (values ∷ chain) old between new result
    (mid, Err id, same, delivers, rest) then = absurd (ok_err tt id (rest.2))

-- deliveries behind others
pub delivered_more : {H : Type 0} (stands : H → List Delivery → Type 0) (answers : H → Delivery → Verdict)
    (ranks : List Rank) (ds es : List Delivery) (old between new : List H) (result : Result ⊤ HandlerMemory)
    → AreDelivered stands answers ranks ds old between (Ok tt)
    → AreDelivered stands answers ranks es between new result
    → AreDelivered stands answers ranks (ds ++ es) old new result
delivered_more stands answers ranks ds es old between new result first then =
    along_more stands answers ranks ds es first.0 old between new result first.1 then

along_ended : {H : Type 0} (stands : H → List Delivery → Type 0) (answers : H → Delivery → Verdict)
    (ranks : List Rank) (ds es : List Delivery) (chain : List (List H)) (old new : List H) (id : HandlerMemory)
    → DeliversAlong stands answers ranks ds chain old new (Err id)
    → DeliversAlong stands answers ranks (ds ++ es) chain old new (Err id)
along_ended stands answers ranks [] es chain old new id first = absurd (ok_err tt id (sym first.2))
along_ended stands answers ranks (d ∷ ds) es [] old new id first = absurd first
along_ended stands answers ranks (d ∷ ds) es (values ∷ chain) old new id (mid, Ok done, same, delivers, rest) =
    (mid, Ok done, same, delivers, along_ended stands answers ranks ds es chain mid new id rest)
along_ended stands answers ranks (d ∷ ds) es (values ∷ chain) old new id (mid, Err other, same, delivers, rest) =
    (mid, Err other, same, delivers, rest)

-- behind want of memory no further delivery is made
pub delivered_ended : {H : Type 0} (stands : H → List Delivery → Type 0) (answers : H → Delivery → Verdict)
    (ranks : List Rank) (ds es : List Delivery) (old new : List H) (id : HandlerMemory)
    → AreDelivered stands answers ranks ds old new (Err id) → AreDelivered stands answers ranks (ds ++ es) old new
    (Err id)
delivered_ended stands answers ranks ds es old new id first =
    (first.0, along_ended stands answers ranks ds es first.0 old new id first.1)
