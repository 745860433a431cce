-- All was told, and the closing texts were asked for; or not all was told.
use Rattle.std.proofs.Common.{List, Result, Err, subst}
use Rattle.ghes_handlers.specs.Deliveries.{deliveries_of}
use Rattle.ghes_ledger.specs.declared.ledger.Taken.{Taken}
use Rattle.ghes_replay.specs.Hearing.{IsTelling}
use Rattle.ghes_replay.proofs.HearLemmas.{closed, stopped}
use Rattle.ghes_replay.proofs.hearing.tell_ledger.Goals as goal

pub returns-in-Ok : goal.returns-in-Ok
returns-in-Ok g c =
    closed g.H.Handler.stands g.H.Handler.answers g.H.Handler.closing_text c.args.ledger.now c.args.text.now.items c.close-result.new.text.items
    c.args.handlers.items c.tell_taken-told.result.handlers.items c.close-result.result
    (rw c.taken.ensures at (rw c.in-Ok.is at c.tell_taken-told.ensures)) (rw c.deref.ensures.value at c.close-result.ensures.ok)
    c.close-result.ensures.err

pub returns-in-Err : goal.returns-in-Err
returns-in-Err g c =
    let old = c.args.handlers.items in
    let new = c.tell_taken-told.result.handlers.items in
    let P : List Taken → Type 0 = λ taken. IsTelling g.H.Handler.stands g.H.Handler.answers (deliveries_of taken) old new (Err c.in-Err.refusal) in
    stopped g.H.Handler.stands g.H.Handler.answers g.H.Handler.closing_text c.args.ledger.now c.args.text.now.items c.args.text.now.items
    old new c.in-Err.refusal (subst P c.taken.ensures (rw c.in-Err.is at c.tell_taken-told.ensures))
