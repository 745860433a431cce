-- All was told, and the text is whole; or not all was told.
use Rattle.ghes_replay.proofs.HearLemmas.{replay_heard, replay_unheard}
use Rattle.ghes_replay.proofs.hearing.hear_replay.Goals as goal

pub returns-in-Ok : goal.returns-in-Ok
returns-in-Ok g c =
    replay_heard g.H.Handler.stands g.H.Handler.answers g.H.Handler.closing_text c.args.ledger c.args.text.items
    c.tell_ledger-told.new.text.items c.args.handlers.items c.tell_ledger-told.result.handlers.items
    (rw c.in-Ok.is at c.tell_ledger-told.ensures)

pub returns-in-Err : goal.returns-in-Err
returns-in-Err g c =
    replay_unheard g.H.Handler.stands g.H.Handler.answers g.H.Handler.closing_text c.args.ledger c.args.text.items
    c.tell_ledger-told.new.text.items c.args.handlers.items c.tell_ledger-told.result.handlers.items c.in-Err.refusal
    (rw c.in-Err.is at c.tell_ledger-told.ensures)
