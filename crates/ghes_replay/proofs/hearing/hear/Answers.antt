-- What has no ledger tells nothing.
use Rattle.std.proofs.Common.{Option, None, Ok, sym, subst}
use Rattle.ghes_ledger.specs.Kept.{Kept}
use Rattle.ghes_replay.specs.Done.{output}
use Rattle.ghes_replay.specs.Hearing.{Hears}
use Rattle.ghes_replay.proofs.HearLemmas.{not_told}
use Rattle.ghes_replay.proofs.hearing.hear.Goals as goal

pub returns-in-None : goal.returns-in-None
returns-in-None g c =
    let text = c.args.done.text.items in
    let handlers = c.args.handlers.items in
    let P : Option Kept → Type 0 = λ ledger. Hears g.H.Handler.stands g.H.Handler.answers g.H.Handler.closing_text (output ledger text)
    handlers handlers (Ok (output None text)) in
    subst P (sym c.in-None.is) (not_told g.H.Handler.stands g.H.Handler.answers g.H.Handler.closing_text text handlers)
