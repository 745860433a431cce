use Rattle.std.proofs.Common.{◌≡◌, ◌++◌, take}
use Rattle.ghes_handlers.specs.Closing.{closing_texts}
use Rattle.ghes_handlers.proofs.closing.append_each.Given as goal

abbrev pub invariant-loop-handler : goal.invariant-loop-handler
invariant-loop-handler g l = l.into.items ≡ l.fn.into.items ++ closing_texts g.H.Handler.closing_text (take l.handler-index l.handlers)
