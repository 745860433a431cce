use Rattle.std.proofs.Common.{◌∙◌, subst, sym, slice_get, IfSome}
use Rattle.ghes_call.specs.Receive.{IsOfSource}
use Rattle.ghes_nmi.specs.Receive.{receive_seen}
use Rattle.ghes_context.proofs.tests.answered.Goals as goal

-- a memory of which an access is to fail stands where the memory does, and has as many acknowledged blocks
pub calls_of-answer-requires-clause-port : goal.calls_of-answer-requires-clause-port
calls_of-answer-requires-clause-port g c = record {
  source_is =
      subst (λ layout. IfSome (slice_get c.placed-second.result.sources 0) (λ receive. IsOfSource (receive_seen receive) layout))
      (sym c.failing_at-port.ensures.layout) c.placed-second.ensures.port.source_is;
  counted_is = c.failing_at-port.ensures.acknowledged ∙ c.placed-second.ensures.port.counted_is;
}
