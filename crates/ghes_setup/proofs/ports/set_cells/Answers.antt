use Rattle.std.proofs.Common.{◌≡◌, arith, subst, Some}
use Rattle.std.specs.Prelude.{slice_get}
use Rattle.std.proofs.lemmas.Option.{slice_get_within}
use Rattle.ghes_setup.specs.Ports.{IsSetAt}
use Rattle.ghes_setup.proofs.PortLemmas.{set_more}
use Rattle.ghes_setup.proofs.ports.set_cells.Goals as goal

pub loop-at-init : goal.loop-at-init
loop-at-init c = record {
  as_many = c.requires.as_many;
  done = λ s source port below at there. absurd (omega (arith, below));
  left = λ s source port past at there. c.requires.each s source port at there;
}

pub set_cell_at-requires-clause-untouched : goal.set_cell_at-requires-clause-untouched
set_cell_at-requires-clause-untouched c = λ source port at there.
    c.loop-at.invariant.left c.loop-at.at source port (omega arith) (subst (λ sources. slice_get sources c.loop-at.at ≡ Some source) c.deref.ensures.value at) there

pub loop-at-preserved : goal.loop-at-preserved
loop-at-preserved c = set_more c.loop-at.at c.args.machine.now.sources.items c.loop-at.ports.items c.set_cell_at.new.ports.items c.loop-at.invariant
    (subst (λ sources. IsSetAt sources c.loop-at.at c.loop-at.ports.items c.set_cell_at.new.ports.items) c.deref.ensures.value c.set_cell_at.ensures)

pub returns : goal.returns
returns c = record {
  as_many = c.loop-at.invariant.as_many;
  each = λ s source port at there. c.loop-at.invariant.done s source port (omega (arith, slice_get_within _ s source at, c.loop-at.invariant.as_many)) at there;
}
