use Rattle.std.proofs.Common.{slice_index_or, arith, subst}
use Rattle.apei_hest.specs.Sound.{IsSound}
use Rattle.apei_hest.specs.declared.source.Ghes.{Ghes}
use Rattle.ghes_setup.specs.Machine.{IsSourceOf}
use Rattle.ghes_setup.proofs.MachineLemmas.{all_at, any_none, one_more}
use Rattle.ghes_setup.proofs.describing.sources_of.Goals as goal

pub source_at-requires-clause-sound : goal.source_at-requires-clause-sound
source_at-requires-clause-sound c = all_at IsSound c.args.found.now c.loop-at.at _ c.requires.sound c.loop-at-test.true

pub loop-at-preserved : goal.loop-at-preserved
loop-at-preserved c =
    let here : (ghes : Ghes) → IsSourceOf c.args.settings.now c.loop-at.at (slice_index_or c.args.found.now c.loop-at.at ghes) c.source_at.result = λ ghes.
    subst (λ g. IsSourceOf c.args.settings.now c.loop-at.at g c.source_at.result) (any_none c.args.found.now c.loop-at.at _ ghes c.loop-at-test.true) c.source_at.ensures in
    one_more (λ s source. (ghes : Ghes) → IsSourceOf c.args.settings.now s (slice_index_or c.args.found.now s ghes) source)
    c.loop-at.sources.items c.push.new.self.items c.source_at.result c.loop-at.at c.loop-at.invariant.0 c.loop-at.invariant.1 here c.in_ok-push.ensures.items

pub returns : goal.returns
returns c =
    let long = c.loop-at.invariant.0 in
    record {
      as_many = omega arith;
      each = λ s ghes source below. c.loop-at.invariant.1 s source (omega (arith, below, long)) ghes;
    }
