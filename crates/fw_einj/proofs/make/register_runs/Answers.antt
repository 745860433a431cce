use Rattle.apei_einj.proofs.RefusedLemmas.{entry_refusal-at, first_refusal-more}
use Rattle.fw_einj.proofs.AnchorsLemmas.{runs-more, runs-end}
use Rattle.fw_einj.proofs.make.register_runs.Goals as goal

pub add_register-requires : goal.add_register-requires
add_register-requires c = entry_refusal-at c.args.entries.now c.loop-entry.entry-index _ c.loop-entry-test.true c.loop-entry.invariant.accepted

pub loop-entry-preserved : goal.loop-entry-preserved
loop-entry-preserved c =
    let entries = c.args.entries.now in
    let i = c.loop-entry.entry-index in
    record {
      runs = runs-more entries i _ c.loop-entry.runs.items _ c.loop-entry-test.true c.loop-entry.invariant.runs c.in_ok-add_register.ensures;
      accepted = first_refusal-more entries i c.loop-entry.invariant.accepted;
    }

pub returns : goal.returns
returns c = runs-end c.args.entries.now c.loop-entry.entry-index c.loop-entry.runs.items c.loop-entry-test.false c.loop-entry.invariant.runs
