use Rattle.fw_map.proofs.PlaceLemmas.{swept_more, swept_all}
use Rattle.std.proofs.Common.{arith}
use Rattle.std.proofs.lemmas.List.{get_or_default}
use Rattle.fw_map.proofs.place.lowest.Goals as goal

pub loop-run-preserved : goal.loop-run-preserved
loop-run-preserved c =
    swept_more c.args.runs.now c.args.bytes c.loop-run.run-index c.loop-run.number c.past-number.result _ c.requires c.loop-run-test.true c.loop-run.invariant
    (λ none. get_or_default c.args.runs.now c.loop-run.run-index _ none c.loop-run-test.true)
    c.past-number.ensures.from c.past-number.ensures.free c.past-number.ensures.taken

pub returns : goal.returns
returns c = swept_all c.args.runs.now c.args.bytes c.loop-run.run-index c.loop-run.number (omega arith) c.loop-run.invariant
