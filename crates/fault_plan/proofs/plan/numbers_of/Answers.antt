use Rattle.std.proofs.Common.{sym, ◌∙◌}
use Rattle.fault_plan.proofs.Due.{with_numbers-more, with_numbers-all}
use Rattle.fault_plan.proofs.plan.numbers_of.Goals as goal

pub loop-number-preserved : goal.loop-number-preserved
loop-number-preserved c =
    rw c.in_ok-insert.ensures.keys (sym (with_numbers-more c.loop-number.numbers.keys c.args.list.now c.loop-number.number-index _ c.loop-number-test.true) ∙ c.loop-number.invariant)

pub returns : goal.returns
returns c = sym (with_numbers-all c.loop-number.numbers.keys c.args.list.now c.loop-number.number-index c.loop-number-test.false) ∙ c.loop-number.invariant
