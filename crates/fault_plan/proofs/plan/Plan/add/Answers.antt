use Rattle.fault_plan.proofs.Due.{due_added}
use Rattle.fault_plan.proofs.plan.Plan.add.Goals as goal

pub returns-clause-due : goal.returns-clause-due
returns-clause-due c =
    rw (← c.self.view_is, c.in_ok-insert.ensures.keys) (due_added c.self.inside.made c.args.number c.self.inside.failing.keys)
