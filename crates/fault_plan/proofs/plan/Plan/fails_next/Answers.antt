use Rattle.std.proofs.Common.{rules, ◌∙◌}
use Rattle.fault_plan.proofs.Due.{due_next, found_equal}
use Rattle.fault_plan.proofs.plan.Plan.fails_next.Goals as goal

pub returns-in-Some-clause-due : goal.returns-in-Some-clause-due
returns-in-Some-clause-due c =
    rw (← c.self.view_is) (due_next c.self.inside.made c.in-Some.number c.contains.result c.self.inside.failing.keys (search rules) (c.contains.ensures ∙ found_equal c.in-Some.number c.self.inside.failing.keys))
