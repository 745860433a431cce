use Rattle.std.proofs.Common.{◌≡◌, ◌≤◌, ◌-◌, length}
use Rattle.ghes_script.specs.Setup.{IsTableOf}
use Rattle.ghes_script.proofs.setup.table_of.Given as goal

-- the table is that of the ids so far
abbrev pub invariant-loop-id : goal.invariant-loop-id
invariant-loop-id l = (l.id ≤ 256) × ((length l.table.items ≡ l.id) × IsTableOf l.table.items l.by_id)

abbrev pub decreases-loop-id : goal.decreases-loop-id
decreases-loop-id l = 256 - l.id
