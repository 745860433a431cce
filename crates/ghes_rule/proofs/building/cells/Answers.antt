use Rattle.std.proofs.Common.{rules, arith, ◌≡◌, ◌≤◌, ◌<◌, ◌+◌, ◌*◌, ◌^◌, [], ◌∷◌, ◌++◌, ℕ, List, Option, Some, None, length, true, refl, sym, ap, ◌∙◌, subst}
use Rattle.atomic_table.specs.Seated.{TableId}
use Rattle.ghes_rule.specs.declared.views.PassView.{PassView}
use Rattle.ghes_rule.specs.declared.views.WorkView.{WorkView}
use Rattle.ghes_rule.specs.Seen.{PassSeen, WorkSeen, Carries}
use Rattle.ghes_rule.specs.Moves.{pass_of, work_of, carried_of}
use Rattle.ghes_rule.specs.Seen.{AreEmptyCells}
use Rattle.ghes_rule.proofs.Gathered.{cells_grow}
use Rattle.ghes_rule.proofs.building.cells.Goals as goal

pub loop-preserved : goal.loop-preserved
loop-preserved c = cells_grow c.args.block_len c.loop.counter c.loop.cells.items c.push.new.self.items (record { packet = c.in_ok-packet.packet; pass = 0; turn = 0 }) (search rules) (search rules) c.loop.invariant

pub returns : goal.returns
returns c = let done : c.loop.counter ≡ c.args.slots = search rules in subst (λ n. AreEmptyCells c.args.block_len n c.loop.cells.items) done c.loop.invariant
