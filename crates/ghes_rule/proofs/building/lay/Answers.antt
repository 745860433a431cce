use Rattle.std.proofs.Common.{rules, arith, ◌≡◌, ℕ, ◌+◌, ◌*◌, length, replicate, refl, sym, ap, ◌∙◌, subst}
use Rattle.ghes_rule.proofs.Opens.{opens}
use Rattle.ghes_rule.proofs.building.lay.Goals as goal

pub new-requires : goal.new-requires
new-requires c = opens c.args.block_len c.args.contexts c.args.slots c.as_slice.result.now c.in_ok-cells.cells.items (search rules) (search rules) c.in_ok-cells.ensures.0 c.in_ok-cells.ensures.1
