use Rattle.std.proofs.Common.{arith}
use Rattle.std.proofs.lemmas.Grind.{common_steps}
use Rattle.ghes_outside.proofs.Reading.{whole_below}
use Rattle.ghes_outside.proofs.host_files.read_whole.Goals as goal

pub returns-in-Ok-clause-whole : goal.returns-in-Ok-clause-whole
returns-in-Ok-clause-whole g c =
    let gave = rw (c.take.ensures.limit, c.take.ensures.inner) at c.in-Ok.ensures.bytes in
    let whole = whole_below _ c.saturating_add-most.result _ _ c.requires gave in
    λ small. grind (arith, common_steps, whole)
