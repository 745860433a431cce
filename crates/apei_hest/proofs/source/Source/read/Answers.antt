-- The type follows the length of a structure.
use Rattle.std.proofs.Common.{arith, sym, ◌∙◌}
use Rattle.apei_hest.specs.Source.{source_of}
use Rattle.apei_hest.proofs.StructureLemmas.{structure_at_least, length_of_9, length_of_10}
use Rattle.apei_hest.proofs.source.Source.read.Goals as goal

pub u16_at-requires : goal.u16_at-requires
u16_at-requires c = omega (arith, structure_at_least c.args.bytes.now _ c.requires.whole)

pub ghes_of-requires : goal.ghes_of-requires
ghes_of-requires c = omega (arith, length_of_9 c.args.bytes.now c.requires.whole (sym c.u16_at.ensures ∙ c.in-9.is))

pub ack_of-requires : goal.ack_of-requires
ack_of-requires c = omega (arith, length_of_10 c.args.bytes.now c.requires.whole (sym c.u16_at.ensures ∙ c.in-10.is))

pub ghes_of-requires-in-10 : goal.ghes_of-requires-in-10
ghes_of-requires-in-10 c = omega (arith, length_of_10 c.args.bytes.now c.requires.whole (sym c.u16_at.ensures ∙ c.in-10.is))

pub u16_at-requires-in_default : goal.u16_at-requires-in_default
u16_at-requires-in_default c = omega (arith, structure_at_least c.args.bytes.now _ c.requires.whole)

pub returns-in-9 : goal.returns-in-9
unfolding source_of
returns-in-9 c = grind arith

pub returns-in-10 : goal.returns-in-10
unfolding source_of
returns-in-10 c = grind arith

pub returns-in_default : goal.returns-in_default
unfolding source_of
returns-in_default c = grind arith
