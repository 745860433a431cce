-- The access was made, or it failed.
use Rattle.std.proofs.Common.{refl}
use Rattle.std.proofs.Math.Nat.{mod-eq_of_lt}
use Rattle.apei_einj.specs.Part.{Stores}
use Rattle.apei_einj.proofs.PartLemmas.{left_by}
use Rattle.apei_einj.proofs.access.store.Goals as goal

pub returns-in_err-write : goal.returns-in_err-write
unfolding Stores
returns-in_err-write g c = left_by c.from_residual.result c.from_residual.ensures.1 (record { does = (refl, c.in_err-write.ensures.access.err); counted = c.in_err-write.ensures.count.cause })

pub returns : goal.returns
unfolding Stores
returns g c = record {
  does = rw (c.memory.ensures.width, c.memory.ensures.space, c.memory.ensures.address, mod-eq_of_lt c.requires.fits) at c.in_ok-write.ensures.access.ok;
  counted = c.in_ok-write.ensures.count.unfailed;
}
