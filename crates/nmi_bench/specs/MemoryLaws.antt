-- What holds of the memory of a source that raises one block so often.
use Rattle.std.proofs.Common.{◌≡◌, ℕ, zero, suc, Bool, List, replicate, length, refl, arith}
use Rattle.std.proofs.lemmas.List.{length-replicate}
use Rattle.std.specs.List.{AllByRecursion}
use Rattle.apei_base.specs.Firmware.{IsRaised, IsSound}
use Rattle.nmi_bench.specs.Memory.{port_seen, IsReady}

-- a block that is raised so often is raised each time
pub raised_each : (raised : ℕ) (block : List ℕ) → IsRaised block → AllByRecursion IsRaised (replicate raised block)
raised_each zero block is = tt
raised_each (suc n) block is = (is, raised_each n block is)

-- the memory is sound
pub sound : (block : List ℕ) (raised acknowledged : ℕ) (waits stands : Bool) (status cell : ℕ) → IsReady block raised acknowledged waits stands status cell → IsSound (port_seen block raised acknowledged waits cell) 0
sound block raised acknowledged waits stands status cell ready =
    let long : length (replicate raised block) ≡ raised = length-replicate raised block in
    record {
      placed = omega arith;
      apart = refl;
      other = refl;
      fits = ready.fits;
      raised = raised_each raised block ready.raised_is;
      few = rw long ready.few;
      made = rw long ready.made;
      awaited = λ waiting. (ready.awaited waiting, refl);
      planned = omega arith;
    }
