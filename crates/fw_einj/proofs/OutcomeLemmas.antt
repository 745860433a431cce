-- Each access of the machine has one outcome.
use Rattle.std.proofs.Common.{sym, ap, ◌∙◌}
use Rattle.apei_base.specs.Bus.{bytes_at}
use Rattle.apei_base.specs.Determined.{IsDetermined}
use Rattle.apei_base.specs.declared.region.Space.TheVariants.{Memory}
use Rattle.fw_einj.specs.Machine.{Machine, IsMachineStep}

pub machine_determined : IsDetermined IsMachineStep
machine_determined = record {
  reads = λ before here there reach n m one other. (one.0 ∙ sym other.0, one.1 ∙ sym other.1);
  writes = λ before here there reach value one other. one ∙ sym other;
  copies = λ before here there address bytes others as_many one other.
      (one.0 ∙ ap (bytes_at before.cells Memory address) as_many ∙ sym other.0, one.1 ∙ sym other.1);
}
