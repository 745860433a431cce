-- Each access of a bus in memory has one outcome.
use Rattle.std.proofs.Common.{sym, ap, ◌∙◌}
use Rattle.apei_base.specs.Bus.{bytes_at}
use Rattle.apei_base.specs.Determined.{IsDetermined}
use Rattle.apei_base.specs.declared.region.Space.TheVariants.{Memory}
use Rattle.apei_mem_bus.specs.MemBus.{IsMemStep}

pub mem_determined : IsDetermined IsMemStep
mem_determined = record {
  reads = λ before here there reach n m one other. (one.0 ∙ sym other.0, one.1 ∙ sym other.1);
  writes = λ before here there reach value one other. λ i space address. (one space address ∙ sym (other space address)) i;
  copies = λ before here there address bytes others as_many one other.
      (one.0 ∙ ap (bytes_at before Memory address) as_many ∙ sym other.0, one.1 ∙ sym other.1);
}
