use Rattle.std.proofs.Common.{◌+◌, ◌∙◌, length, ap}
use Rattle.fault_plan.specs.Plan.{Calls}
use Rattle.apei_base.specs.Bus.{bytes_at}
use Rattle.apei_base.specs.declared.region.Space.TheVariants.{Memory}
use Rattle.fw_port.specs.Port.{seen_of}
use Rattle.fw_port.specs.Source.{source_cells}
use Rattle.fw_port.specs.SourceLaws.{copy_step}
use Rattle.fw_port.proofs.port.SourcePortBus.copy.Goals as goal

pub returns-clause-access : goal.returns-clause-access
returns-clause-access c =
    let seen = seen_of c.args.self.now.memory in
    record {
      ok = copy_step seen _ _ (c.args.address + c.args.skip) (length c.args.into.now) _
          (ap (λ (calls : Calls). length calls.failing) c.begin.ensures.counted)
          (c.copy.ensures ∙ ap (λ first. bytes_at (source_cells seen) Memory (first + c.args.skip) (length c.args.into.now)) c.from.ensures);
      err = tt;
    }
