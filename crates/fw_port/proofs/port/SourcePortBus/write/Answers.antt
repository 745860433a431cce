use Rattle.std.proofs.Common.{◌%◌, ◌^◌, length, ap}
use Rattle.fault_plan.specs.Plan.{Calls}
use Rattle.apei_base.specs.Bus.{reach_of}
use Rattle.fw_port.specs.Port.{seen_of}
use Rattle.fw_port.specs.SourceLaws.{write_step}
use Rattle.fw_port.proofs.port.SourcePortBus.write.Goals as goal

pub returns-clause-access : goal.returns-clause-access
returns-clause-access c = record {
  ok = write_step (seen_of c.args.self.now.memory) (seen_of c.write.new.self) _ _ (reach_of c.args.at.now) (c.args.value % 2 ^ c.args.at.now.width)
      (ap (λ (calls : Calls). length calls.failing) c.begin.ensures.counted) c.write.ensures;
  err = tt;
}
