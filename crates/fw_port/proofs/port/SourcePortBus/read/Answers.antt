use Rattle.std.proofs.Common.{length, ap}
use Rattle.fault_plan.specs.Plan.{Calls}
use Rattle.apei_base.specs.Bus.{reach_of}
use Rattle.fw_port.specs.Port.{seen_of}
use Rattle.fw_port.specs.SourceLaws.{read_step}
use Rattle.fw_port.proofs.port.SourcePortBus.read.Goals as goal

pub returns-clause-access : goal.returns-clause-access
returns-clause-access c = record {
  ok = read_step (seen_of c.args.self.now.memory) _ _ (reach_of c.args.at.now) c.read.result
      (ap (λ (calls : Calls). length calls.failing) c.begin.ensures.counted) c.read.ensures.value;
  err = tt;
}
