use Rattle.std.proofs.Common.{ap, Some}
use Rattle.fw_einj.specs.Machine.{machine_of, armed_with}
use Rattle.fw_einj.specs.declared.injection.Injection.{Injection}
use Rattle.fw_einj.proofs.port.EinjPort.arm.Goals as goal

pub returns : goal.returns
unfolding armed_with
returns c = ap (λ (injection : Injection). record (machine_of c.args.self.now) { armed = Some injection }) c.injection.ensures
