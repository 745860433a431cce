use Rattle.std.proofs.Common.{sym, ap, ◌∙◌}
use Rattle.apei_base.specs.Bus.{reach_of}
use Rattle.fw_einj.specs.Machine.{machine_of, triggered_by}
use Rattle.fw_einj.proofs.MachineLemmas.{was_triggered, not_armed}
use Rattle.fw_einj.proofs.port.EinjPort.fire.Goals as goal

pub returns-in-Some : goal.returns-in-Some
returns-in-Some c =
    was_triggered (machine_of c.args.self.now) (machine_of c.put.new.self) c.in-Some.injection c.made_of-made.result (reach_of c.trigger_region.result)
    c.trigger_region.ensures c.put.ensures c.made_of-made.ensures
    ∙ ap (λ armed. triggered_by armed (machine_of c.args.self.now)) (sym c.in-Some.is)

pub returns-in-None : goal.returns-in-None
returns-in-None c = not_armed (machine_of c.args.self.now) ∙ ap (λ armed. triggered_by armed (machine_of c.args.self.now)) (sym c.in-None.is)
