use Rattle.std.proofs.Common.{ap, ◌∙◌}
use Rattle.fw_einj.specs.Machine.{machine_of, acted, acted_on, decided, status_told, command_status}
use Rattle.fw_einj.proofs.port.EinjPort.act.Goals as goal

pub returns : goal.returns
unfolding acted acted_on
returns c =
    let old = machine_of c.args.self.now in
    c.decide.ensures
    ∙ ap (decided c.kind-kind.result c.command_status-status.result)
    (c.tell_status.ensures ∙ ap (status_told c.command_status-status.result) c.begin_busy.ensures)
    ∙ ap (λ status. acted_on c.kind-kind.result status old) c.command_status-status.ensures.value
    ∙ ap (λ kind. acted_on kind (command_status old.setup kind) old) c.kind-kind.ensures
