use Rattle.std.proofs.Common.{ap, ◌∙◌}
use Rattle.apei_base.specs.Bus.{reach_of}
use Rattle.fw_einj.specs.Machine.{after_write, after_trigger, after_command}
use Rattle.fw_einj.proofs.port.EinjPortBus.write.Goals as goal

pub returns-clause-access : goal.returns-clause-access
unfolding after_write
returns-clause-access c =
    let reach = reach_of c.args.at.now in
    record {
      ok = c.trigger.ensures ∙ ap (after_trigger reach) (c.obey.ensures ∙ ap (after_command reach) c.put.ensures);
      err = tt;
    }
