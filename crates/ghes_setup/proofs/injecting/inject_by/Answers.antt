use Rattle.fw_einj.specs.Machine.{machine_of}
use Rattle.ghes_setup.proofs.InjectLemmas.{is_injection}
use Rattle.ghes_setup.proofs.injecting.inject_by.Goals as goal

pub returns : goal.returns
returns c =
    is_injection c.args.sources c.args.einj.now c.args.request.now (machine_of c.args.port.now) (machine_of c.inject-answer.new.bus) (machine_of c.take_made-made.new.self)
    c.inject-answer.result c.take_made-made.result c.injected_by.result c.inject-answer.ensures.does c.inject-answer.ensures.cause c.take_made-made.ensures.value c.take_made-made.ensures.taken c.injected_by.ensures
