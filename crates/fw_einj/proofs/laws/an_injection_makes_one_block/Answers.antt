use Rattle.std.proofs.Common.{Ok, Err, ap}
use Rattle.apei_einj.proofs.DeterminedLemmas.{injects_one}
use Rattle.fw_einj.specs.Machine.{Machine, IsMachineStep}
use Rattle.fw_einj.specs.Sample.{sample_entries, at_rest}
use Rattle.fw_einj.proofs.InjectionLemmas.{injected}
use Rattle.fw_einj.proofs.OutcomeLemmas.{machine_determined}
use Rattle.fw_einj.proofs.laws.an_injection_makes_one_block.Goals as goal

pub returns : goal.returns
returns c = λ table cell setup cells made request result after rest fits lets injects fine.
    let sure = injected table cell setup cells made request rest fits lets in
    let same = injects_one IsMachineStep machine_determined sample_entries request (at_rest table cell setup cells made) after _ result _ injects sure.does fine (λ e. absurd (cc e)) in
    (same.0, ap (λ (machine : Machine). machine.made) same.1)
