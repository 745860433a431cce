use Rattle.std.proofs.Common.{ap, sym, ◌∙◌}
use Rattle.std.specs.Option.{option_copied}
use Rattle.apei_einj.proofs.JudgeLemmas.{runnable_accepted}
use Rattle.fw_einj.proofs.AnchorsLemmas.{anchor_accepted, none_passes}
use Rattle.fw_einj.proofs.make.register_of.Goals as goal

pub invariant_of-result : goal.invariant_of-result
invariant_of-result c =
    let found = sym c.anchor.ensures ∙ ap option_copied c.in-Some.is in
    record {
      accepted = none_passes _ (anchor_accepted c.args.action c.args.einj.now c.in-Some.anchor.now found
          (runnable_accepted c.args.einj.now c.entries-entries.ensures.accepted.runnable));
    }
