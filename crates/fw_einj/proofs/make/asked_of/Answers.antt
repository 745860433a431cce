use Rattle.std.proofs.Common.{ap, sym, ◌∙◌}
use Rattle.std.specs.Option.{option_copied}
use Rattle.std.proofs.lemmas.Bool.{le-leb}
use Rattle.apei_einj.proofs.JudgeLemmas.{runnable_accepted}
use Rattle.apei_einj.proofs.RefusedLemmas.{anchor-has_room}
use Rattle.fw_einj.proofs.make.asked_of.Goals as goal

pub invariant_of-result : goal.invariant_of-result
invariant_of-result c =
    let found = sym c.anchor.ensures ∙ ap option_copied c.in-Some.is in
    record {
      whole = le-leb _ _ (anchor-has_room c.args.einj.now c.in-Some.anchor.now found
          (runnable_accepted c.args.einj.now c.entries-entries.ensures.accepted.runnable));
    }
