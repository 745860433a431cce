use Rattle.std.proofs.Common.{sym, subst}
use Rattle.std.specs.Prelude.{option_copied}
use Rattle.apei_hest.specs.Refusal.{enabled}
use Rattle.ghes_replay.specs.Planned.{NoMachine}
use Rattle.ghes_replay.proofs.PlayLemmas.{refused_by}
use Rattle.ghes_replay.proofs.playing.build.Goals as goal

pub returns-in-Err-clause-refused : goal.returns-in-Err-clause-refused
returns-in-Err-clause-refused c =
    let found = enabled c.args.hest.now in
    let einj = option_copied c.args.einj in
    subst (NoMachine found einj) (sym c.machine_refusal.ensures) (refused_by found einj c.in-Err.error c.in-Err.ensures.refused)
