-- What follows from how a listing ends.
use Rattle.std.proofs.Common.{◌∷◌, [], codes, refl}
use Rattle.ghes_replay.specs.Hearing.{Untold}
use Rattle.ghes_replay.specs.Run.{bare_end, end_of}
use Rattle.ghes_replay.specs.Seen.{outside}
use Rattle.ghes_replay.specs.Task.{Check, IsFileOf, IsFileWord}
use Rattle.ghes_replay.proofs.BareLemmas.{check_ends, check_statuses}
use Rattle.ghes_replay.proofs.EndLemmas.{bad_table, failed_load, is_complete, is_listed, put_failed}
use Rattle.ghes_replay.proofs.LoadLemmas.{loads_weaker}
use Rattle.ghes_replay.proofs.run.check_run.Goals as goal

pub returns-clause-ends : goal.returns-clause-ends
returns-clause-ends g c =
    let before = outside (g.F.Files.seen c.args.files.now) (g.K.Sink.seen c.args.out.now) in
    let after = outside (g.F.Files.seen c.run_task.new.files) (g.K.Sink.seen c.run_task.new.out) in
    check_ends c.args.hest.now c.args.einj.now before after c.run_task.ensures.ends.0 (end_of c.run_task.result) c.run_task.ensures.ends.1

pub returns-clause-done : goal.returns-clause-done
returns-clause-done g c =
    let before = outside (g.F.Files.seen c.args.files.now) (g.K.Sink.seen c.args.out.now) in
    let after = outside (g.F.Files.seen c.run_task.new.files) (g.K.Sink.seen c.run_task.new.out) in
    is_listed (codes "check" ∷ c.args.hest.now ∷ c.args.einj.now ∷ []) before after c.run_task.result.status (check_ends c.args.hest.now c.args.einj.now before after c.run_task.ensures.ends.0 (end_of c.run_task.result) c.run_task.ensures.ends.1)

pub returns-clause-statuses : goal.returns-clause-statuses
returns-clause-statuses g c =
    let before = outside (g.F.Files.seen c.args.files.now) (g.K.Sink.seen c.args.out.now) in
    let after = outside (g.F.Files.seen c.run_task.new.files) (g.K.Sink.seen c.run_task.new.out) in
    check_statuses c.args.hest.now c.args.einj.now before after c.run_task.ensures.ends.0 (end_of c.run_task.result) c.run_task.ensures.ends.1

pub returns-clause-put_failed : goal.returns-clause-put_failed
returns-clause-put_failed g c =
    let before = outside (g.F.Files.seen c.args.files.now) (g.K.Sink.seen c.args.out.now) in
    let after = outside (g.F.Files.seen c.run_task.new.files) (g.K.Sink.seen c.run_task.new.out) in
    put_failed (codes "check" ∷ c.args.hest.now ∷ c.args.einj.now ∷ []) before after Untold (bare_end c.run_task.result.status) (check_ends c.args.hest.now c.args.einj.now before after c.run_task.ensures.ends.0 (end_of c.run_task.result) c.run_task.ensures.ends.1)

pub returns-clause-loads : goal.returns-clause-loads
returns-clause-loads g c =
    loads_weaker (IsFileOf (Check c.args.hest.now c.args.einj.now)) (IsFileWord (codes "check" ∷ c.args.hest.now ∷ c.args.einj.now ∷ [])) _ _ (λ name is. (Check c.args.hest.now c.args.einj.now, refl, is)) c.run_task.ensures.loads

pub returns-clause-failed : goal.returns-clause-failed
returns-clause-failed g c =
    let before = outside (g.F.Files.seen c.args.files.now) (g.K.Sink.seen c.args.out.now) in
    let after = outside (g.F.Files.seen c.run_task.new.files) (g.K.Sink.seen c.run_task.new.out) in
    failed_load (codes "check" ∷ c.args.hest.now ∷ c.args.einj.now ∷ []) before after Untold (bare_end c.run_task.result.status) (check_ends c.args.hest.now c.args.einj.now before after c.run_task.ensures.ends.0 (end_of c.run_task.result) c.run_task.ensures.ends.1)

pub returns-clause-bad_table : goal.returns-clause-bad_table
returns-clause-bad_table g c =
    let before = outside (g.F.Files.seen c.args.files.now) (g.K.Sink.seen c.args.out.now) in
    let after = outside (g.F.Files.seen c.run_task.new.files) (g.K.Sink.seen c.run_task.new.out) in
    bad_table (codes "check" ∷ c.args.hest.now ∷ c.args.einj.now ∷ []) before after Untold (bare_end c.run_task.result.status) (check_ends c.args.hest.now c.args.einj.now before after c.run_task.ensures.ends.0 (end_of c.run_task.result) c.run_task.ensures.ends.1)

pub returns-clause-complete : goal.returns-clause-complete
returns-clause-complete g c =
    let before = outside (g.F.Files.seen c.args.files.now) (g.K.Sink.seen c.args.out.now) in
    let after = outside (g.F.Files.seen c.run_task.new.files) (g.K.Sink.seen c.run_task.new.out) in
    is_complete (codes "check" ∷ c.args.hest.now ∷ c.args.einj.now ∷ []) before after Untold (bare_end c.run_task.result.status) (check_ends c.args.hest.now c.args.einj.now before after c.run_task.ensures.ends.0 (end_of c.run_task.result) c.run_task.ensures.ends.1)
