-- Where the load failed, its clauses say why, and what it leaves.
use Rattle.ghes_replay.proofs.LoadLemmas.{file_not_loaded}
use Rattle.ghes_replay.proofs.loading.load_file.Goals as goal

pub returns-in-Err : goal.returns-in-Err
returns-in-Err g c =
    let e = c.in-Err.ensures in
    rw c.load_refusal.ensures (file_not_loaded _ _ c.args.file c.args.name.now c.limit_for.result c.in-Err.why c.limit_for.ensures
    (record { failed = e.failed; too_long = e.too_long; unfailed = e.unfailed; names = e.names; contents = e.contents; grows = e.grows }))
