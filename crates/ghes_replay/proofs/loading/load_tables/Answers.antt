-- Both tables are loaded, or the injection table is refused behind the other.
use Rattle.ghes_replay.proofs.FileLemmas.{tables_found, second_refused}
use Rattle.ghes_replay.proofs.loading.load_tables.Goals as goal

pub returns-in-Ok-load_injection : goal.returns-in-Ok-load_injection
returns-in-Ok-load_injection g c =
    tables_found _ _ _ c.args.hest.now c.args.einj.now c.in-Ok.found c.in-Ok-load_injection.injection c.in-Ok.ensures c.in-Ok-load_injection.ensures

pub returns-in-Err-load_injection : goal.returns-in-Err-load_injection
returns-in-Err-load_injection g c =
    second_refused _ _ _ c.args.hest.now c.args.einj.now c.in-Ok.found c.in-Err-load_injection.refusal c.in-Ok.ensures c.in-Err-load_injection.ensures
