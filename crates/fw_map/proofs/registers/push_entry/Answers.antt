use Rattle.fw_map.proofs.RegisterLemmas.{runnable_region}
use Rattle.fw_map.proofs.registers.push_entry.Goals as goal

pub entry_run-requires : goal.entry_run-requires
entry_run-requires c = runnable_region c.args.entry.now c.requires c.if-entry-ne-NO_OPERATION.true
