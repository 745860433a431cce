use Rattle.std.proofs.Common.{◌≡◌, ◌++◌, None, drop}
use Rattle.apei_einj.specs.Refusal.{first_refusal}
use Rattle.fw_einj.specs.New.{register_runs}
use Rattle.fw_einj.proofs.make.register_runs.Given as goal

abbrev pub invariant-loop-entry : goal.invariant-loop-entry
invariant-loop-entry l = record {
  runs : l.runs.items ++ register_runs (drop l.entry-index l.entries) ≡ register_runs l.entries;
  accepted : first_refusal (drop l.entry-index l.entries) ≡ None;
}
