use Rattle.std.proofs.Common.{◌≤◌, ◌<◌, ◌-◌, ℕ, length, get_or}
use Rattle.fw_cells.specs.declared.run.CellRun.{CellRun}
use Rattle.fw_cells.specs.Runs.{start_of, end_of}
use Rattle.fw_cells.proofs.FindLemmas.{HasSpent}
use Rattle.fw_cells.proofs.finding.find_in.Given as goal

abbrev pub invariant-loop-low : goal.invariant-loop-low
invariant-loop-low g l = record {
  ordered : l.low ≤ l.high;
  within : l.high ≤ length l.runs;
  before : (k : ℕ) (none : CellRun) → k < l.low → end_of (get_or l.runs k none) ≤ l.place;
  behind : (k : ℕ) (none : CellRun) → l.high ≤ k → k < length l.runs → l.place < start_of (get_or l.runs k none);
  grows : l.initial.steps ≤ l.steps;
  spent : HasSpent (l.steps - l.initial.steps) (l.high - l.low) (length l.runs);
}

abbrev pub decreases-loop-low : goal.decreases-loop-low
decreases-loop-low g l = l.high - l.low
