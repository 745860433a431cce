use Rattle.std.proofs.Common.{◌≡◌, ◌++◌, take}
use Rattle.std.specs.List.{flat_map}
use Rattle.ghes_report.specs.Inject.{injection_line}
use Rattle.ghes_report.proofs.inject.injections_text.Given as goal

abbrev pub invariant-loop-end : goal.invariant-loop-end
invariant-loop-end l =
    (l.text.added ≡ l.fn.text.added ++ flat_map (injection_line l.ids l.error) (take l.end-index l.ends)) × (l.text.front ≡ l.fn.text.front)
