use Rattle.std.proofs.Common.{rules, ◌∙◌, ap, arith}
use Rattle.std.proofs.lemmas.List.{take_all}
use Rattle.std.proofs.lemmas.List.Sorted.{IsNonDecreasingBy-from_sort_by_key}
use Rattle.fw_map.specs.declared.run.Run.{Run}
use Rattle.fw_map.specs.Registers.{runs_of}
use Rattle.fw_map.specs.Runs.{is_taken}
use Rattle.fw_map.proofs.TakenLemmas.{same_moved}
use Rattle.fw_map.proofs.taken.sorted_runs.Goals as goal

pub returns-clause-sorted : goal.returns-clause-sorted
returns-clause-sorted c =
    IsNonDecreasingBy-from_sort_by_key (λ (run : Run). run.first) _ c.in_ok-sort_by_key.ensures.sorted (λ a r q k. search rules)

pub returns-clause-same : goal.returns-clause-same
returns-clause-same c = λ area.
    same_moved c.loop-register.runs.items c.sort_by_key.new.self.items c.in_ok-sort_by_key.ensures.permutation area
    ∙ ap (λ runs. is_taken runs area) (c.loop-register.invariant ∙ ap runs_of (take_all c.loop-register.register-index c.args.registers.now (omega arith)))
