use Rattle.std.proofs.Common.{Some, None, ap, sym, ◌∙◌, append-nil}
use Rattle.ghes_ledger.proofs.SettledLemmas.{found_next}
use Rattle.ghes_ledger.proofs.settling.collected.Goals.{in-Some+in_ok-push, in_default}
use Rattle.ghes_ledger.proofs.settling.collected.Goals as goal

pub loop-fate-preserved : goal.loop-fate-preserved
loop-fate-preserved c = elim c.match-fate.branch [
  | in-Some+in_ok-push w ↦
      ap (λ v. v.items) w.fates-is ∙ w.in_ok-push.ensures.items
      ∙ found_next c.loop-fate.fates.items c.args.table.now c.loop-fate.fate-index (Some w.in-Some.fate) c.loop-fate-test.true w.in-Some.is c.loop-fate.invariant
  | in_default w ↦
      ap (λ v. v.items) w.fates-is ∙ sym (append-nil c.loop-fate.fates.items)
      ∙ found_next c.loop-fate.fates.items c.args.table.now c.loop-fate.fate-index None c.loop-fate-test.true w.in_default.is c.loop-fate.invariant
]
