-- An action above 8 has no entries in an injection table.
use Rattle.std.proofs.Common.{◌≡◌, ◌≤◌, ◌<◌, ◌∙◌, ℕ, List, [], ◌∷◌, Result, Ok, Err, arith, refl, ap, subst}
use Rattle.std.proofs.lemmas.Bool.Decides.{nat_tests}
use Rattle.std.specs.List.{AllByRecursion}
use Rattle.std.specs.Result.{IfOk, OnErr}
use Rattle.apei_base.specs.Bus.{Access}
use Rattle.apei_einj.specs.Action.{Runs, IsCutOff}
use Rattle.apei_einj.specs.Entry.{of_action}
use Rattle.apei_einj.specs.Table.{IsRunnable}
use Rattle.apei_einj.specs.declared.entry.Entry.{Entry}
use Rattle.apei_einj.specs.declared.run.RunError.{RunError}
use Rattle.apei_einj.proofs.RunLemmas.{of_action-other}

-- none of the entries is of such an action
of_action-above : (action : ℕ) (entries : List Entry) → 8 < action → AllByRecursion IsRunnable entries → of_action action entries ≡ []
of_action-above action [] above all = refl
of_action-above action (entry ∷ entries) above all =
    let low : entry.action ≤ 8 = grind (arith, nat_tests) in
    of_action-other action entry entries (λ same. absurd (omega arith)) ∙ of_action-above action entries above all.1

-- so nothing is run, and nothing is cut off
pub above_8 : {S : Type 0} (step : S → Access → S → Type 0) (action value : ℕ) (entries : List Entry) (before after : S) (result : Result ℕ RunError)
    → AllByRecursion IsRunnable entries → IfOk result (λ next. Runs step (of_action action entries) value before next after)
    → OnErr result (IsCutOff step (of_action action entries) value before after) → 8 < action → (result ≡ Ok value) × (after ≡ before)
unfolding Runs IsCutOff
above_8 step action value entries before after (Ok next) all runs cut above =
    let ran = subst (λ (own : List Entry). Runs step own value before next after) (of_action-above action entries above all) runs in
    (ap Ok ran.0, ran.1)
above_8 step action value entries before after (Err error) all runs cut above =
    absurd (subst (λ (own : List Entry). IsCutOff step own value before after) (of_action-above action entries above all) cut)
