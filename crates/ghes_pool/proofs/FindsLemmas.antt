-- The claims that a search finds running.
use Rattle.std.proofs.Common.{◌≡◌, ℕ, ◌+◌, ◌<◌, ◌≤◌, List, [], ◌∷◌, ◌++◌, length, get_or, sym, refl, ap, ◌∙◌, subst, arith}
use Rattle.std.proofs.lemmas.List.{append_assoc}
use mathlib.Core.Option.{some}
use lib.ListN.{get_elem?}
use Rattle.ghes_rule.specs.declared.views.Turn.{Turn}
use Rattle.ghes_rule.specs.declared.views.PassView.{PassView}
use Rattle.ghes_rule.specs.Kept.{turn}
use Rattle.ghes_rule.specs.Moves.{with_found}
use Rattle.ghes_rule.specs.Finds.{AreFinds, after_finds}
use Rattle.ghes_rule.proofs.Gathered.{grown}

-- one more slot that was looked at
pub finds_grow : (since : List ℕ) (n : ℕ) (finds : List Turn) (g : ℕ) → get_or since n 0 ≤ g → AreFinds since n finds → AreFinds since (n + 1) (finds ++ turn n g ∷ [])
finds_grow since n finds g low old = let h = grown (λ i (c : Turn). (c.slot ≡ i) × (get_or since i 0 ≤ c.turn)) finds (finds ++ turn n g ∷ []) (turn n g) n refl old.0 (refl, low) (λ q l. let t = old.1 q l in (t.0, t.1, (t.2, t.3))) in
    (h.0, λ q l. let t = h.1 q l in (t.0, t.1, t.2.0, t.2.1))

pub finds_view : (v : PassView) (n : ℕ) (finds : List Turn) (g : ℕ) → with_found (after_finds v n finds) n g ≡ after_finds v (n + 1) (finds ++ turn n g ∷ [])
finds_view v n finds g = let a : v.steps + n + 1 ≡ v.steps + (n + 1) = omega arith in let b = append_assoc v.found finds (turn n g ∷ []) in λ j. let z : PassView = record v { steps = a j; found = b j } in z

-- at the start nothing was found
pub finds_none : (v : PassView) → after_finds v 0 [] ≡ v
finds_none v = let a : v.steps + 0 ≡ v.steps = omega arith in λ j. let z : PassView = record v { steps = a j; found = Rattle.std.proofs.Common.append-nil v.found j } in z
