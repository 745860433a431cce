-- All passes, and the quiet moment in which the decoder has them.
use Rattle.std.specs.Prelude.{◌≡◌, ℕ, ◌<◌, ◌≤◌, true, List, [], length, Vec, vec_capacity}
use mathlib.Core.Option.{some}
use lib.ListN.{get_elem?}
use Rattle.std.specs.declared.alloc.Global.{Global}
use Rattle.atomic_table.specs.Seated.{TableId}
use Rattle.ghes_rule.specs.declared.views.Stage.TheVariants.{Idle}
use Rattle.ghes_rule.specs.declared.views.WorkView.{WorkView}
use Rattle.ghes_rule.specs.Seen.{PassSeen}
use Rattle.ghes_rule.specs.Moves.{view_at, all_back, Settled}

-- n passes of one shared object: each number below n is there, and once, and none of them holds a claim (own choice)
pub record AreAll (z : TableId) (n : ℕ) (xs : List PassSeen) : Type 0 where
  pub many : length xs ≡ n
  pub each : (q : ℕ) → q < n → (i : ℕ) × (x : PassSeen) × (get_elem? xs i ≡ some x) × (x.view.number ≡ q)
  pub once : (i j : ℕ) (x y : PassSeen) → get_elem? xs i ≡ some x → get_elem? xs j ≡ some y → x.view.number ≡ y.view.number → i ≡ j
  pub ready : (i : ℕ) (x : PassSeen) → get_elem? xs i ≡ some x → (x.table ≡ z) × (x.view.stage ≡ Idle)

-- the decoder has what each pass knew (own choice)
abbrev pub Has : List PassSeen → WorkView → Type 0
Has xs w = (i : ℕ) (x : PassSeen) → get_elem? xs i ≡ some x → x.view.number < length w.passes → view_at w.passes x.view.number ≡ x.view

-- the decoder has every pass, all is settled, and there is an empty vector with room for the passes (own choice)
pub record IsQuiet (w : WorkView) (contexts : ℕ) (passes : Vec PassSeen Global) : Type 0 where
  pub back : all_back w.passes ≡ true
  pub settled : Settled w
  pub many : contexts ≡ length w.passes
  pub empty : passes.items ≡ []
  pub room : contexts ≤ vec_capacity passes
