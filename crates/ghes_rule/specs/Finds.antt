-- What a pass that looks at the slots in order finds.
use Rattle.std.specs.Prelude.{◌≡◌, ℕ, ◌+◌, ◌-◌, ◌<◌, ◌≤◌, List, ◌++◌, length, slice_index}
use mathlib.Core.Option.{some}
use lib.ListN.{get_elem?}
use Rattle.ghes_rule.specs.declared.views.Turn.{Turn}
use Rattle.ghes_rule.specs.declared.views.PassView.{PassView}
use Rattle.ghes_rule.specs.declared.views.Hand.TheVariants.{Bare}
use Rattle.ghes_rule.specs.declared.views.WorkView.{WorkView}
use Rattle.ghes_rule.specs.Kept.{sum_to}
use Rattle.ghes_rule.specs.Moves.{view_at}

-- running claims of the slots 0 to n - 1, in order, none below `since` of its slot (own choice)
abbrev pub AreFinds : List ℕ → ℕ → List Turn → Type 0
AreFinds since n finds = (length finds ≡ n) × ((i : ℕ) → i < n → (c : Turn) × (get_elem? finds i ≡ some c) × (c.slot ≡ i) × (slice_index since i ≤ c.turn))

-- the pass after n looks that found these claims running
abbrev pub after_finds : PassView → ℕ → List Turn → PassView
after_finds v n finds = record v { steps = v.steps + n; found = v.found ++ finds }

-- between two quiet moments, with nothing in hand before, some pass found a running claim of each slot in one search, none below the
-- counts of ended claims before (own choice)
pub record FoundAll (k : ℕ) (w w' : WorkView) : Type 0 where
  pub bare : w.held ≡ Bare
  pub many : length w'.passes ≡ length w.passes
  pub pass : ℕ
  pub inside : pass < length w.passes
  pub before : List Turn
  pub finds : List Turn
  pub after : List Turn
  pub are : AreFinds w.ended k finds
  pub found : (view_at w'.passes pass).found ≡ before ++ finds ++ after

-- between two quiet moments each pass made so many claims (own choice)
abbrev pub MadeIn : WorkView → WorkView → (ℕ → ℕ) → Type 0
MadeIn w w' made = (q : ℕ) → q < length w.passes → (new : List Turn) × ((view_at w'.passes q).claims ≡ (view_at w.passes q).claims ++ new) × (length new ≡ made q)

-- how many pushes are not taken, where every pass is ended (own choice)
abbrev pub pending_count : WorkView → ℕ
pending_count w = sum_to (length w.passes) (λ p. length (view_at w.passes p).mine) - length w.taken
