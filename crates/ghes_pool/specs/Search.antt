-- What a search for a free slot answers.
use Rattle.std.specs.Prelude.{◌≡◌, ℕ, ◌<◌, List}
use Rattle.ghes_rule.specs.declared.views.Turn.{Turn}
use Rattle.ghes_rule.specs.declared.views.PassView.{PassView}
use Rattle.ghes_rule.specs.Moves.{with_claim}
use Rattle.ghes_rule.specs.Finds.{AreFinds, after_finds}
use Rattle.ghes_pool.specs.declared.pool.Claimed.{Claimed}
use Rattle.ghes_pool.specs.declared.pool.Claimed.TheVariants.{Slot, AllTaken}

-- the pass looked at the slots from 0 on, found a claim running in each, and claimed the next one; or it looked at all slots, and
-- found a claim running in each (own choice)
abbrev pub HasSearched : ℕ → PassView → PassView → Claimed → Type 0
HasSearched k v v' (Slot claim) = (finds : List Turn) × AreFinds v.since claim.slot finds × (claim.slot < k) × (v' ≡ with_claim (after_finds v claim.slot finds) claim.slot claim.turn)
HasSearched k v v' AllTaken = (finds : List Turn) × AreFinds v.since k finds × (v' ≡ after_finds v k finds)
