-- The memory of one source, for tests of what is generic in `Firmware`.
use Rattle.std.specs.Prelude.{◌≡◌, ℕ, ◌<◌, ◌^◌, Bool, List, Option, Some, None}
use Rattle.std.specs.List.{AllByRecursion, AllByRecursion-prop}
use Rattle.std.proofs.Props.{props}
use Rattle.apei_base.specs.Bus.{Access, Reach}
use Rattle.apei_base.specs.Firmware.{Seen, FitsAck, IsAnswered, IsRaised, IsSound, after_access}

-- what its parts mean: its status address register, its read ack register, if it has one, where its area begins and how long it is, and what firmware and receiver did
-- (own choice)
abbrev pub seen_by_parts : Reach → Option Reach → ℕ → ℕ → ℕ → List (List ℕ) → ℕ → Bool → Seen
seen_by_parts status ack area room cell made acknowledged waits = record {
  layout = record { status = status; area = area; room = room; ack = ack };
  cell = cell;
  made = made;
  acknowledged = acknowledged;
  waits = waits;
  planned = 0;
}

-- it is sound, and its status address register is wide enough for the address of the area (own choice)
pub record IsWhole (seen : Seen) : Type 0 where
  pub sound : IsSound seen 0
  pub status : seen.layout.area < 2 ^ seen.layout.status.width

-- an access answers and leaves what its meaning says (own choice)
abbrev pub IsPlainStep : Seen → Access → Seen → Type 0
IsPlainStep before access after = IsAnswered access before × (after ≡ after_access access before)

-- that all blocks are raised has one proof at most, as a ghost field has to
pub raised_prop : (blocks : List (List ℕ)) → IsProp (AllByRecursion IsRaised blocks)
raised_prop blocks = AllByRecursion-prop IsRaised (λ block. Prim.hlevel props) blocks

-- that a cell fits has one proof at most, as a ghost field has to
pub fits_prop : (ack : Option Reach) (cell : ℕ) → IsProp (FitsAck ack cell)
fits_prop None cell = Prim.hlevel props
fits_prop (Some register) cell = Prim.hlevel props
