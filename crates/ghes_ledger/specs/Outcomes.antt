-- What an outcome says of the block that stood.
use Rattle.std.specs.Prelude.{ℕ, Bool, true, false, List, [], ◌∷◌}
pub use Rattle.ghes_call.specs.Call.{acknowledges}
use Rattle.ghes_call.specs.declared.call.Outcome.{Outcome}
use Rattle.ghes_call.specs.declared.call.Outcome.TheVariants.{Queued, Malformed, Duplicate, Fatal, Fault, Stopped}
use Rattle.ghes_call.specs.declared.call.AckState.{AckState}
use Rattle.ghes_call.specs.declared.call.AckState.TheVariants.{Done, Failed}

-- the number of the block that was acknowledged
abbrev pub number_of : Outcome → List ℕ
number_of (Queued number) = number ∷ []
number_of (Malformed number reason) = number ∷ []
number_of (Duplicate number report) = number ∷ []
number_of (Fatal number) = number ∷ []
number_of _ = []

-- the number of the block that became pending
abbrev pub pending_number : Outcome → List ℕ
pending_number (Queued number) = number ∷ []
pending_number (Malformed number reason) = number ∷ []
pending_number _ = []

-- the number of the block that was fatal
abbrev pub fatal_number : Outcome → List ℕ
fatal_number (Fatal number) = number ∷ []
fatal_number _ = []

-- the context makes no further call in its line
abbrev pub ends_turns : Outcome → Bool
ends_turns (Fatal number) = true
ends_turns Stopped = true
ends_turns _ = false

-- an access failed before the block was cleared
abbrev pub is_fault : Outcome → Bool
is_fault Fault = true
is_fault _ = false

-- the register was written
abbrev pub is_done : AckState → Bool
is_done Done = true
is_done _ = false

-- an access after the clear failed
abbrev pub is_failed : AckState → Bool
is_failed Failed = true
is_failed _ = false
