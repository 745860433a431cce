-- What an output in memory holds, and what one put changes.
use Rattle.std.specs.Prelude.{◌≤◌, ◌+◌, ◌-◌, ◌^◌, ◌++◌, ◌||◌, ℕ, Bool, List, [], length, min, nat_lt, Some}
use Rattle.ghes_outside.specs.Outside.{SinkSeen}
use Rattle.fault_plan.specs.Plan.{Calls, no_calls, with_call, fails_next}

-- the bytes that were taken, the room for all of them, the numbered puts, and how often one has failed (own choice)
pub record SinkState : Type 0 where
  pub taken : List ℕ
  pub room : ℕ
  pub calls : Calls
  pub faulted : ℕ

-- the bytes fit the room, and the room fits the memory (own choice)
pub record IsWithinRoom (len room capacity : ℕ) : Type 0 where
  pub fits : len ≤ room
  pub held : room ≤ capacity

-- all bytes that were taken are told (own choice)
abbrev pub told_by : SinkState → SinkSeen
told_by sink = record { written = Some sink.taken; faults = sink.faulted }

-- an output that took nothing yet (own choice)
abbrev pub empty_sink : ℕ → List ℕ → SinkState
empty_sink room failing = record { taken = []; room = room; calls = no_calls failing; faulted = 0 }

-- the next put is refused: it is to fail, or would pass the room (own choice)
abbrev pub refuses : SinkState → List ℕ → Bool
refuses sink bytes = fails_next sink.calls || nat_lt (sink.room - length sink.taken) (length bytes)

-- the output after a put that was refused, which took nothing (own choice)
abbrev pub after_refusal : SinkState → SinkState
after_refusal sink = record sink { calls = with_call sink.calls; faulted = min (sink.faulted + 1) (2 ^ 64 - 1) }

-- the output after a put that was taken whole (own choice)
abbrev pub after_put : SinkState → List ℕ → SinkState
after_put sink bytes = record sink { taken = sink.taken ++ bytes; calls = with_call sink.calls }
