-- A context that is about to call on a source.
use Rattle.std.specs.Prelude.{◌≡◌, ◌≤◌, ◌<◌, ◌+◌, ◌^◌, ℕ, length}
use Rattle.atomic_table.specs.Seated.{TableId}
use Rattle.apei_base.specs.Firmware.{Seen}
use Rattle.ghes_context.specs.Context.{ContextSeen}
use Rattle.ghes_context.specs.Nmi.{IsPortOf}

-- a context that calls: the shared object that it belongs to, and how many calls it is still to make (own choice)
pub record Calling : Type 0 where
  pub table : TableId
  pub left : ℕ

-- the context belongs to this shared object, the memory is that of its source at this position, and there is room in the log and in
-- the list of claims for so many calls (own choice)
pub record IsReadyFor (table : TableId) (calls source : ℕ) (context : ContextSeen) (port : Seen) : Type 0 where
  pub belongs : context.pass.table ≡ table
  pub within : source < length context.sources
  pub port_is : IsPortOf context source port
  pub few : length context.pass.view.claims + calls ≤ 2 ^ 32
  pub room : length context.calls + calls ≤ context.room
