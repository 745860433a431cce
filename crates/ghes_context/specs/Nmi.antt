-- One call of a context: what it answers, and what it leaves.
use Rattle.std.specs.Prelude.{◌≡◌, ℕ, ◌+◌, true, [], ◌∷◌, ◌++◌, IfSome, slice_get, slice_index}
use mathlib.Core.List.{IsPrefix}
use Rattle.apei_base.specs.Firmware.{Seen}
use Rattle.ghes_call.specs.Call.{Failure, Nowhere, BeforeCleared, BehindCleared, Saw, IsCall}
use Rattle.ghes_call.specs.Receive.{IsOfSource}
use Rattle.ghes_call.specs.declared.call.Reply.{Reply}
use Rattle.ghes_rule.specs.Moves.{with_load}
use Rattle.ghes_throttle.specs.Reports.{hit}
use Rattle.ghes_nmi.specs.Receive.{receive_seen}
use Rattle.ghes_nmi.specs.declared.receive.Receive.{Receive}
use Rattle.ghes_context.specs.Context.{ContextSeen}
use Rattle.ghes_context.specs.Ends.{counted}
use Rattle.ghes_context.specs.Found.{standing_image}
use Rattle.ghes_context.specs.Told.{HasFoundAll, HasTold, standing_packet}

-- the memory is that of a source of the context, and as many blocks are acknowledged there as the context counted
pub record IsPortOf (context : ContextSeen) (source : ℕ) (port : Seen) : Type 0 where
  pub source_is : IfSome (slice_get context.sources source) (λ receive. IsOfSource (receive_seen receive) port.layout)
  pub counted_is : port.acknowledged ≡ slice_index context.acknowledged source

-- the count of failed accesses rose by one where an access failed, and is what it was where none did
abbrev pub CountsFailure : Failure → ℕ → ℕ → Type 0
CountsFailure Nowhere before after = after ≡ before
CountsFailure BeforeCleared before after = after ≡ before + 1
CountsFailure BehindCleared before after = after ≡ before + 1

-- What a call saw: the one load of the panic word, the memory before it, the report that its image hits in the list seen in this call,
-- that each of the K slots was found taken by a look of this call where it saw the slots full, and where an access failed.
pub record HasSeen (k now : ℕ) (receive : Receive) (before after : ContextSeen) (port : Seen) (faults faults' : ℕ) (saw : Saw) : Type 0 where
  pub panic : after.pass.view.loads ≡ before.pass.view.loads ++ saw.panic ∷ []
  pub port_is : saw.port ≡ port
  pub hit_is : saw.hit ≡ hit after.reports.list (standing_image receive.limit port) now
  pub full : saw.full ≡ true → HasFoundAll k (with_load before.pass.view saw.panic) after.pass.view
  pub failed : CountsFailure saw.failed faults faults'

-- One call of a context on a source: its reply and what it leaves of the memory are those of a call by what it saw, and its pass knows
-- the load and what the outcome makes of it.
pub record IsNmi (k source now : ℕ) (before after : ContextSeen) (port port' : Seen) (faults faults' : ℕ) (reply : Reply) (receive : Receive) : Type 0 where
  pub saw : Saw
  pub seen : HasSeen k now receive before after port faults faults' saw
  pub call : IsCall (receive_seen receive) saw reply.outcome reply.ack port'
  pub told : HasTold k (standing_packet source receive.limit port) (with_load before.pass.view saw.panic) after.pass.view reply.outcome

-- What a call leaves of its context: the log is longer by this call, the count of the source by the block that was acknowledged, and
-- the reports that were seen before are a front of those seen now.
pub record IsEntered (source now : ℕ) (before after : ContextSeen) (reply : Reply) : Type 0 where
  pub log : after.calls ≡ before.calls ++ record { context = before.number; source = source; now = now; reply = reply } ∷ []
  pub acknowledged : after.acknowledged ≡ counted reply.outcome source before.acknowledged
  pub book : after.reports.book ≡ before.reports.book
  pub list : IsPrefix before.reports.list after.reports.list
  pub table : after.pass.table ≡ before.pass.table
  pub number : after.number ≡ before.number
  pub sources : after.sources ≡ before.sources
  pub block_len : after.block_len ≡ before.block_len
