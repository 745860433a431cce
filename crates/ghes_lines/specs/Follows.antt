-- What ties the memory of the sources, what is pending and the ledger to a history of executed lines.
use Rattle.std.specs.Prelude.{◌≡◌, ◌≤◌, ℕ, nat_lt, List, [], ◌∷◌, ◌++◌, map, length, slice_get, Some}
use Rattle.std.specs.List.{range_with_len, AllByRecursion}
use Rattle.apei_base.specs.Firmware.{Seen}
use Rattle.ghes_call.specs.Packet.{PacketSeen}
use Rattle.ghes_call.specs.Receive.{ReceiveSeen, IsOfSource}
use Rattle.ghes_call.specs.declared.call.Call.{Call}
use Rattle.ghes_ledger.specs.History.{Made, Executed, calls_in, taken_in, clock_after, Each}
use Rattle.ghes_ledger.specs.Lawful.{written_to, IsImageIn, IsLawfulLine, Tells}
use Rattle.ghes_ledger.specs.Names.{panic_packet, name_of, queued_names, fatal_names, taken_names, panic_names, waiting, fatals, served_by}
use Rattle.ghes_ledger.specs.Plan.{Plan}
use Rattle.ghes_ledger.specs.Queue.{queue, numbers_of, acknowledged, stuck_calls, faulty_calls, fails_in}
use Rattle.ghes_ledger.specs.declared.ledger.PanicEntry.{PanicEntry}
use Rattle.ghes_nmi.specs.Receive.{receive_seen}
use Rattle.ghes_desk.specs.Desk.{DeskSeen}
use Rattle.ghes_lines.specs.Machine.{plan_of}
use Rattle.ghes_lines.specs.declared.machine.Machine.{Machine}
use Rattle.ghes_lines.specs.declared.machine.Source.{Source}

-- the blocks that the lines of a history made, oldest first
abbrev pub blocks_in : List Executed → List Made
blocks_in [] = []
blocks_in (line ∷ before) = blocks_in before ++ line.made

-- The memory of a source agrees with the blocks that were made for it, the calls so far, and how many accesses were to fail: firmware has
-- raised those blocks, as many of them are acknowledged as calls acknowledged, one is awaited where an acknowledgement failed, the read
-- ack register holds what so many writes leave there, each call that failed was counted, and no more accesses are to fail.
pub record IsTied (plan : Plan) (receive : ReceiveSeen) (s : ℕ) (made : List (List ℕ)) (past : List Call) (fails : ℕ) (port : Seen) (faults : ℕ) : Type 0 where
  pub source : IsOfSource receive port.layout
  pub made_is : port.made ≡ made
  pub acknowledged_is : port.acknowledged ≡ acknowledged s past
  pub waits_is : port.waits ≡ nat_lt 0 (length (stuck_calls s past))
  pub cell_is : port.cell ≡ plan.cell s (written_to s past)
  pub failed : length (faulty_calls s past) ≤ faults
  pub planned : port.planned ≤ fails

-- The laws of a ledger hold of a history so far, told what is pending and the panic list: each line is lawful; the acknowledged blocks
-- of each source are numbered in order; the blocks of a context that were taken, those that are pending and those that stand in the panic
-- list are in the order of its calls; each is the image of the block that it names; and the panic list is that of the fatal calls.
pub record IsAccount (plan : Plan) (history : List Executed) (pending : List PacketSeen) (panic : List PanicEntry) : Type 0 where
  pub lines : Each (IsLawfulLine plan) history
  pub numbers : (s : ℕ) → numbers_of s (calls_in history) ≡ range_with_len 1 (acknowledged s (calls_in history))
  pub order : (c : ℕ) → served_by plan c ((taken_names (taken_in history) ++ map name_of pending) ++ panic_names (waiting panic)) ≡ served_by plan c (queued_names (calls_in history))
  pub images : AllByRecursion (IsImageIn plan history) pending
  pub panic_images : AllByRecursion (λ entry. IsImageIn plan history (panic_packet entry)) panic
  pub panic_order : panic ≡ waiting panic ++ fatals panic
  pub fatal_blocks : panic_names (fatals panic) ≡ fatal_names (calls_in history)
  pub no_panic : fatal_names (calls_in history) ≡ [] → panic ≡ []

-- The history leads to what the replay has: it is lawful so far, the ledger tells it, the memory of each source is tied to it, and the
-- time and the count of blocks are those of its lines. Behind a fatal call nothing is pending.
pub record Follows {P : Type 0} (seen : P → Seen) (faults : P → ℕ) (machine : Machine) (ports : List P) (desk : DeskSeen) (history : List Executed) : Type 0 where
  pub as_many : length ports ≡ length machine.sources.items
  pub tied : (s : ℕ) (source : Source) (port : P) → slice_get machine.sources.items s ≡ Some source → slice_get ports s ≡ Some port
      → IsTied (plan_of machine) (receive_seen source.receive) s (queue s history) (calls_in history) (fails_in s history) (seen port) (faults port)
  pub account : IsAccount (plan_of machine) history desk.pending.packets desk.ledger.panic
  pub tells : Tells (plan_of machine) desk.ledger history
  pub time : desk.clock ≡ clock_after history
  pub slots : desk.pending.slots ≡ machine.slots
  pub few : length desk.pending.packets ≤ machine.slots
  pub blocks : desk.blocks ≡ length (blocks_in history)
  pub left : (fatal_names (calls_in history) ≡ [] → ⊥) → desk.pending.packets ≡ []
