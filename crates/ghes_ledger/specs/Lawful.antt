-- When a ledger is lawful. Its laws speak of the lines of a script, the blocks of each source and the ledger, and of nothing
-- that lies between a block and its fate.
use Rattle.std.specs.Prelude.{◌≡◌, ◌≤◌, ◌<◌, ℕ, ◌+◌, ◌==◌, ◌&&◌, Bool, true, false, List, [], ◌∷◌, ◌++◌, length, take, filter, Option, Some, None, IsNone}
use Rattle.std.specs.List.{range_with_len, AllByRecursion}
use Rattle.cper_block.specs.declared.malformed.Malformed.{Malformed as Reason}
use Rattle.ghes_call.specs.declared.call.AckState.{AckState}
use Rattle.ghes_call.specs.declared.call.AckState.TheVariants.{NotAsked}
use Rattle.ghes_call.specs.declared.call.Call.{Call}
use Rattle.ghes_call.specs.declared.call.Outcome.{Outcome}
use Rattle.ghes_call.specs.declared.call.Outcome.TheVariants.{Nothing, Queued, Malformed, Duplicate, Fatal, NoSlot, Fault, Stopped}
use Rattle.ghes_call.specs.Packet.{PacketSeen}
use Rattle.ghes_ledger.specs.declared.ledger.InjectionEnd.{InjectionEnd}
use Rattle.ghes_ledger.specs.declared.ledger.InjectionEnd.TheVariants as ended
use Rattle.ghes_ledger.specs.declared.ledger.Report.{Report}
use Rattle.ghes_ledger.specs.Asks.{Peek, Asks, Quiet, Makes, Injects, Calls, Runs, Drains, Ends}
use Rattle.ghes_ledger.specs.History.{Act, script_end, Made, Executed, acts_in, calls_in, ends_in, peeks_in, taken_in, of_context, kept_calls, marks_in, clock_after, Each, EachCall}
use Rattle.cper_block.specs.Image.{image_of, image_reason, is_fatal}
use Rattle.ghes_ledger.specs.Kept.{Kept}
use Rattle.ghes_ledger.specs.Names.{packet_of, panic_packet, queued_names, fatal_names, taken_names, panic_names, waiting, fatals, served_by}
use Rattle.ghes_ledger.specs.Outcomes.{number_of, acknowledges, is_fault, is_done}
use Rattle.ghes_ledger.specs.Plan.{Plan}
use Rattle.ghes_ledger.specs.Queue.{queue, block_at, numbers_of, acknowledged, faulty_calls, fails_in, standing}
use Rattle.ghes_ledger.specs.Reports.{hit, IsFound, reports_in, AreTold}
use Rattle.ghes_ledger.specs.Turns.{AreCallsOf, IsMadeBy}

-- The laws of a line

-- No line is executed behind a fatal call, and the end of a script stands behind one too.
abbrev pub StopsAtFatal : List Executed → Asks → Type 0
StopsAtFatal before Ends = Unit {0}
StopsAtFatal before _ = fatal_names (calls_in before) ≡ []

-- an injection's block, by how it ended: the next of its source, or none
abbrev pub MadeAtEnd : List Executed → List Made → InjectionEnd → Type 0
MadeAtEnd before made (ended.Made s n) = (block : List ℕ) × (made ≡ record { source = s; bytes = block } ∷ []) × (n ≡ length (queue s before) + 1)
MadeAtEnd before made _ = made ≡ []

-- The blocks that a line makes, and the ends of its injections.
abbrev pub MakesBlocks : List Executed → Asks → List Made → List InjectionEnd → Type 0
MakesBlocks before (Makes s block) made ends = (made ≡ record { source = s; bytes = block } ∷ []) × (ends ≡ [])
MakesBlocks before Injects made ends = (end : InjectionEnd) × (ends ≡ end ∷ []) × MadeAtEnd before made end
MakesBlocks before _ made ends = (made ≡ []) × (ends ≡ [])

-- how often the register of a source was written
abbrev pub written_to : ℕ → List Call → ℕ
written_to s calls = length (filter (λ call. (call.source == s) && is_done call.reply.ack) calls)

-- what a line prints of an ack cell
abbrev pub peeked : Plan → List Executed → Asks → List ℕ
peeked plan before (Quiet (Peek s)) = plan.cell s (written_to s (calls_in before)) ∷ []
peeked plan before _ = []

-- All that was made pending so far is taken, unless a call was fatal: for each context in the order of its calls.
abbrev pub TakesAll : Plan → List Executed → Type 0
TakesAll plan history = fatal_names (calls_in history) ≡ [] → (c : ℕ) → served_by plan c (taken_names (taken_in history)) ≡ served_by plan c (queued_names (calls_in history))

-- Lines `work` and `run` and the end of a script take all that is pending, and no other line takes a block.
abbrev pub Takes : Plan → List Executed → Executed → Asks → Type 0
Takes plan before line Drains = TakesAll plan (line ∷ before)
Takes plan before line (Runs n) = TakesAll plan (line ∷ before)
Takes plan before line Ends = TakesAll plan (line ∷ before) × ((fatal_names (calls_in before) ≡ [] → ⊥) → line.taken ≡ [])
Takes plan before line _ = line.taken ≡ []

-- The laws of a call

-- The read ack register is asked exactly where a block was acknowledged and the source has one.
abbrev pub IsAsked : Bool → AckState → Type 0
IsAsked true ack = ack ≡ NotAsked → ⊥
IsAsked false ack = ack ≡ NotAsked

-- A block stands for which this holds.
abbrev pub StandsWith : (List ℕ → Type 0) → Option (List ℕ) → Type 0
StandsWith P stands = (block : List ℕ) × (stands ≡ Some block) × P block

-- the image of a block is well formed and not fatal (own choice)
abbrev pub IsNews : ℕ → List ℕ → Type 0
IsNews limit block = (image_reason limit block ≡ None) × (is_fatal (image_of limit block) ≡ false)

-- the image of a block is well formed and fatal (own choice)
abbrev pub IsFatal : ℕ → List ℕ → Type 0
IsFatal limit block = (image_reason limit block ≡ None) × (is_fatal (image_of limit block) ≡ true)

-- What an outcome says of the block that stands under its source's limit. Fault and Stopped say nothing of it.
abbrev pub FitsBlock : ℕ → Option (List ℕ) → Outcome → Type 0
FitsBlock limit stands Nothing = IsNone stands
FitsBlock limit stands (Queued number) = StandsWith (IsNews limit) stands
FitsBlock limit stands (Duplicate number report) = StandsWith (IsNews limit) stands
FitsBlock limit stands (Malformed number reason) = StandsWith (λ block. image_reason limit block ≡ Some reason) stands
FitsBlock limit stands (Fatal number) = StandsWith (IsFatal limit) stands
FitsBlock limit stands NoSlot = StandsWith (λ block. image_reason limit block ≡ None → is_fatal (image_of limit block) ≡ false) stands
FitsBlock limit stands Fault = Unit {0}
FitsBlock limit stands Stopped = Unit {0}

-- NoSlot comes only where enough other calls up to the end of the line hold a slot: those of blocks that were made pending and
-- not taken before the line, and those that failed in it.
abbrev pub FitsSlots : Plan → List Executed → Executed → Outcome → Type 0
FitsSlots plan before line NoSlot =
    plan.slots + length (taken_in before) ≤ length (queued_names (calls_in (line ∷ before))) + length (filter (λ call. is_fault call.reply.outcome) line.calls)
FitsSlots plan before line _ = Unit {0}

-- In a line with one call a block is made pending only where a slot is free.
abbrev pub HasRoom : Plan → List Executed → Asks → List Call → Type 0
HasRoom plan before (Calls s) calls = 1 ≤ length (queued_names calls) → length (queued_names (calls_in before)) < plan.slots + length (taken_in before)
HasRoom plan before _ calls = Unit {0}

-- Stopped comes only where a call of the same line is fatal.
abbrev pub FitsStop : Executed → Outcome → Type 0
FitsStop line Stopped = 1 ≤ length (fatal_names line.calls)
FitsStop line _ = Unit {0}

-- What a look at reports says of an outcome: Duplicate names the report that it finds, and Queued and NoSlot come where it finds none.
abbrev pub FitsHit : Option Reason → Option ℕ → Outcome → Type 0
FitsHit reason found (Duplicate number report) = found ≡ Some report
FitsHit reason found (Queued number) = found ≡ None
FitsHit None found NoSlot = found ≡ None
FitsHit reason found _ = Unit {0}

-- What a look at these reports says of an outcome, told the places of the cache and the block that stands under a limit (own choice).
abbrev pub FitsLook : ℕ → ℕ → Option (List ℕ) → List Report → ℕ → Outcome → Type 0
FitsLook places limit None reports now outcome = Unit {0}
FitsLook places limit (Some block) reports now outcome = FitsHit (image_reason limit block) (hit places reports (image_of limit block) now) outcome

-- Each of these calls of one context looks at the first so many of these reports, told how many the one before it saw at least.
abbrev pub Looks : Plan → List Executed → List Report → ℕ → List Call → List Call → Type 0
Looks plan before reports seen past [] = Unit {0}
Looks plan before reports seen past (call ∷ calls) =
    (sees : ℕ) × (seen ≤ sees) × (sees ≤ length reports)
    × FitsLook plan.places (plan.limit call.source) (standing call.source before past) (take sees reports) call.now call.reply.outcome
    × Looks plan before reports sees (past ++ call ∷ []) calls

-- each context sees in a line at least the reports that stood before it, and at most those that stand behind it
abbrev pub LooksInLine : Plan → List Executed → Executed → Type 0
LooksInLine plan before line =
    (c : ℕ) → Looks plan before (reports_in (line ∷ before)) (length (reports_in before)) (calls_in before) (of_context c line.calls)

-- A Duplicate call of a line, told all calls before it, names a report that stands behind the line and has the bytes of the block's
-- image, is not from after the call, and is less than the window old (own choice).
abbrev pub NamesReport : Plan → List Executed → Executed → List Call → Call → Outcome → Type 0
NamesReport plan before line past call (Duplicate number report) =
    (block : List ℕ) × (standing call.source before past ≡ Some block)
    × IsFound (reports_in (line ∷ before)) (image_of (plan.limit call.source) block) call.now report
NamesReport plan before line past call _ = Unit {0}

-- A packet is the image of the block that it names, with the reason of that image.
pub record IsImageIn (plan : Plan) (history : List Executed) (packet : PacketSeen) : Type 0 where
  pub block : List ℕ
  pub at : block_at packet.seq (queue packet.source history) ≡ Some block
  pub bytes : packet.bytes ≡ image_of (plan.limit packet.source) block
  pub reason : packet.reason ≡ image_reason (plan.limit packet.source) block

-- The whole ledger

-- The lines that are executed: all of them, or those up to the first with a fatal call.
pub record AreExecuted (lines executed : List Act) (history : List Executed) : Type 0 where
  pub rest : List Act
  pub cut : lines ≡ executed ++ rest
  pub all : fatal_names (calls_in history) ≡ [] → rest ≡ []
  pub acts : acts_in history ≡ executed ++ script_end ∷ []

-- The ledger keeps what the history tells.
pub record Tells (plan : Plan) (kept : Kept) (history : List Executed) : Type 0 where
  pub calls : kept.calls ≡ kept_calls plan history
  pub taken : kept.taken ≡ taken_in history
  pub reports : kept.reports ≡ reports_in history
  pub injections : kept.injections ≡ ends_in history
  pub peeks : kept.peeks ≡ peeks_in history
  pub marks : kept.marks ≡ marks_in plan history

-- What holds of a call, told the lines before its line, its line, all calls before it, and the call.
pub record IsLawfulCall (plan : Plan) (before : List Executed) (line : Executed) (past : List Call) (call : Call) : Type 0 where
  -- it is made by the context that serves its source, at the time of its line
  pub by : IsMadeBy plan before call
  -- the block that it acknowledges was made before the line, and its source's register is asked
  pub made : AllByRecursion (λ number. number ≤ length (queue call.source before)) (number_of call.reply.outcome)
  pub asked : IsAsked (acknowledges call.reply.outcome && plan.has_ack call.source) call.reply.ack
  -- what its outcome says of the block that stands, of the slots, and of a stop
  pub block : FitsBlock (plan.limit call.source) (standing call.source before past) call.reply.outcome
  pub slots : FitsSlots plan before line call.reply.outcome
  pub stop : FitsStop line call.reply.outcome

-- What holds of a line, told the lines before it.
pub record IsLawfulLine (plan : Plan) (before : List Executed) (line : Executed) : Type 0 where
  pub stops : StopsAtFatal before line.act.asks
  pub makes : MakesBlocks before line.act.asks line.made line.ends
  pub peeks : line.peeks ≡ peeked plan before line.act.asks
  -- which calls it makes, and what holds of each
  pub calls : AreCallsOf plan line.act.asks line.calls
  pub each_call : EachCall (IsLawfulCall plan before line) (calls_in before) line.calls
  pub room : HasRoom plan before line.act.asks line.calls
  pub looks : LooksInLine plan before line
  -- no more calls of a source fail than accesses were to fail
  pub faults : (s : ℕ) → length (faulty_calls s (calls_in (line ∷ before))) ≤ fails_in s before
  -- when blocks are taken, and how they are told
  pub takes : Takes plan before line line.act.asks
  pub told : AreTold plan.places (clock_after before) (reports_in before) line.taken
  -- each is the image of the block that it names
  pub images : AllByRecursion (λ entry. IsImageIn plan before (packet_of entry)) line.taken

-- The ledger of these lines is lawful, by its history. A law that speaks of a source or a context holds of each.
pub record IsLawful (plan : Plan) (lines : List Act) (kept : Kept) (history : List Executed) : Type 0 where
  pub executed : List Act
  pub lines_executed : AreExecuted lines executed history
  pub beside : Tells plan kept history
  pub each_line : Each (IsLawfulLine plan) history
  -- the acknowledged blocks of a source carry 1, 2, 3 .. in order
  pub numbers : (s : ℕ) → numbers_of s (calls_in history) ≡ range_with_len 1 (acknowledged s (calls_in history))
  -- the pending blocks of a context are taken in the order of its calls, and those that were not taken stand in that order in the panic list
  pub order : (c : ℕ) → served_by plan c (taken_names kept.taken ++ panic_names (waiting kept.panic)) ≡ served_by plan c (queued_names (calls_in history))
  -- the fatal blocks of the panic list are those of the fatal calls, by context, behind all others, and without one there is no panic
  pub panic_order : kept.panic ≡ waiting kept.panic ++ fatals kept.panic
  pub fatal_blocks : panic_names (fatals kept.panic) ≡ fatal_names (calls_in history)
  pub no_panic : fatal_names (calls_in history) ≡ [] → kept.panic ≡ []
  -- each block of the panic list is the image of the block that it names
  pub panic_images : AllByRecursion (λ entry. IsImageIn plan history (panic_packet entry)) kept.panic
