-- Blocks that firmware raises for its sources.
use Rattle.std.specs.Prelude.{◌≡◌, ◌<◌, ℕ, ◌==◌, nat_lt, nat_le, if◌then◌else◌, List, [], ◌∷◌, length, slice_index_or, slice_set, Option, Some, None, option_map}
use Rattle.std.specs.List.{flat_map, sum_by}
use Rattle.apei_base.specs.Refusal.{first_of}
use Rattle.fw_einj.specs.Block.{block_of}
use Rattle.fw_einj.specs.Machine.{Machine, settled}
use Rattle.fw_einj.specs.declared.port.Made.{Made}
use Rattle.fw_port.specs.Port.{seen, raised, KeepsAccesses}
use Rattle.fw_port.specs.declared.port.SourcePort.{SourcePort}
use Rattle.fw_sim.specs.declared.error.RaiseError.{RaiseError}
use Rattle.fw_sim.specs.declared.error.RaiseError.TheVariants.{NoSource, TooLong, Full, OutOfMemory}

-- how many blocks a port was given (own choice)
abbrev pub blocks_of : SourcePort → ℕ
blocks_of port = length (seen port).made

-- how many blocks the machine has (own choice)
abbrev pub blocks_in : List SourcePort → ℕ
blocks_in ports = sum_by blocks_of ports

-- why a block of so many bytes is not raised, the first reason that holds (own choice)
abbrev pub length_refusal : List SourcePort → ℕ → ℕ → Option RaiseError
length_refusal ports source bytes = first_of (
    (nat_le (length ports) source, NoSource) ∷
    (nat_lt 65536 bytes, TooLong) ∷
    (nat_le 65536 (blocks_in ports), Full) ∷ [])

-- why a block is not raised (own choice)
abbrev pub raise_refusal : List SourcePort → ℕ → List ℕ → Option RaiseError
raise_refusal ports source block = length_refusal ports source (length block)

-- an error names the reason, and there is none where only memory was wanting (own choice)
abbrev pub IsRefused : Option RaiseError → RaiseError → Type 0
IsRefused reason NoSource = reason ≡ Some NoSource
IsRefused reason TooLong = reason ≡ Some TooLong
IsRefused reason Full = reason ≡ Some Full
IsRefused reason OutOfMemory = reason ≡ None

-- One port has one block more, at its end, and all the rest is the same (own choice).
pub record IsRaisedAt (old : List SourcePort) (source : ℕ) (block : List ℕ) (new : List SourcePort) : Type 0 where
  pub within : source < length old
  pub port : SourcePort
  pub ports : new ≡ slice_set old source port
  pub seen_is : (none : SourcePort) → seen port ≡ raised block (seen (slice_index_or old source none))
  pub kept : (none : SourcePort) → KeepsAccesses (slice_index_or old source none) port

-- a port to which nothing has happened that a contract sees (own choice)
pub record IsSamePort (old new : SourcePort) : Type 0 where
  pub seen_is : seen new ≡ seen old
  pub kept : KeepsAccesses old new

-- to no port anything has happened that a contract sees (own choice)
pub record AreSamePorts (old new : List SourcePort) : Type 0 where
  pub as_many : length new ≡ length old
  pub each : (k : ℕ) (none : SourcePort) → k < length old → IsSamePort (slice_index_or old k none) (slice_index_or new k none)

-- the number of the last block of a source, counted from 1 (own choice)
abbrev pub IsNumberAt : List SourcePort → ℕ → ℕ → Type 0
IsNumberAt ports source number = (none : SourcePort) → number ≡ blocks_of (slice_index_or ports source none)

-- the blocks that were raised for a source, in order (own choice)
abbrev pub queue_of : List (ℕ × List ℕ) → ℕ → List (List ℕ)
queue_of raises source = flat_map (λ raise. if raise.0 == source then raise.1 ∷ [] else []) raises

-- the blocks of each source are those that were raised for it (own choice)
abbrev pub AreQueues : List SourcePort → List (ℕ × List ℕ) → Type 0
AreQueues ports raises = (k : ℕ) (none : SourcePort) → k < length ports → (seen (slice_index_or ports k none)).made ≡ queue_of raises k

-- what the last trigger made, if there is a machine that injects (own choice)
abbrev pub made_by : Option Machine → Option Made
made_by None = None
made_by (Some machine) = machine.made

-- Nothing was made, and nothing changes; or the block of what was made is raised for its source, and taken from the machine
-- that injects (own choice).
abbrev pub IsSettled : Option Made → (old new : List SourcePort) → (before after : Option Machine) → Option (ℕ × ℕ) → Type 0
IsSettled None old new before after None = (new ≡ old) × (after ≡ before)
IsSettled None old new before after (Some answer) = ⊥
IsSettled (Some made) old new before after None = ⊥
IsSettled (Some made) old new before after (Some answer) =
    (answer.0 ≡ made.source) × IsNumberAt new made.source answer.1 × IsRaisedAt old made.source (block_of made.injection) new
    × (after ≡ option_map settled before)

-- the reason is that of raising what was made (own choice)
abbrev pub IsSettleRefused : Option Made → List SourcePort → RaiseError → Type 0
IsSettleRefused None ports error = ⊥
IsSettleRefused (Some made) ports error = IsRefused (raise_refusal ports made.source (block_of made.injection)) error
