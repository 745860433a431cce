-- The blocks of a source, how many of them were acknowledged, and which one stands.
use Rattle.std.specs.Prelude.{ℕ, ◌+◌, ◌-◌, ◌==◌, ◌&&◌, ◌||◌, if◌then◌else◌, nat_lt, List, [], ◌∷◌, ◌++◌, length, filter, slice_get, Option, None}
use Rattle.std.specs.List.{flat_map}
use Rattle.ghes_call.specs.declared.call.Call.{Call}
use Rattle.ghes_ledger.specs.History.{Made, Executed, fails_by}
use Rattle.ghes_ledger.specs.Outcomes.{number_of, is_fault, is_failed}

-- the blocks of a source among these
abbrev pub blocks_of : ℕ → List Made → List (List ℕ)
blocks_of s made = flat_map (λ block. if block.source == s then block.bytes ∷ [] else []) made

-- The queue of a source: the blocks that these lines made for it, in order. Block n is the n-th, from 1 on.
abbrev pub queue : ℕ → List Executed → List (List ℕ)
queue s [] = []
queue s (line ∷ before) = queue s before ++ blocks_of s line.made

-- block n of a queue
abbrev pub block_at : ℕ → List (List ℕ) → Option (List ℕ)
block_at n blocks = slice_get blocks (n - 1)

-- the number of the block of a source that a call acknowledged, if it did (own choice)
abbrev pub number_by : ℕ → Call → List ℕ
number_by s call = if call.source == s then number_of call.reply.outcome else []

-- the numbers of the blocks of a source that these calls acknowledged, in order (own choice)
abbrev pub numbers_of : ℕ → List Call → List ℕ
numbers_of s calls = flat_map (number_by s) calls

-- how many blocks of a source these calls acknowledged
abbrev pub acknowledged : ℕ → List Call → ℕ
acknowledged s calls = length (numbers_of s calls)

-- the calls on a source whose acknowledgement failed (own choice)
abbrev pub stuck_calls : ℕ → List Call → List Call
stuck_calls s calls = filter (λ call. (call.source == s) && is_failed call.reply.ack) calls

-- the calls on a source in which an access failed (own choice)
abbrev pub faulty_calls : ℕ → List Call → List Call
faulty_calls s calls = filter (λ call. (call.source == s) && (is_fault call.reply.outcome || is_failed call.reply.ack)) calls

-- how many accesses of a source were to fail
abbrev pub fails_in : ℕ → List Executed → ℕ
fails_in s [] = 0
fails_in s (line ∷ before) = fails_in s before + fails_by s line.act.asks

-- The block of a source that stands for a call, told the lines before its line and all calls before it: the first that was
-- made and not acknowledged. Once an acknowledgement of the source failed none stands.
abbrev pub standing : ℕ → List Executed → List Call → Option (List ℕ)
standing s before past = if nat_lt 0 (length (stuck_calls s past)) then None else slice_get (queue s before) (acknowledged s past)
