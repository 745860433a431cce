-- Why a block is malformed, computed: the laws say that this is its judgement.
use Rattle.std.specs.Prelude.{ℕ, zero, suc, ◌+◌, if◌then◌else◌, List, length, drop, Option}
use Rattle.std.specs.Option.{option_or}
use Rattle.cper_block.specs.Block.{data_of, front_reason}
use Rattle.cper_block.specs.Cut.{begins_entry, rest_reason}
use Rattle.cper_block.specs.Entry.{entry_length}
use Rattle.cper_block.specs.declared.malformed.Malformed.{Malformed}

-- the reason of data behind so many whole entries, of which at most n more are passed over
abbrev pub reason_in : ℕ → ℕ → List ℕ → Option Malformed
reason_in zero whole bytes = rest_reason whole bytes
reason_in (suc n) whole bytes =
    if begins_entry bytes then reason_in n (whole + 1) (drop (entry_length bytes) bytes) else rest_reason whole bytes

-- the reason of the bytes of a block's entries: there are at most as many as bytes
abbrev pub data_reason : List ℕ → Option Malformed
data_reason bytes = reason_in (length bytes) 0 bytes

-- why bytes are no well-formed block under a limit, if they are none (ACPI 6.5, 18.3.2.7.1)
unfoldable pub reason_of : List ℕ → ℕ → Option Malformed
reason_of bytes limit = option_or (front_reason bytes limit) (data_reason (data_of bytes))
