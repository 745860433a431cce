-- Entries of a ledger that may be printed: a block without a reason to be dropped is well formed.
use Rattle.std.specs.Prelude.{◌≡◌, ℕ, List, Option, None}
use Rattle.std.specs.List.{AllByRecursion}
use Rattle.cper_block.specs.Reason.{reason_of}
use Rattle.cper_block.specs.declared.malformed.Malformed.{Malformed}
use Rattle.ghes_ledger.specs.declared.ledger.PanicEntry.{PanicEntry}
use Rattle.ghes_ledger.specs.declared.ledger.Taken.{Taken}
use Rattle.ghes_ledger.specs.Kept.{Kept}
use Rattle.ghes_ledger.specs.Names.{packet_of, panic_packet}

-- without a reason the bytes are a well-formed block of at most 65,536 bytes
abbrev pub IsSoundWith : Option Malformed → List ℕ → Type 0
IsSoundWith reason bytes = reason ≡ None → reason_of bytes 65536 ≡ None

-- a taken block may be printed
abbrev pub IsSoundTaken : Taken → Type 0
IsSoundTaken entry = IsSoundWith (packet_of entry).reason (packet_of entry).bytes

-- a block of a panic list may be printed
abbrev pub IsSoundEntry : PanicEntry → Type 0
IsSoundEntry entry = IsSoundWith (panic_packet entry).reason (panic_packet entry).bytes

-- all blocks of a ledger may be printed
pub record IsSound (kept : Kept) : Type 0 where
  pub taken : AllByRecursion IsSoundTaken kept.taken
  pub panic : AllByRecursion IsSoundEntry kept.panic
