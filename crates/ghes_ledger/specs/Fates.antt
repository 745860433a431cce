-- The fates of single blocks, which the laws of a ledger decide.
use Rattle.std.specs.Prelude.{◌≡◌, ◌≤◌, ◌<◌, ℕ, ◌+◌, ◌==◌, ◌&&◌, if◌then◌else◌, List, [], ◌∷◌, ◌++◌, map, length, IsPermutation}
use Rattle.std.specs.List.{flat_map, range_with_len}
use Rattle.ghes_call.specs.declared.call.Call.{Call}
use Rattle.ghes_call.specs.declared.call.Outcome.{Outcome}
use Rattle.ghes_call.specs.declared.call.Outcome.TheVariants.{Duplicate}
use Rattle.ghes_call.specs.Packet.{PacketSeen}
use Rattle.ghes_ledger.specs.declared.fate.Fate.{Fate}
use Rattle.ghes_ledger.specs.declared.fate.Fate.TheVariants as fates
use Rattle.ghes_ledger.specs.declared.ledger.PanicEntry.{PanicEntry}
use Rattle.ghes_ledger.specs.declared.ledger.Taken.{Taken}
use Rattle.ghes_ledger.specs.declared.ledger.Taken.TheVariants.{Delivered, Dropped}
use Rattle.ghes_ledger.specs.Kept.{Kept}
use Rattle.ghes_ledger.specs.Names.{packet_of, panic_packet}
use Rattle.ghes_ledger.specs.Queue.{numbers_of, acknowledged}

-- the fate of block n, where this outcome answers Duplicate for it (own choice)
abbrev pub duplicate_fate : ℕ → Outcome → List Fate
duplicate_fate n (Duplicate number report) = if number == n then fates.Duplicate report ∷ [] else []
duplicate_fate n _ = []

-- the fate of block n of a source, where this call answers Duplicate for it (own choice)
abbrev pub call_fate : ℕ → ℕ → Call → List Fate
call_fate s n call = if call.source == s then duplicate_fate n call.reply.outcome else []

-- the fate of block n of a source, where it is this taken block (own choice)
abbrev pub taken_fate : ℕ → ℕ → Taken → List Fate
taken_fate s n (Delivered source seq bytes reported) = if source == s && seq == n then fates.Delivered ∷ [] else []
taken_fate s n (Dropped source seq bytes reason) = if source == s && seq == n then fates.Dropped reason ∷ [] else []

-- the fate of block n of a source, where it is this block of the panic list (own choice)
abbrev pub panic_fate : ℕ → ℕ → PanicEntry → List Fate
panic_fate s n entry = if entry.source == s && entry.seq == n then fates.Panic ∷ [] else []

-- all fates of block n of a source (own choice)
abbrev pub fates_of : ℕ → ℕ → Kept → List Fate
fates_of s n kept = flat_map (call_fate s n) kept.calls ++ (flat_map (taken_fate s n) kept.taken ++ flat_map (panic_fate s n) kept.panic)

-- the bytes of a packet, where it is block n of a source (own choice)
abbrev pub bytes_if : ℕ → ℕ → PacketSeen → List (List ℕ)
bytes_if s n packet = if packet.source == s && packet.seq == n then packet.bytes ∷ [] else []

-- the bytes of each entry of block n of a source, of the taken blocks and of the panic list (own choice)
abbrev pub entries_of : ℕ → ℕ → Kept → List (List ℕ)
entries_of s n kept = flat_map (bytes_if s n) (map packet_of kept.taken ++ map panic_packet kept.panic)

-- A source's acknowledged blocks have the numbers from 1 on, each once; each of them has exactly one fate, and no other block of the
-- source has one (own choice).
pub record HasOneFateEach (s : ℕ) (kept : Kept) : Type 0 where
  pub numbers : IsPermutation (numbers_of s kept.calls) (range_with_len 1 (acknowledged s kept.calls))
  pub one : (k : ℕ) → k < acknowledged s kept.calls → length (fates_of s (k + 1) kept) ≡ 1
  pub none : (k : ℕ) → acknowledged s kept.calls ≤ k → fates_of s (k + 1) kept ≡ []
  pub not_zero : fates_of s 0 kept ≡ []

-- These are the fates of a source's acknowledged blocks, one each, by number from 1 on (own choice).
abbrev pub AreFatesOf : ℕ → Kept → List Fate → Type 0
AreFatesOf s kept fates = map (λ n. fates_of s n kept) (range_with_len 1 (acknowledged s kept.calls)) ≡ map (λ fate. fate ∷ []) fates
