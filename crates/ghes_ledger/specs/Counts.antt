-- What the summary of a ledger counts.
use Rattle.std.specs.Prelude.{◌≡◌, ℕ, ◌==◌, ◌&&◌, Bool, true, false, map, length, count_by}
use Rattle.std.specs.List.{range_with_len}
use Rattle.ghes_call.specs.declared.call.Call.{Call}
use Rattle.ghes_call.specs.declared.call.Outcome.{Outcome}
use Rattle.ghes_call.specs.declared.call.Outcome.TheVariants.{Duplicate, NoSlot}
use Rattle.ghes_ledger.specs.declared.ledger.Reported.{Reported}
use Rattle.ghes_ledger.specs.declared.ledger.Reported.TheVariants.{New, Repeat}
use Rattle.ghes_ledger.specs.declared.ledger.Taken.{Taken}
use Rattle.ghes_ledger.specs.declared.ledger.Taken.TheVariants.{Delivered, Dropped}
use Rattle.ghes_ledger.specs.declared.summary.SourceSummary.{SourceSummary}
use Rattle.ghes_ledger.specs.declared.summary.Summary.{Summary}
use Rattle.ghes_ledger.specs.Kept.{Kept}
use Rattle.ghes_ledger.specs.Outcomes.{is_fault}

-- a taken block is a delivery of a source (own choice)
abbrev pub is_delivery : ℕ → Taken → Bool
is_delivery s (Delivered source seq bytes reported) = source == s
is_delivery s (Dropped source seq bytes reason) = false

-- a taken block is a drop of a source (own choice)
abbrev pub is_drop : ℕ → Taken → Bool
is_drop s (Delivered source seq bytes reported) = false
is_drop s (Dropped source seq bytes reason) = source == s

-- an outcome is Duplicate (own choice)
abbrev pub is_duplicate : Outcome → Bool
is_duplicate (Duplicate number report) = true
is_duplicate _ = false

-- a call answered Duplicate for a block of a source (own choice)
abbrev pub is_duplicate_of : ℕ → Call → Bool
is_duplicate_of s call = call.source == s && is_duplicate call.reply.outcome

-- an outcome is NoSlot (own choice)
abbrev pub is_no_slot : Outcome → Bool
is_no_slot NoSlot = true
is_no_slot _ = false

-- a delivery is told as a repeat (own choice)
abbrev pub is_repeated : Reported → Bool
is_repeated (New number) = false
is_repeated (Repeat number) = true

-- a taken block was told as a repeat (own choice)
abbrev pub is_repeat : Taken → Bool
is_repeat (Delivered source seq bytes reported) = is_repeated reported
is_repeat (Dropped source seq bytes reason) = false

-- how many blocks of a source had each fate: a delivery counts also where it is told as a repeat (own choice)
abbrev pub counts_of : Kept → ℕ → SourceSummary
counts_of kept s = record {
  delivered = count_by (is_delivery s) kept.taken;
  duplicate = count_by (is_duplicate_of s) kept.calls;
  dropped = count_by (is_drop s) kept.taken;
  panic = count_by (λ entry. entry.source == s) kept.panic;
}

-- the counts of each source below a number, and those of the whole ledger (own choice)
pub record IsSummaryOf (sources : ℕ) (kept : Kept) (summary : Summary) : Type 0 where
  pub each_source : summary.sources.items ≡ map (counts_of kept) (range_with_len 0 sources)
  pub reports : summary.reports ≡ length kept.reports
  pub repeats : summary.repeats ≡ count_by is_repeat kept.taken
  pub no_slot : summary.no_slot ≡ count_by (λ call. is_no_slot call.reply.outcome) kept.calls
  pub faults : summary.faults ≡ count_by (λ call. is_fault call.reply.outcome) kept.calls
