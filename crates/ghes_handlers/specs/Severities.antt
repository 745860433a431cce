-- A counter of severities, and the lists of deliveries that it stands for.
use Rattle.std.specs.Prelude.{ℕ, ◌≡◌, ◌+◌, ◌-◌, ◌^◌, min, nat_lt, if◌then◌else◌, Bool, true, false, List, length, count_by, Option, Some, None}
use Rattle.cper_block.specs.declared.severity.Severity.{Severity}
use Rattle.cper_block.specs.declared.severity.Severity.TheVariants.{Recoverable, Fatal, Corrected, Informational}
use Rattle.cper_block.specs.Header.{header_size, header_of}
use Rattle.cper_block.specs.Severity.{severity_of}
use Rattle.ghes_notify.specs.Delivery.{Delivery}
use Rattle.ghes_report.specs.Severities.{severities_line}

-- how many blocks of each severity were counted
pub record Counted : Type 0 where
  pub recoverable : ℕ
  pub fatal : ℕ
  pub corrected : ℕ
  pub none : ℕ

-- the severity of a block, where its bytes have a header (ACPI 6.5, 18.3.2.7.1)
abbrev pub severity_in : List ℕ → Option Severity
severity_in bytes = if nat_lt (length bytes) header_size then None else Some (severity_of (header_of bytes).severity)

-- of which severity a block is
abbrev pub is_recoverable : Option Severity → Bool
is_recoverable (Some Recoverable) = true
is_recoverable _ = false

abbrev pub is_fatal : Option Severity → Bool
is_fatal (Some Fatal) = true
is_fatal _ = false

abbrev pub is_corrected : Option Severity → Bool
is_corrected (Some Corrected) = true
is_corrected _ = false

abbrev pub is_informational : Option Severity → Bool
is_informational (Some Informational) = true
is_informational _ = false

-- how many deliveries have a severity of this kind, or 2^64 - 1 where there are more (own choice)
abbrev pub counted : (Option Severity → Bool) → List Delivery → ℕ
counted test list = min (count_by (λ (d : Delivery). test (severity_in d.bytes)) list) (2 ^ 64 - 1)

-- the counts are those of a list of deliveries (own choice)
pub record AreCountsOf (counts : Counted) (list : List Delivery) : Type 0 where
  pub recoverable : counts.recoverable ≡ counted is_recoverable list
  pub fatal : counts.fatal ≡ counted is_fatal list
  pub corrected : counts.corrected ≡ counted is_corrected list
  pub none : counts.none ≡ counted is_informational list

-- the closing text of a counter
abbrev pub closing_line : Counted → List ℕ
closing_line counts = severities_line counts.recoverable counts.fatal counts.corrected counts.none

-- one more, up to 2^64 - 1 (own choice)
abbrev pub one_more : ℕ → ℕ
one_more count = min (count + 1) (2 ^ 64 - 1)

-- the counts with one block more (own choice)
abbrev pub with_one : Option Severity → Counted → Counted
with_one None counts = counts
with_one (Some Recoverable) counts = record counts { recoverable = one_more counts.recoverable }
with_one (Some Fatal) counts = record counts { fatal = one_more counts.fatal }
with_one (Some Corrected) counts = record counts { corrected = one_more counts.corrected }
with_one (Some Informational) counts = record counts { none = one_more counts.none }
