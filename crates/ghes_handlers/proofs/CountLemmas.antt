-- The counts of a list of deliveries with one more.
use Rattle.std.proofs.Common.{◌≡◌, ◌∙◌, ℕ, ◌+◌, ◌-◌, ◌^◌, Bool, true, false, cond, List, [], ◌∷◌, ◌++◌, refl, sym, ap, min, Option, Some, None, arith}
use Rattle.std.specs.Prelude.{count_by}
use Rattle.std.proofs.lemmas.List.Sums.{sum_by_push}
use Rattle.cper_block.specs.declared.severity.Severity.{Severity}
use Rattle.cper_block.specs.declared.severity.Severity.TheVariants.{Recoverable, Fatal, Corrected, Informational}
use Rattle.ghes_notify.specs.Delivery.{Delivery}
use Rattle.ghes_handlers.specs.Severities.{Counted, severity_in, is_recoverable, is_fatal, is_corrected, is_informational, counted, AreCountsOf, one_more, with_one}

counted_push : (test : Option Severity → Bool) (list : List Delivery) (d : Delivery)
    → counted test (list ++ d ∷ []) ≡ min
    (count_by (λ (e : Delivery). test (severity_in e.bytes)) list + cond (test (severity_in d.bytes)) 1 0)
    (2 ^ 64 - 1)
counted_push test list d = ap (λ n. min n (2 ^ 64 - 1))
    (sum_by_push (λ (e : Delivery). cond (test (severity_in e.bytes)) 1 0) list d)

-- it is of this kind
counts_it : (test : Option Severity → Bool) (list : List Delivery) (d : Delivery) (count : ℕ)
    → count ≡ counted test list → test (severity_in d.bytes) ≡ true → one_more count ≡ counted test (list ++ d ∷ [])
counts_it test list d count is of_kind =
    ap one_more is ∙ more (count_by (λ (e : Delivery). test (severity_in e.bytes)) list)
    ∙ sym (counted_push test list d ∙ ap
    (λ b. min (count_by (λ (e : Delivery). test (severity_in e.bytes)) list + cond b 1 0) (2 ^ 64 - 1)) of_kind)
  where
    more : (n : ℕ) → min (min n (2 ^ 64 - 1) + 1) (2 ^ 64 - 1) ≡ min (n + 1) (2 ^ 64 - 1)
    more n = omega arith

-- it is of another
counts_not : (test : Option Severity → Bool) (list : List Delivery) (d : Delivery) (count : ℕ)
    → count ≡ counted test list → test (severity_in d.bytes) ≡ false → count ≡ counted test (list ++ d ∷ [])
counts_not test list d count is other =
    is ∙ same (count_by (λ (e : Delivery). test (severity_in e.bytes)) list)
    ∙ sym (counted_push test list d ∙ ap
    (λ b. min (count_by (λ (e : Delivery). test (severity_in e.bytes)) list + cond b 1 0) (2 ^ 64 - 1)) other)
  where
    same : (n : ℕ) → min n (2 ^ 64 - 1) ≡ min (n + 0) (2 ^ 64 - 1)
    same n = omega arith

-- counts of a list, told the severity of one delivery more
by_severity : (severity : Option Severity) (counts : Counted) (list : List Delivery) (d : Delivery)
    → severity_in d.bytes ≡ severity → AreCountsOf counts list
    → AreCountsOf (with_one severity counts) (list ++ d ∷ [])
by_severity None counts list d is of = record {
  recoverable = counts_not is_recoverable list d counts.recoverable of.recoverable (ap is_recoverable is);
  fatal = counts_not is_fatal list d counts.fatal of.fatal (ap is_fatal is);
  corrected = counts_not is_corrected list d counts.corrected of.corrected (ap is_corrected is);
  none = counts_not is_informational list d counts.none of.none (ap is_informational is);
}
by_severity (Some Recoverable) counts list d is of = record {
  recoverable = counts_it is_recoverable list d counts.recoverable of.recoverable (ap is_recoverable is);
  fatal = counts_not is_fatal list d counts.fatal of.fatal (ap is_fatal is);
  corrected = counts_not is_corrected list d counts.corrected of.corrected (ap is_corrected is);
  none = counts_not is_informational list d counts.none of.none (ap is_informational is);
}
by_severity (Some Fatal) counts list d is of = record {
  recoverable = counts_not is_recoverable list d counts.recoverable of.recoverable (ap is_recoverable is);
  fatal = counts_it is_fatal list d counts.fatal of.fatal (ap is_fatal is);
  corrected = counts_not is_corrected list d counts.corrected of.corrected (ap is_corrected is);
  none = counts_not is_informational list d counts.none of.none (ap is_informational is);
}
by_severity (Some Corrected) counts list d is of = record {
  recoverable = counts_not is_recoverable list d counts.recoverable of.recoverable (ap is_recoverable is);
  fatal = counts_not is_fatal list d counts.fatal of.fatal (ap is_fatal is);
  corrected = counts_it is_corrected list d counts.corrected of.corrected (ap is_corrected is);
  none = counts_not is_informational list d counts.none of.none (ap is_informational is);
}
by_severity (Some Informational) counts list d is of = record {
  recoverable = counts_not is_recoverable list d counts.recoverable of.recoverable (ap is_recoverable is);
  fatal = counts_not is_fatal list d counts.fatal of.fatal (ap is_fatal is);
  corrected = counts_not is_corrected list d counts.corrected of.corrected (ap is_corrected is);
  none = counts_it is_informational list d counts.none of.none (ap is_informational is);
}

-- a delivery more, counted
pub one_more_counted : (counts : Counted) (list : List Delivery) (d : Delivery) → AreCountsOf counts list
    → AreCountsOf (with_one (severity_in d.bytes) counts) (list ++ d ∷ [])
one_more_counted counts list d of = by_severity (severity_in d.bytes) counts list d refl of
