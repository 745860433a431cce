-- Runs of action 6, one after another.
use Rattle.std.proofs.Common.{◌≡◌, ◌≢◌, ◌<◌, ℕ, ◌+◌, ◌%◌, true, false, List, Ok, Err, subst, ◌∙◌, arith, add-one}
use Rattle.std.proofs.lemmas.Bool.Decides.{nat_tests}
use Rattle.apei_base.specs.Bus.{Access}
use Rattle.apei_einj.specs.Injection.{AreBusy, Waits, is_busy, busy_limit}
use Rattle.apei_einj.specs.Part.{Acts, CountsError, IsDone}
use Rattle.apei_einj.specs.declared.entry.Entry.{Entry}
use Rattle.apei_einj.specs.declared.injected.InjectError.{InjectError}
use Rattle.apei_einj.specs.declared.injected.InjectError.TheVariants as errors

module _ {S : Type 0} (step : S → Access → S → Type 0) (entries : List Entry) (before : S) (count : ℕ) (n : ℕ) (between : S) where
  -- one more run, after which the machine is busy
  pub busy-more : (value : ℕ) (after : S) (k m : ℕ) → AreBusy step entries n before between → value % 2 ≢ 0
      → IsDone (Acts step entries 6 0) between k (Ok value) after m → AreBusy step entries (n + 1) before after
  unfolding AreBusy
  busy-more value after k m busy odd done =
      let still : is_busy value ≡ true = grind (arith, nat_tests) in
      rw add-one (value, between, busy, done.does, still)

  -- one more run, after which it is not
  pub waits-ends : (value : ℕ) (after : S) (k m : ℕ) → n < busy_limit → AreBusy step entries n before between → k ≡ count → value % 2 ≡ 0
      → IsDone (Acts step entries 6 0) between k (Ok value) after m → IsDone (Waits step entries) before count (Ok n) after m
  unfolding Waits
  waits-ends value after k m few busy same even done =
      let ready : is_busy value ≡ false = grind (arith, nat_tests) in
      record { does = (few, (value, between, busy, done.does, ready)); counted = done.counted ∙ same }

  -- one more run, which was cut off
  waits-cut_by : (error : InjectError) (after : S) (m : ℕ) → n < busy_limit → AreBusy step entries n before between
      → error ≡ errors.Fault → Acts step entries 6 0 between (Err error) after → CountsError error count m → IsDone (Waits step entries) before count (Err error) after m
  unfolding Waits
  waits-cut_by errors.Fault after m few busy is done counted = record { does = (n, between, few, busy, done); counted = counted }
  waits-cut_by errors.NotAvailable after m few busy is done counted = absurd (cc is)
  waits-cut_by errors.Busy after m few busy is done counted = absurd (cc is)
  waits-cut_by (errors.Status value) after m few busy is done counted = absurd (cc is)
  waits-cut_by (errors.Trigger reason) after m few busy is done counted = absurd (cc is)
  waits-cut_by errors.NoAddress after m few busy is done counted = absurd (cc is)

  pub waits-cut : (error : InjectError) (after : S) (k m : ℕ) → n < busy_limit → AreBusy step entries n before between → k ≡ count
      → IsDone (Acts step entries 6 0) between k (Err error) after m → IsDone (Waits step entries) before count (Err error) after m
  unfolding Acts
  waits-cut error after k m few busy same done =
      waits-cut_by error after m few busy done.does.0 done.does (subst (λ c. CountsError error c m) same done.counted)

-- as many runs as the limit
pub waits-busy : {S : Type 0} (step : S → Access → S → Type 0) (entries : List Entry) (before : S) (count n : ℕ) (after : S) (m : ℕ)
    → n ≡ busy_limit → AreBusy step entries n before after → m ≡ count → IsDone (Waits step entries) before count (Err errors.Busy) after m
unfolding Waits
waits-busy step entries before count n after m all busy same = record { does = subst (λ k. AreBusy step entries k before after) all busy; counted = same }
