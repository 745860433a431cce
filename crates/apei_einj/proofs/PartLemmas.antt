-- Parts of an injection, one after another.
use Rattle.std.proofs.Common.{◌≡◌, ◌≢◌, ℕ, zero, suc, arith, List, [], ◌∷◌, length, Option, Result, Ok, Err, refl, sym, ap, subst, ◌∙◌, inl, inr}
use Rattle.std.specs.Result.{result_err, IsErrAnd}
use Rattle.apei_base.specs.Bus.{Access}
use Rattle.apei_einj.specs.Part.{Part, Then, Gives, Tests, Takes, TakesAny, CountsError, IsDone, filled}
use Rattle.apei_einj.specs.declared.injected.InjectError.{InjectError}
use Rattle.apei_einj.specs.declared.injected.InjectError.TheVariants as errors

module _ {S A B : Type 0} (first : Part S A) (next : A → Part S B) {before : S} {n : ℕ} where
  -- the first part ends the injection
  pub stops : {after : S} {m : ℕ} {error : InjectError} → IsDone first before n (Err error) after m → IsDone (Then first next) before n (Err error) after m
  unfolding Then
  stops done = record { does = inl done.does; counted = done.counted }

  -- the next one goes on from what the first found
  pub goes_on : {found : A} {between : S} {k : ℕ} (result : Result B InjectError) {after : S} {m : ℕ}
      → IsDone first before n (Ok found) between k → IsDone (next found) between k result after m → IsDone (Then first next) before n result after m
  unfolding Then
  goes_on {found = found} {between = between} (Ok last) one two = record {
    does = (found, between, one.does, two.does);
    counted = two.counted ∙ one.counted;
  }
  goes_on {found = found} {between = between} (Err error) {m = m} one two = record {
    does = inr (found, between, one.does, two.does);
    counted = subst (λ k. CountsError error k m) one.counted two.counted;
  }

-- nothing is done
pub gives : {S A : Type 0} (found : A) (before : S) (n : ℕ) → IsDone (Gives found) before n (Ok found) before n
gives found before n = record { does = (refl, refl); counted = refl }

-- a refusal that is no fault leaves the count
quiet : (error : InjectError) (n : ℕ) → error ≢ errors.Fault → CountsError error n n
quiet errors.NotAvailable n other = refl
quiet errors.Busy n other = refl
quiet (errors.Status value) n other = refl
quiet (errors.Trigger reason) n other = refl
quiet errors.Fault n other = absurd (other refl)
quiet errors.NoAddress n other = refl

-- a test is made
pub tests : {S : Type 0} {refusal : Option InjectError} (result : Result (Unit {0}) InjectError) (before : S) (n : ℕ)
    → result_err result ≡ refusal → result ≢ Err errors.Fault → IsDone (Tests refusal) before n result before n
tests (Ok done) before n is other = record { does = (is, refl); counted = refl }
tests (Err error) before n is other = record { does = (is, refl); counted = quiet error n (λ e. other (ap Err e)) }

-- what the exit of a `?` hands on
pub left_by : {S A : Type 0} {part : Part S A} {before : S} {n : ℕ} {error : InjectError} (result : Result A InjectError) {after : S} {m : ℕ}
    → IsErrAnd result (λ e. e ≡ error) → IsDone part before n (Err error) after m → IsDone part before n result after m
left_by (Ok found) is done = absurd is
left_by {part = part} {before = before} {n = n} (Err error) {after = after} {m = m} is done = subst (λ e. IsDone part before n (Err e) after m) (sym is) done

-- the same of a copy
pub left_filled : {S : Type 0} {part : Part S (List ℕ)} {before : S} {n : ℕ} {error : InjectError} (bytes : List ℕ) (result : Result (Unit {0}) InjectError) {after : S} {m : ℕ}
    → IsErrAnd result (λ e. e ≡ error) → IsDone part before n (Err error) after m → IsDone part before n (filled bytes result) after m
left_filled bytes (Ok found) is done = absurd is
left_filled {part = part} {before = before} {n = n} bytes (Err error) {after = after} {m = m} is done =
    subst (λ e. IsDone part before n (Err e) after m) (sym is) done

-- so many bytes or more than none were copied
pub takes_more : {S : Type 0} (step : S → Access → S → Type 0) (address n : ℕ) (before : S) (k : ℕ) (result : Result (List ℕ) InjectError) (after : S) (m : ℕ)
    → n ≢ 0 → IsDone (Takes step address n) before k result after m → IsDone (TakesAny step address n) before k result after m
unfolding TakesAny
takes_more step address zero before k result after m more done = absurd (more refl)
takes_more step address (suc n) before k result after m more done = done

-- no bytes were copied
pub takes_none : {S : Type 0} (step : S → Access → S → Type 0) (address : ℕ) (bytes : List ℕ) (before : S) (k : ℕ)
    → length bytes ≡ 0 → IsDone (TakesAny step address (length bytes)) before k (Ok bytes) before k
unfolding TakesAny
takes_none step address [] before k none = gives [] before k
takes_none step address (byte ∷ bytes) before k none = absurd (omega arith)

-- what ends without a value ends the same with nothing behind it
pub finishes : {S : Type 0} (part : Part S (Unit {0})) {before : S} {n : ℕ} (result : Result (Unit {0}) InjectError) {after : S} {m : ℕ}
    → IsDone part before n result after m → IsDone (Then part (λ _. Gives tt)) before n result after m
finishes part (Ok done) {after = after} {m = m} is = goes_on part _ (Ok done) is (gives done after m)
finishes part (Err error) is = stops part _ is
