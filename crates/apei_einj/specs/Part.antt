-- Parts of an injection, each of which finds something or ends the injection, one after another.
use Rattle.std.specs.Prelude.{◌≡◌, ◌⊎◌, ℕ, ◌+◌, zero, suc, List, [], length, Option, Result, Ok, Err}
use Rattle.std.specs.Result.{result_err}
use Rattle.apei_base.specs.Bus.{Reach, Access, Writes, Copies}
use Rattle.apei_base.specs.declared.region.Space.TheVariants.{Memory}
use Rattle.apei_einj.specs.Action.{Runs, IsCutOff}
use Rattle.apei_einj.specs.Entry.{of_action}
use Rattle.apei_einj.specs.declared.entry.Entry.{Entry}
use Rattle.apei_einj.specs.declared.injected.InjectError.{InjectError}
use Rattle.apei_einj.specs.declared.injected.InjectError.TheVariants as errors

-- a part leads from a state to what it finds, or to why the injection ends there, and to the state then (own choice)
abbrev pub Part : Type 0 → Type 0 → Type 1
Part S A = S → Result A InjectError → S → Type 0

-- One part, and then the next one with what the first found. Where the first ends the injection there is no next one.
unfoldable pub Then : {S A B : Type 0} → Part S A → (A → Part S B) → S → Result B InjectError → S → Type 0
Then {S} {A} first next before (Ok last) after =
    (found : A) × (between : S) × first before (Ok found) between × next found between (Ok last) after
Then {S} {A} first next before (Err error) after =
    first before (Err error) after
    ⊎ ((found : A) × (between : S) × first before (Ok found) between × next found between (Err error) after)

-- nothing is done, and this is found
abbrev pub Gives : {S A : Type 0} → A → S → Result A InjectError → S → Type 0
Gives found before result after = (result ≡ Ok found) × (after ≡ before)

-- nothing is done, and the injection ends where there is a refusal
abbrev pub Tests : {S : Type 0} → Option InjectError → S → Result (Unit {0}) InjectError → S → Type 0
Tests refusal before result after = (result_err result ≡ refusal) × (after ≡ before)

-- memory at an address, of a width in bits
abbrev pub memory_reach : ℕ → ℕ → Reach
memory_reach address width = record { space = Memory; address = address; width = width }

module _ {S : Type 0} (step : S → Access → S → Type 0) where
  -- a value is written to memory, by its address and its width; an access that fails ends the injection, and nothing is done
  unfoldable pub Stores : ℕ → ℕ → ℕ → S → Result (Unit {0}) InjectError → S → Type 0
  Stores address width value before (Ok done) after = step before (Writes (memory_reach address width) value) after
  Stores address width value before (Err error) after = (error ≡ errors.Fault) × (after ≡ before)

  -- so many bytes of memory are copied, likewise
  unfoldable pub Takes : ℕ → ℕ → S → Result (List ℕ) InjectError → S → Type 0
  Takes address n before (Ok bytes) after = (length bytes ≡ n) × step before (Copies address bytes) after
  Takes address n before (Err error) after = (error ≡ errors.Fault) × (after ≡ before)

  -- so many bytes of memory are copied, in no access where there are none
  unfoldable pub TakesAny : ℕ → ℕ → S → Result (List ℕ) InjectError → S → Type 0
  TakesAny address zero before result after = Gives [] before result after
  TakesAny address (suc n) before result after = Takes address (suc n) before result after

  -- the entries of an action are run on a value; an access that fails cuts them off, and ends the injection
  unfoldable pub Acts : List Entry → ℕ → ℕ → S → Result ℕ InjectError → S → Type 0
  Acts entries action value before (Ok next) after = Runs step (of_action action entries) value before next after
  Acts entries action value before (Err error) after =
      (error ≡ errors.Fault) × IsCutOff step (of_action action entries) value before after

-- the count of failed accesses rises by one where the answer is that one failed, and stays where it is another refusal
abbrev pub CountsError : InjectError → ℕ → ℕ → Type 0
CountsError errors.NotAvailable before after = after ≡ before
CountsError errors.Busy before after = after ≡ before
CountsError (errors.Status value) before after = after ≡ before
CountsError (errors.Trigger reason) before after = after ≡ before
CountsError errors.Fault before after = after ≡ before + 1
CountsError errors.NoAddress before after = after ≡ before

-- the count of failed accesses rises by one where the answer is that one failed, and stays with every other answer
abbrev pub CountsFault : {A : Type 0} → Result A InjectError → ℕ → ℕ → Type 0
CountsFault (Ok found) before after = after ≡ before
CountsFault (Err error) before after = CountsError error before after

-- a part was done, and failed accesses were counted
pub record IsDone {S A : Type 0} (part : Part S A) (before : S) (count : ℕ) (result : Result A InjectError) (after : S) (later : ℕ) : Type 0 where
  pub does : part before result after
  pub counted : CountsFault result count later

-- what was copied, where it was
abbrev pub filled : List ℕ → Result (Unit {0}) InjectError → Result (List ℕ) InjectError
filled bytes (Ok done) = Ok bytes
filled bytes (Err error) = Err error
