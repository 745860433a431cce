-- Over a bus each of whose accesses has one outcome, each part of an injection has one.
use Rattle.std.proofs.Common.{◌≡◌, ◌≢◌, ◌<◌, ◌⊎◌, ℕ, zero, suc, arith, Bool, true, false, List, [], ◌∷◌, Option, Some, None, Result, Ok, Err, refl, sym, ap, subst, ◌∙◌, inl, inr}
use Rattle.std.proofs.lemmas.Bool.{cases_order}
use Rattle.apei_base.specs.Bus.{Access}
use Rattle.apei_einj.specs.Action.{Instruction, ReadRegister, ReadRegisterValue, WriteRegister, WriteRegisterValue, NoOperation, instruction_of, Puts, Does, Runs, preserves}
use Rattle.apei_einj.specs.Anchor.{anchor_of}
use Rattle.apei_base.specs.Determined.{IsDetermined}
use Rattle.apei_einj.specs.Entry.{of_action}
use Rattle.apei_einj.specs.Injection.{place_refusal, type_refusal, status_refusal, is_busy, busy_limit, WritesRows, SetsType, AreBusy, Waits, Prepares, Executes, Ends, Injects}
use Rattle.apei_einj.specs.Part.{Part, Then, Gives, Tests, Stores, Takes, TakesAny, Acts}
use Rattle.apei_einj.specs.Request.{Row, address_structure}
use Rattle.apei_einj.specs.Trigger.{Triggers, TriggersBehind, trigger_header_refusal, trigger_refusal}
use Rattle.apei_einj.specs.declared.entry.Entry.{Entry}
use Rattle.apei_einj.specs.declared.injected.Injected.{Injected}
use Rattle.apei_einj.specs.declared.injected.InjectError.{InjectError}
use Rattle.apei_einj.specs.declared.injected.InjectError.TheVariants as errors
use Rattle.apei_einj.specs.declared.request.Request.{Request}

-- no access failed
abbrev Unfailed : {A : Type 0} → Result A InjectError → Type 0
Unfailed (Ok found) = Unit {0}
Unfailed (Err error) = error ≢ errors.Fault

-- a part that has one outcome in each state, but where an access failed
abbrev IsSure : {S A : Type 0} → Part S A → Type 0
IsSure {S = S} {A = A} part =
    (before here there : S) (one other : Result A InjectError) → part before one here → part before other there
    → Unfailed one → Unfailed other → (one ≡ other) × (here ≡ there)

-- a result that is another one than a failed access
unfailed : {A : Type 0} (result : Result A InjectError) → result ≢ Err errors.Fault → Unfailed result
unfailed (Ok found) other = tt
unfailed (Err error) other = λ is. other (ap Err is)

module _ {S A B : Type 0} (first : Part S A) (next : A → Part S B) (one : IsSure first) (two : (found : A) → IsSure (next found)) where
  -- both find something and go on
  both_go : (before here there : S) (r s : Result B InjectError) (found again : A) (between beside : S)
      → first before (Ok found) between → first before (Ok again) beside → next found between r here → next again beside s there
      → Unfailed r → Unfailed s → (r ≡ s) × (here ≡ there)
  both_go before here there r s found again between beside ok ok_too later later_too fine fine_too =
      let same = one before between beside (Ok found) (Ok again) ok ok_too tt tt in
      let value : again ≡ found = cc in
      let state : beside ≡ between = sym same.1 in
      two found between here there r s later
      (subst (λ b. next found b s there) state (subst (λ a. next a beside s there) value later_too)) fine fine_too

  -- not one finds something where the other ends
  not_both : {P : Type 0} (before here there : S) (found : A) (error : InjectError)
      → first before (Ok found) here → first before (Err error) there → error ≢ errors.Fault → P
  not_both before here there found error ok err fine =
      let same = one before here there (Ok found) (Err error) ok err tt fine in absurd (cc same.0)

  -- one part and then the next one
  sure_then : IsSure (Then first next)
  unfolding Then
  sure_then before here there (Ok a) (Ok b) (f, m, ok, later) (g, n, ok_too, later_too) x y =
      both_go before here there (Ok a) (Ok b) f g m n ok ok_too later later_too x y
  sure_then before here there (Ok a) (Err e) (f, m, ok, later) (inl err) x y = not_both before m there f e ok err y
  sure_then before here there (Ok a) (Err e) (f, m, ok, later) (inr (g, n, ok_too, later_too)) x y =
      both_go before here there (Ok a) (Err e) f g m n ok ok_too later later_too x y
  sure_then before here there (Err e) (Ok b) (inl err) (g, n, ok, later) x y = not_both before n here g e ok err x
  sure_then before here there (Err e) (Ok b) (inr (f, m, ok, later)) (g, n, ok_too, later_too) x y =
      both_go before here there (Err e) (Ok b) f g m n ok ok_too later later_too x y
  sure_then before here there (Err e) (Err d) (inl err) (inl err_too) x y =
      let same = one before here there (Err e) (Err d) err err_too x y in (ap Err (cc same.0), same.1)
  sure_then before here there (Err e) (Err d) (inl err) (inr (g, n, ok, later)) x y = not_both before n here g e ok err x
  sure_then before here there (Err e) (Err d) (inr (f, m, ok, later)) (inl err) x y = not_both before m there f d ok err y
  sure_then before here there (Err e) (Err d) (inr (f, m, ok, later)) (inr (g, n, ok_too, later_too)) x y =
      both_go before here there (Err e) (Err d) f g m n ok ok_too later later_too x y

-- nothing is done
sure_gives : {S A : Type 0} (found : A) → IsSure {S = S} (Gives found)
sure_gives found before here there one other given given_too x y = (given.0 ∙ sym given_too.0, given.1 ∙ sym given_too.1)

-- a test is made
sure_tests : {S : Type 0} (refusal : Option InjectError) → IsSure {S = S} (Tests refusal)
sure_tests refusal before here there (Ok done) (Ok finished) tested again x y = (refl, tested.1 ∙ sym again.1)
sure_tests refusal before here there (Ok done) (Err d) tested again x y = absurd (cc (tested.0 ∙ sym again.0))
sure_tests refusal before here there (Err e) (Ok done) tested again x y = absurd (cc (tested.0 ∙ sym again.0))
sure_tests refusal before here there (Err e) (Err d) tested again x y = (ap Err (cc (tested.0 ∙ sym again.0)), tested.1 ∙ sym again.1)

module _ {S : Type 0} (step : S → Access → S → Type 0) (is : IsDetermined step) where
  -- a register is set, and an instruction is run
  puts_one : (keeps : Bool) (entry : Entry) (value : ℕ) (before here there : S)
      → Puts step keeps entry value before here → Puts step keeps entry value before there → here ≡ there
  puts_one false entry value before here there put again = is.writes before here there _ _ put again
  puts_one true entry value before here there (cell, between, reads, writes) (other, beside, reads_too, writes_too) =
      let same = is.reads before between beside _ cell other reads reads_too in
      is.writes between here there _ _ writes (rw (← same.0, ← same.1) at writes_too)

  does_one : (instruction : Instruction) (entry : Entry) (value n m : ℕ) (before here there : S)
      → Does step instruction entry value before n here → Does step instruction entry value before m there → (n ≡ m) × (here ≡ there)
  does_one ReadRegister entry value n m before here there (cell, reads, next) (other, reads_too, next_too) =
      let same = is.reads before here there _ cell other reads reads_too in (cc, same.1)
  does_one ReadRegisterValue entry value n m before here there (cell, reads, next) (other, reads_too, next_too) =
      let same = is.reads before here there _ cell other reads reads_too in (cc, same.1)
  does_one WriteRegister entry value n m before here there put again =
      (put.1 ∙ sym again.1, puts_one (preserves entry) entry value before here there put.0 again.0)
  does_one WriteRegisterValue entry value n m before here there put again =
      (put.1 ∙ sym again.1, puts_one (preserves entry) entry entry.value before here there put.0 again.0)
  does_one NoOperation entry value n m before here there done again = (done.1 ∙ sym again.1, done.0 ∙ sym again.0)

  -- two runs of the same entries on one value
  pub runs_one : (entries : List Entry) (value n m : ℕ) (before here there : S)
      → Runs step entries value before n here → Runs step entries value before m there → (n ≡ m) × (here ≡ there)
  unfolding Runs
  runs_one [] value n m before here there ran again = (ran.0 ∙ sym again.0, ran.1 ∙ sym again.1)
  runs_one (entry ∷ entries) value n m before here there (v, between, does, runs) (w, beside, does_too, runs_too) =
      let same = does_one (instruction_of entry.instruction) entry value v w before between beside does does_too in
      runs_one entries v n m between here there runs (rw (← same.0, ← same.1) at runs_too)

  -- the parts that access the bus
  sure_stores : (address width value : ℕ) → IsSure (Stores step address width value)
  unfolding Stores
  sure_stores address width value before here there (Ok done) (Ok finished) stored again x y = (refl, is.writes before here there _ _ stored again)
  sure_stores address width value before here there (Err e) other failed again x y = absurd (x failed.0)
  sure_stores address width value before here there (Ok done) (Err e) stored failed x y = absurd (y failed.0)

  sure_takes : (address n : ℕ) → IsSure (Takes step address n)
  unfolding Takes
  sure_takes address n before here there (Ok bytes) (Ok others) taken again x y =
      let same = is.copies before here there address bytes others (taken.0 ∙ sym again.0) taken.1 again.1 in (ap Ok same.0, same.1)
  sure_takes address n before here there (Err e) other failed again x y = absurd (x failed.0)
  sure_takes address n before here there (Ok bytes) (Err e) taken failed x y = absurd (y failed.0)

  sure_takes_any : (address n : ℕ) → IsSure (TakesAny step address n)
  unfolding TakesAny
  sure_takes_any address zero before here there one other given again x y = sure_gives [] before here there one other given again x y
  sure_takes_any address (suc n) before here there one other taken again x y = sure_takes address (suc n) before here there one other taken again x y

  sure_acts : (entries : List Entry) (action value : ℕ) → IsSure (Acts step entries action value)
  unfolding Acts
  sure_acts entries action value before here there (Ok n) (Ok m) ran again x y =
      let same = runs_one (of_action action entries) value n m before here there ran again in (ap Ok same.0, same.1)
  sure_acts entries action value before here there (Err e) other failed again x y = absurd (x failed.0)
  sure_acts entries action value before here there (Ok n) (Err e) ran failed x y = absurd (y failed.0)

  -- those that are made of them
  sure_rows : (address : ℕ) (rows : List Row) → IsSure (WritesRows step address rows)
  unfolding WritesRows
  sure_rows address [] = sure_gives tt
  sure_rows address (row ∷ rows) = sure_then _ _ (sure_stores _ _ _) (λ _. sure_rows address rows)

  sure_sets : (entries : List Entry) (request : Request) (anchor : Option Entry) → IsSure (SetsType step entries request anchor)
  unfolding SetsType
  sure_sets entries request None = sure_then _ _ (sure_acts entries 2 request.error) (λ _. sure_gives tt)
  sure_sets entries request (Some anchor) = sure_rows anchor.register.address (address_structure request.error request.place)

  sure_behind : (address n : ℕ) → IsSure (TriggersBehind step address n)
  unfolding TriggersBehind
  sure_behind address n =
      sure_then _ _ (sure_takes_any _ n) (λ bytes.
      sure_then _ _ (sure_tests (trigger_refusal bytes)) (λ _.
      sure_then _ _ (sure_acts _ 0xff 0) (λ _. sure_gives tt)))

  sure_triggers : (address : ℕ) → IsSure (Triggers step address)
  unfolding Triggers
  sure_triggers address =
      sure_then _ _ (sure_takes address 16) (λ header.
      sure_then _ _ (sure_tests (trigger_header_refusal header)) (λ _. sure_behind address _))

module _ {S : Type 0} (step : S → Access → S → Type 0) (is : IsDetermined step) (entries : List Entry) where
  -- two runs of action 6 from one state
  acts_one : (n m : ℕ) (before here there : S) → Acts step entries 6 0 before (Ok n) here → Acts step entries 6 0 before (Ok m) there
      → (n ≡ m) × (here ≡ there)
  acts_one n m before here there ran again =
      let same = sure_acts step is entries 6 0 before here there (Ok n) (Ok m) ran again tt tt in (cc same.0, same.1)

  -- so many busy runs
  busy_one : (n : ℕ) (before here there : S) → AreBusy step entries n before here → AreBusy step entries n before there → here ≡ there
  unfolding AreBusy
  busy_one zero before here there none again = none ∙ sym again
  busy_one (suc n) before here there (v, between, busy, ran, odd) (w, beside, busy_too, ran_too, odd_too) =
      let same = busy_one n before between beside busy busy_too in
      (acts_one v w between here there ran (subst (λ b. Acts step entries 6 0 b (Ok w) there) (sym same) ran_too)).1

  -- after so many runs one more, after which the machine is busy or not
  abbrev Answers : Bool → ℕ → S → S → Type 0
  Answers busy n before after =
      (value : ℕ) × (between : S) × AreBusy step entries n before between × Acts step entries 6 0 between (Ok value) after
      × (is_busy value ≡ busy)

  -- that has one outcome
  answers_one : (b c : Bool) (n : ℕ) (before here there : S) → Answers b n before here → Answers c n before there → (b ≡ c) × (here ≡ there)
  answers_one b c n before here there (v, between, busy, ran, odd) (w, beside, busy_too, ran_too, odd_too) =
      let same = busy_one n before between beside busy busy_too in
      let next = acts_one v w between here there ran (subst (λ s. Acts step entries 6 0 s (Ok w) there) (sym same) ran_too) in
      (sym odd ∙ ap is_busy next.0 ∙ odd_too, next.1)

  -- of so many busy runs each one is there
  busy_at : (n m : ℕ) (before after : S) → n < m → AreBusy step entries m before after → (then : S) × Answers true n before then
  unfolding AreBusy
  busy_at n zero before after below busy = absurd (omega arith)
  busy_at n (suc m) before after below (v, between, busy, ran, odd) =
      elim (cases_order n m) [
        | inl same ↦ (after, (v, between, subst (λ k. AreBusy step entries k before between) (sym same) busy, ran, odd))
        | inr (inl under) ↦ busy_at n m before between under busy
        | inr (inr above) ↦ absurd (omega arith)
      ]

  -- so a wait does not end within busy runs
  not_within : {P : Type 0} (n m : ℕ) (before here there : S) → n < m → Answers false n before here → AreBusy step entries m before there → P
  not_within n m before here there below ends busy =
      let within = busy_at n m before there below busy in
      absurd (cc (answers_one false true n before here within.0 ends within.1).0)

  -- A wait in which no access failed: it ended after so many busy runs, or all were busy.
  abbrev Ended : S → Result ℕ InjectError → S → Type 0
  Ended before result after =
      ((n : ℕ) × (result ≡ Ok n) × (n < busy_limit) × Answers false n before after)
      ⊎ ((result ≡ Err errors.Busy) × AreBusy step entries busy_limit before after)

  ended_of : (before after : S) (result : Result ℕ InjectError) → Waits step entries before result after → Unfailed result → Ended before result after
  unfolding Waits
  ended_of before after (Ok n) waits fine = inl (n, refl, waits.0, waits.1)
  ended_of before after (Err errors.Busy) waits fine = inr (refl, waits)
  ended_of before after (Err errors.Fault) waits fine = absurd (fine refl)
  ended_of before after (Err errors.NotAvailable) waits fine = absurd waits
  ended_of before after (Err (errors.Status value)) waits fine = absurd waits
  ended_of before after (Err (errors.Trigger reason)) waits fine = absurd waits
  ended_of before after (Err errors.NoAddress) waits fine = absurd waits

  -- two waits end after equally many
  counts_one : (n m : ℕ) (before here there : S) → (n ≡ m) ⊎ ((n < m) ⊎ (m < n))
      → Answers false n before here → Answers false m before there → (n ≡ m) × (here ≡ there)
  counts_one n m before here there (inl same) ends again =
      (same, (answers_one false false n before here there ends (subst (λ k. Answers false k before there) (sym same) again)).1)
  counts_one n m before here there (inr (inl below)) ends again = not_within n m before here again.1 below ends again.2
  counts_one n m before here there (inr (inr above)) ends again = not_within m n before there ends.1 above again ends.2

  -- and have one outcome
  ended_one : (before here there : S) (one other : Result ℕ InjectError) → Ended before one here → Ended before other there → (one ≡ other) × (here ≡ there)
  ended_one before here there one other (inl (n, ok, few, ends)) (inl (m, ok_too, few_too, again)) =
      let same = counts_one n m before here there (cases_order n m) ends again in (cc, same.1)
  ended_one before here there one other (inl (n, ok, few, ends)) (inr (all, busy)) = not_within n busy_limit before here there few ends busy
  ended_one before here there one other (inr (all, busy)) (inl (n, ok, few, ends)) = not_within n busy_limit before there here few ends busy
  ended_one before here there one other (inr (all, busy)) (inr (all_too, busy_too)) = (all ∙ sym all_too, busy_one busy_limit before here there busy busy_too)

  -- what a wait gives and leaves
  sure_waits : IsSure (Waits step entries)
  sure_waits before here there one other waits again x y =
      ended_one before here there one other (ended_of before here one waits x) (ended_of before there other again y)

  -- the phases of an injection
  sure_prepares : (request : Request) → IsSure (Prepares step entries request)
  unfolding Prepares
  sure_prepares request =
      sure_then _ _ (sure_tests (place_refusal entries request)) (λ _.
      sure_then _ _ (sure_acts step is entries 3 0) (λ types.
      sure_then _ _ (sure_tests (type_refusal request types)) (λ _.
      sure_then _ _ (sure_acts step is entries 0 0) (λ _. sure_sets step is entries request (anchor_of 8 entries)))))

  sure_executes : IsSure (Executes step entries)
  unfolding Executes
  sure_executes =
      sure_then _ _ (sure_acts step is entries 5 0) (λ _.
      sure_then _ _ sure_waits (λ busy_reads.
      sure_then _ _ (sure_acts step is entries 7 0) (λ status.
      sure_then _ _ (sure_tests (status_refusal status)) (λ _. sure_gives busy_reads))))

  sure_ends : IsSure (Ends step entries)
  unfolding Ends
  sure_ends =
      sure_then _ _ (sure_acts step is entries 1 0) (λ address.
      sure_then _ _ (sure_triggers step is address) (λ _.
      sure_then _ _ (sure_acts step is entries 4 0) (λ _. sure_gives tt)))

  sure_injects : (request : Request) → IsSure (Injects step entries request)
  unfolding Injects
  sure_injects request =
      sure_then _ _ (sure_prepares request) (λ _.
      sure_then _ _ sure_executes (λ busy_reads.
      sure_then _ _ sure_ends (λ _. sure_gives _)))

  -- two injections of one request
  pub injects_one : (request : Request) (before here there : S) (one other : Result Injected InjectError)
      → Injects step entries request before one here → Injects step entries request before other there
      → one ≢ Err errors.Fault → other ≢ Err errors.Fault → (one ≡ other) × (here ≡ there)
  injects_one request before here there one other injects again fine fine_too =
      sure_injects request before here there one other injects again (unfailed one fine) (unfailed other fine_too)
