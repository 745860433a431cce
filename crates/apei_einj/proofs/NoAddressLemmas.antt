-- An injection ends for want of an address structure exactly where it has a place and there is none.
use Rattle.std.proofs.Common.{◌≡◌, ◌↔◌, ℕ, zero, suc, Bool, true, false, if◌then◌else◌, List, [], ◌∷◌, Option, Some, None, Result, Ok, Err, refl, sym, ap, ◌∙◌, inl, inr}
use Rattle.std.specs.Option.{option_or}
use Rattle.std.specs.Bool.{IsTrue}
use Rattle.apei_base.specs.Bus.{Access}
use Rattle.apei_einj.specs.Anchor.{anchor_of}
use Rattle.apei_einj.specs.Injection.{lacks_address, place_refusal, type_refusal, status_refusal, WritesRows, SetsType, Waits, Prepares, Executes, Ends, Injects}
use Rattle.apei_einj.specs.Part.{Part, Then, Gives, Tests, Stores, Takes, TakesAny, Acts}
use Rattle.apei_einj.specs.Request.{Row, address_structure}
use Rattle.apei_einj.specs.Trigger.{Triggers, TriggersBehind, trigger_header_refusal, trigger_refusal, trigger_reason, first_reason}
use Rattle.apei_einj.specs.declared.entry.Entry.{Entry}
use Rattle.apei_einj.specs.declared.injected.Injected.{Injected}
use Rattle.apei_einj.specs.declared.injected.InjectError.{InjectError}
use Rattle.apei_einj.specs.declared.injected.InjectError.TheVariants as errors
use Rattle.apei_einj.specs.declared.request.Request.{Request}

-- a part that never ends for want of an address structure
abbrev Never : {S A : Type 0} → Part S A → Type 0
Never {S = S} part = (before after : S) → part before (Err errors.NoAddress) after → ⊥

-- neither of two parts does
never_then : {S A B : Type 0} (first : Part S A) (next : A → Part S B) → Never first → ((found : A) → Never (next found)) → Never (Then first next)
unfolding Then
never_then first next one other before after (inl stops) = one before after stops
never_then first next one other before after (inr (found, between, ok, later)) = other found between after later

never_gives : {S A : Type 0} (found : A) → Never {S = S} (Gives found)
never_gives found before after given = absurd (cc given.0)

never_tests : {S : Type 0} (refusal : Option InjectError) → (refusal ≡ Some errors.NoAddress → ⊥) → Never {S = S} (Tests refusal)
never_tests refusal other before after tested = other (sym tested.0)

-- the refusals of other tests are others
other_type : (b : Bool) → (if b then Some errors.NotAvailable else None) ≡ Some errors.NoAddress → ⊥
other_type true e = absurd (cc e)
other_type false e = absurd (cc e)

other_status : (b : Bool) (status : ℕ) → (if b then None else Some (errors.Status status)) ≡ Some errors.NoAddress → ⊥
other_status true status e = absurd (cc e)
other_status false status e = absurd (cc e)

other_header : (a b c : Bool) → (if a then Some (errors.Trigger 1) else if b then Some (errors.Trigger 2) else if c then Some (errors.Trigger 3) else None) ≡ Some errors.NoAddress → ⊥
other_header true b c e = absurd (cc e)
other_header false true c e = absurd (cc e)
other_header false false true e = absurd (cc e)
other_header false false false e = absurd (cc e)

other_entry : (a b : Bool) → (if a then Some (errors.Trigger 4) else if b then Some (errors.Trigger 5) else None) ≡ Some errors.NoAddress → ⊥
other_entry true b e = absurd (cc e)
other_entry false true e = absurd (cc e)
other_entry false false e = absurd (cc e)

other_of_two : (first later : Option InjectError) → (first ≡ Some errors.NoAddress → ⊥) → (later ≡ Some errors.NoAddress → ⊥) → option_or first later ≡ Some errors.NoAddress → ⊥
other_of_two None later one two e = two e
other_of_two (Some error) later one two e = one e

other_entries : (entries : List Entry) → first_reason entries ≡ Some errors.NoAddress → ⊥
unfolding first_reason
other_entries [] e = absurd (cc e)
other_entries (entry ∷ entries) e = other_of_two (trigger_reason entry) (first_reason entries) (other_entry _ _) (other_entries entries) e

module _ {S : Type 0} (step : S → Access → S → Type 0) where
  never_stores : (address width value : ℕ) → Never (Stores step address width value)
  unfolding Stores
  never_stores address width value before after failed = absurd (cc failed.0)

  never_takes : (address n : ℕ) → Never (Takes step address n)
  unfolding Takes
  never_takes address n before after failed = absurd (cc failed.0)

  never_takes_any : (address n : ℕ) → Never (TakesAny step address n)
  unfolding TakesAny
  never_takes_any address zero before after given = absurd (cc given.0)
  never_takes_any address (suc n) before after failed = never_takes address (suc n) before after failed

  never_acts : (entries : List Entry) (action value : ℕ) → Never (Acts step entries action value)
  unfolding Acts
  never_acts entries action value before after failed = absurd (cc failed.0)

  never_rows : (address : ℕ) (rows : List Row) → Never (WritesRows step address rows)
  unfolding WritesRows
  never_rows address [] = never_gives tt
  never_rows address (row ∷ rows) = never_then _ _ (never_stores _ _ _) (λ _. never_rows address rows)

  never_sets : (entries : List Entry) (request : Request) (anchor : Option Entry) → Never (SetsType step entries request anchor)
  unfolding SetsType
  never_sets entries request None = never_then _ _ (never_acts entries 2 request.error) (λ _. never_gives tt)
  never_sets entries request (Some anchor) = never_rows anchor.register.address (address_structure request.error request.place)

  never_waits : (entries : List Entry) → Never (Waits step entries)
  unfolding Waits
  never_waits entries before after waited = waited

  never_behind : (address n : ℕ) → Never (TriggersBehind step address n)
  unfolding TriggersBehind
  never_behind address n =
      never_then _ _ (never_takes_any _ n) (λ bytes.
      never_then _ _ (never_tests (trigger_refusal bytes) (other_entries _)) (λ _.
      never_then _ _ (never_acts _ 0xff 0) (λ _. never_gives tt)))

  never_triggers : (address : ℕ) → Never (Triggers step address)
  unfolding Triggers
  never_triggers address =
      never_then _ _ (never_takes address 16) (λ header.
      never_then _ _ (never_tests (trigger_header_refusal header) (other_header _ _ _)) (λ _. never_behind address _))

  never_prepares : (entries : List Entry) (request : Request) → place_refusal entries request ≡ None → Never (Prepares step entries request)
  unfolding Prepares
  never_prepares entries request none =
      never_then _ _ (never_tests (place_refusal entries request) (λ is. absurd (cc (sym none ∙ is)))) (λ _.
      never_then _ _ (never_acts entries 3 0) (λ types.
      never_then _ _ (never_tests (type_refusal request types) (other_type _)) (λ _.
      never_then _ _ (never_acts entries 0 0) (λ _. never_sets entries request (anchor_of 8 entries)))))

  never_executes : (entries : List Entry) → Never (Executes step entries)
  unfolding Executes
  never_executes entries =
      never_then _ _ (never_acts entries 5 0) (λ _.
      never_then _ _ (never_waits entries) (λ busy_reads.
      never_then _ _ (never_acts entries 7 0) (λ status.
      never_then _ _ (never_tests (status_refusal status) (other_status _ status)) (λ _. never_gives busy_reads))))

  never_ends : (entries : List Entry) → Never (Ends step entries)
  unfolding Ends
  never_ends entries =
      never_then _ _ (never_acts entries 1 0) (λ address.
      never_then _ _ (never_triggers address) (λ _.
      never_then _ _ (never_acts entries 4 0) (λ _. never_gives tt)))

  never_injects : (entries : List Entry) (request : Request) → place_refusal entries request ≡ None → Never (Injects step entries request)
  unfolding Injects
  never_injects entries request none =
      never_then _ _ (never_prepares entries request none) (λ _.
      never_then _ _ (never_executes entries) (λ busy_reads.
      never_then _ _ (never_ends entries) (λ _. never_gives _)))

-- a test that refuses ends what follows it
refused_at : {S B : Type 0} {refusal : Option InjectError} (error : InjectError) (next : Unit {0} → Part S B) (before : S) (result : Result B InjectError) (after : S)
    → refusal ≡ Some error → Then (Tests refusal) next before result after → result ≡ Err error
unfolding Then
refused_at error next before (Ok last) after is (found, between, tested, later) = absurd (cc (tested.0 ∙ is))
refused_at error next before (Err other) after is (inl tested) = ap Err (cc (tested.0 ∙ is))
refused_at error next before (Err other) after is (inr (found, between, tested, later)) = absurd (cc (tested.0 ∙ is))

-- what ends the first part ends both
ends_first : {S A B : Type 0} (error : InjectError) (first : Part S A) (next : A → Part S B) (before : S) (result : Result B InjectError) (after : S)
    → ((r : Result A InjectError) (between : S) → first before r between → r ≡ Err error) → Then first next before result after → result ≡ Err error
unfolding Then
ends_first error first next before (Ok last) after only (found, between, ok, later) = absurd (cc (only (Ok found) between ok))
ends_first error first next before (Err other) after only (inl stops) = ap Err (cc (only (Err other) after stops))
ends_first error first next before (Err other) after only (inr (found, between, ok, later)) = absurd (cc (only (Ok found) between ok))

-- where the place can be told or there is none, there is no refusal of it
told : (b : Bool) (error : InjectError) → b ≡ false → (if b then Some error else None) ≡ None
told b error is = ap (λ c. if c then Some error else None) is

untold : (b : Bool) (error : InjectError) → b ≡ true → (if b then Some error else None) ≡ Some error
untold b error is = ap (λ c. if c then Some error else None) is

module _ {S : Type 0} (step : S → Access → S → Type 0) (entries : List Entry) (request : Request) (before : S) (after : S) where
  only_then : (b : Bool) → lacks_address entries request ≡ b → Injects step entries request before (Err errors.NoAddress) after → IsTrue b
  only_then true is done = refl
  only_then false is done = absurd (never_injects step entries request (told (lacks_address entries request) errors.NoAddress is) before after done)

  always_then : (result : Result Injected InjectError) → lacks_address entries request ≡ true → Injects step entries request before result after → result ≡ Err errors.NoAddress
  unfolding Injects Prepares
  always_then result is done =
      ends_first errors.NoAddress (Prepares step entries request) _ before result after
      (λ r between prepared. refused_at errors.NoAddress _ before r between (untold (lacks_address entries request) errors.NoAddress is) prepared) done

  pub no_address : (result : Result Injected InjectError) → Injects step entries request before result after
      → (result ≡ Err errors.NoAddress) ↔ IsTrue (lacks_address entries request)
  no_address result done = (
    λ is. only_then (lacks_address entries request) refl (rw is at done),
    λ is. always_then result is done,
  )
