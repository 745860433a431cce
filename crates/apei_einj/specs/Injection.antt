-- An injection: the actions of a table, the address structure and the trigger table, in one order, up to the first
-- refusal or failed access (ACPI 6.5, 18.6.6; the order: After Linux 6.1, drivers/acpi/apei/einj.c).
use Rattle.std.specs.Prelude.{◌≡◌, ◌<◌, ℕ, zero, suc, ◌+◌, ◌%◌, Bool, true, false, ◌&&◌, ◌==◌, bit_and, if◌then◌else◌, List, [], ◌∷◌, Option, Some, None, Result, Ok, Err}
use Rattle.apei_base.specs.Bus.{Access}
use Rattle.apei_einj.specs.Anchor.{anchor_of}
use Rattle.apei_einj.specs.Part.{Then, Gives, Tests, Stores, Acts}
use Rattle.apei_einj.specs.Refusal.{lacks}
use Rattle.apei_einj.specs.Request.{Row, has_place, address_structure}
use Rattle.apei_einj.specs.Trigger.{Triggers}
use Rattle.apei_einj.specs.declared.entry.Entry.{Entry}
use Rattle.apei_einj.specs.declared.injected.Injected.{Injected}
use Rattle.apei_einj.specs.declared.injected.InjectError.{InjectError}
use Rattle.apei_einj.specs.declared.injected.InjectError.TheVariants as errors
use Rattle.apei_einj.specs.declared.request.Request.{Request}

-- a place is named, and no address structure can tell it
abbrev pub lacks_address : List Entry → Request → Bool
lacks_address entries request = has_place request.place && lacks 8 entries

-- the refusal for that (own choice)
abbrev pub place_refusal : List Entry → Request → Option InjectError
place_refusal entries request = if lacks_address entries request then Some errors.NoAddress else None

-- the error type is none of those that the machine can inject (ACPI 6.5, 18.6.1)
abbrev pub type_refusal : Request → ℕ → Option InjectError
type_refusal request types = if bit_and types request.error == 0 then Some errors.NotAvailable else None

-- the machine says that it failed (ACPI 6.5, 18.6.1)
abbrev pub status_refusal : ℕ → Option InjectError
status_refusal status = if status == 0 then None else Some (errors.Status status)

-- the machine is still busy: bit 0 (ACPI 6.5, 18.6.1)
abbrev pub is_busy : ℕ → Bool
is_busy value = value % 2 == 1

-- how many times it may be busy (own choice)
abbrev pub busy_limit : ℕ
busy_limit = 1000

module _ {S : Type 0} (step : S → Access → S → Type 0) where
  -- the fields are written behind an address, one after another
  unfoldable pub WritesRows : ℕ → List Row → S → Result (Unit {0}) InjectError → S → Type 0
  WritesRows address [] = Gives tt
  WritesRows address (row ∷ rows) =
      Then (Stores step (address + row.offset) row.width row.value) (λ _. WritesRows address rows)

  -- the error type is set: with the address structure where there is one, and else by action 2 (ACPI 6.5, 18.6.1)
  unfoldable pub SetsType : List Entry → Request → Option Entry → S → Result (Unit {0}) InjectError → S → Type 0
  SetsType entries request None = Then (Acts step entries 2 request.error) (λ _. Gives tt)
  SetsType entries request (Some anchor) = WritesRows anchor.register.address (address_structure request.error request.place)

  -- so many runs of action 6, after each of which the machine is busy
  unfoldable pub AreBusy : List Entry → ℕ → S → S → Type 0
  AreBusy entries zero before after = after ≡ before
  AreBusy entries (suc n) before after =
      (value : ℕ) × (between : S) × AreBusy entries n before between × Acts step entries 6 0 between (Ok value) after
      × (is_busy value ≡ true)

  -- Action 6 is run until the machine is not busy, and gives how many times it was; that many as the limit are too many.
  unfoldable pub Waits : List Entry → S → Result ℕ InjectError → S → Type 0
  Waits entries before (Ok n) after =
      (n < busy_limit) × ((value : ℕ) × (between : S) × AreBusy entries n before between
      × Acts step entries 6 0 between (Ok value) after × (is_busy value ≡ false))
  Waits entries before (Err errors.Busy) after = AreBusy entries busy_limit before after
  Waits entries before (Err errors.Fault) after =
      (n : ℕ) × (between : S) × (n < busy_limit) × AreBusy entries n before between
      × Acts step entries 6 0 between (Err errors.Fault) after
  Waits entries before (Err errors.NotAvailable) after = ⊥
  Waits entries before (Err (errors.Status value)) after = ⊥
  Waits entries before (Err (errors.Trigger reason)) after = ⊥
  Waits entries before (Err errors.NoAddress) after = ⊥

  -- The machine is asked for the error: a place needs the address structure, action 3 tells which types there are, action 0
  -- begins, and the type is set.
  unfoldable pub Prepares : List Entry → Request → S → Result (Unit {0}) InjectError → S → Type 0
  Prepares entries request =
      Then (Tests (place_refusal entries request)) (λ _.
      Then (Acts step entries 3 0) (λ types.
      Then (Tests (type_refusal request types)) (λ _.
      Then (Acts step entries 0 0) (λ _.
      SetsType entries request (anchor_of 8 entries)))))

  -- The machine is told to inject it: action 5 executes, action 6 is awaited, and action 7 tells the status.
  unfoldable pub Executes : List Entry → S → Result ℕ InjectError → S → Type 0
  Executes entries =
      Then (Acts step entries 5 0) (λ _.
      Then (Waits entries) (λ busy_reads.
      Then (Acts step entries 7 0) (λ status.
      Then (Tests (status_refusal status)) (λ _.
      Gives busy_reads))))

  -- The error is triggered: action 1 tells where the trigger table is, that is run, and action 4 ends.
  unfoldable pub Ends : List Entry → S → Result (Unit {0}) InjectError → S → Type 0
  Ends entries =
      Then (Acts step entries 1 0) (λ address.
      Then (Triggers step address) (λ _.
      Then (Acts step entries 4 0) (λ _.
      Gives tt)))

  -- The whole of it, with how many times the machine was busy.
  unfoldable pub Injects : List Entry → Request → S → Result Injected InjectError → S → Type 0
  Injects entries request =
      Then (Prepares entries request) (λ _.
      Then (Executes entries) (λ busy_reads.
      Then (Ends entries) (λ _.
      Gives (record { busy_reads = busy_reads }))))
