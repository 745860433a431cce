-- An injection on the machine that injects, as the lines of a script tell it (own choice).
use Rattle.std.specs.Prelude.{◌≡◌, ◌≢◌, ℕ, nat_lt, if◌then◌else◌, List, Option, Some, None, Result, Ok, Err, option_map}
use Rattle.apei_einj.specs.Injection.{Injects as InjectsBy}
use Rattle.apei_einj.specs.declared.entry.Entry.{Entry}
use Rattle.apei_einj.specs.declared.injected.InjectError.{InjectError}
use Rattle.apei_einj.specs.declared.injected.InjectError.TheVariants as errors
use Rattle.apei_einj.specs.declared.injected.Injected.{Injected as Done}
use Rattle.apei_einj.specs.declared.request.Request.{Request}
use Rattle.fw_einj.specs.Block.{block_of}
use Rattle.fw_einj.specs.Machine.{Machine, machine_of, IsMachineStep, settled}
use Rattle.fw_einj.specs.declared.port.Made.{Made as Trigger}
use Rattle.ghes_ledger.specs.declared.ledger.InjectionEnd.{InjectionEnd}
use Rattle.ghes_ledger.specs.declared.ledger.InjectionEnd.TheVariants as ends
use Rattle.ghes_lines.specs.declared.injector.Injected.{Injected}
use Rattle.ghes_lines.specs.declared.injector.Injected.TheVariants.{Made, Ended}
use Rattle.ghes_setup.specs.declared.injecting.Injecting.{Injecting}

-- how an injection ends that is refused; that an access failed has no end of its own, for none of the machine fails
abbrev pub refused_end : InjectError → InjectionEnd
refused_end errors.NotAvailable = ends.NotAvailable
refused_end errors.Busy = ends.Busy
refused_end (errors.Status value) = ends.Status value
refused_end (errors.Trigger reason) = ends.Trigger reason
refused_end errors.NoAddress = ends.NoAddress
refused_end errors.Fault = ends.Trigger 0

-- what a trigger leaves: the block of what it made, for the source of its class, where there are so many sources; else nothing was
-- made
abbrev pub triggered : ℕ → Option Trigger → Injected
triggered sources None = Ended (ends.Trigger 0)
triggered sources (Some made) =
    if nat_lt made.source sources then Made made.source (block_of made.injection) else Ended (ends.Trigger 0)

-- what an injection makes, by its answer and what its trigger made
abbrev pub injected_by : ℕ → Result Done InjectError → Option Trigger → Injected
injected_by sources (Ok done) made = triggered sources made
injected_by sources (Err error) made = Ended (refused_end error)

-- An injection by these entries: it is its steps in order, up to the first refusal, and no access fails; what it makes is by its
-- answer and its trigger, which is settled then (own choice, but for ACPI 6.5, 18.6.1).
pub record IsInjection (sources : ℕ) (entries : List Entry) (request : Request) (before after : Machine) (injected : Injected) : Type 0 where
  pub answer : Result Done InjectError
  pub between : Machine
  pub steps : InjectsBy IsMachineStep entries request before answer between
  pub unfailed : answer ≢ Err errors.Fault
  pub injected_is : injected ≡ injected_by sources answer between.made
  pub settled_is : after ≡ settled between

-- What makes the injections of a script: how many sources may tell, the entries by which it injects, where there is an injection
-- table, and the machine that injects, where there is one.
pub record InjectingSeen : Type 0 where
  pub sources : ℕ
  pub entries : Option (List Entry)
  pub machine : Option Machine

abbrev pub seen_of : Injecting → InjectingSeen
seen_of injecting = record {
  sources = injecting.sources;
  entries = injecting.einj;
  machine = option_map machine_of injecting.port;
}

-- an injection by a table on a machine; where there is no table, or no machine that injects, no type of an error is available
abbrev pub IsMadeOn : ℕ → Option (List Entry) → Request → Option Machine → Option Machine → Injected → Type 0
IsMadeOn sources None request before after injected = (after ≡ before) × (injected ≡ Ended ends.NotAvailable)
IsMadeOn sources (Some entries) request None after injected = (after ≡ None) × (injected ≡ Ended ends.NotAvailable)
IsMadeOn sources (Some entries) request (Some before) None injected = ⊥
IsMadeOn sources (Some entries) request (Some before) (Some after) injected = IsInjection sources entries request before after injected

-- An injection of a script: it is made on the machine that injects, and nothing else changes.
pub record Injects (before : InjectingSeen) (request : Request) (injected : Injected) (after : InjectingSeen) : Type 0 where
  pub made : IsMadeOn before.sources before.entries request before.machine after.machine injected
  pub kept : after ≡ record before { machine = after.machine }
