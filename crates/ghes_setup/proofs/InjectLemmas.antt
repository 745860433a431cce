-- An injection through the machine that injects, of which no access fails.
use Rattle.std.proofs.Common.{◌≡◌, ◌≢◌, ℕ, Bool, true, false, cond, nat_lt, List, Option, Some, None, Result, Ok, Err, IfOk, refl, sym, ap, subst, ◌∙◌, arith}
use Rattle.std.proofs.lemmas.Bool.{ltb-true}
use Rattle.std.specs.declared.alloc.AllocError.{AllocError}
use Rattle.apei_einj.specs.Injection.{Injects}
use Rattle.apei_einj.specs.Part.{CountsFault}
use Rattle.apei_einj.specs.declared.entry.Entry.{Entry}
use Rattle.apei_einj.specs.declared.injected.InjectError.{InjectError}
use Rattle.apei_einj.specs.declared.injected.InjectError.TheVariants.{NotAvailable, Busy, Status, Trigger, NoAddress, Fault}
use Rattle.apei_einj.specs.declared.injected.Injected.{Injected as Done}
use Rattle.apei_einj.specs.declared.request.Request.{Request}
use Rattle.fw_einj.specs.Machine.{Machine, IsMachineStep, settled}
use Rattle.apei_base.specs.Firmware.{IsRaised}
use Rattle.fw_einj.specs.Block.{block_of}
use Rattle.fw_einj.specs.declared.injection.Injection.{Injection}
use Rattle.fw_einj.specs.declared.port.Made.{Made}
use Rattle.ghes_ledger.specs.declared.ledger.InjectionEnd.TheVariants as ends
use Rattle.ghes_lines.specs.Injector.{IsInjected}
use Rattle.ghes_lines.specs.declared.injector.Injected.{Injected}
use Rattle.ghes_lines.specs.declared.injector.Injected.TheVariants as reports
use Rattle.ghes_setup.specs.Injecting.{injected_by, IsInjection}

-- where no access failed, the answer is no fault
unfailed : (answer : Result Done InjectError) → CountsFault answer 0 0 → answer ≢ Err Fault
unfailed (Ok done) counted same = absurd cc
unfailed (Err error) counted same = absurd (never error counted cc) where
  never : (error : InjectError) → CountsFault {A = Done} (Err error) 0 0 → error ≡ Fault → ⊥
  never error counted is = let zero : CountsFault {A = Done} (Err Fault) 0 0 = subst (λ e. CountsFault {A = Done} (Err e) 0 0) is counted in absurd (omega (arith, zero))

-- what was made of it is what it is to make
pub is_injection : (sources : ℕ) (entries : List Entry) (request : Request) (before between after : Machine) (answer : Result Done InjectError) (made : Option Made) (result : Result Injected AllocError) → Injects IsMachineStep entries request before answer between → CountsFault answer 0 0 → made ≡ between.made → after ≡ settled between → IfOk result (λ injected. injected ≡ injected_by sources answer made) → IfOk result (IsInjection sources entries request before after)
is_injection sources entries request before between after answer made (Ok injected) steps counted is taken told = record {
  answer = answer;
  between = between;
  steps = steps;
  unfailed = unfailed answer counted;
  injected_is = told ∙ ap (injected_by sources answer) is;
  settled_is = taken;
}
is_injection sources entries request before between after answer made (Err error) steps counted is taken told = tt

either_injected : (b : Bool) (sources : ℕ) (made : Made) → nat_lt made.source sources ≡ b → ((injection : Injection) → IsRaised (block_of injection)) → IsInjected sources (cond b (reports.Made made.source (block_of made.injection)) (reports.Ended (ends.Trigger 0)))
either_injected true sources made below raised = (ltb-true made.source sources below, raised made.injection)
either_injected false sources made below raised = tt

told_injected : (sources : ℕ) (answer : Result Done InjectError) (made : Option Made) → ((injection : Injection) → IsRaised (block_of injection)) → IsInjected sources (injected_by sources answer made)
told_injected sources (Ok done) None raised = tt
told_injected sources (Ok done) (Some made) raised = either_injected (nat_lt made.source sources) sources made refl raised
told_injected sources (Err NotAvailable) made raised = tt
told_injected sources (Err Busy) made raised = tt
told_injected sources (Err (Status value)) made raised = tt
told_injected sources (Err (Trigger reason)) made raised = tt
told_injected sources (Err NoAddress) made raised = tt
told_injected sources (Err Fault) made raised = tt

-- it is a block that firmware may raise, of a source that is there, or an end without one
pub is_injected : (sources : ℕ) (entries : List Entry) (request : Request) (before after : Machine) (result : Result Injected AllocError) → ((injection : Injection) → IsRaised (block_of injection)) → IfOk result (IsInjection sources entries request before after) → IfOk result (IsInjected sources)
is_injected sources entries request before after (Ok injected) raised is =
    subst (IsInjected sources) (sym is.injected_is) (told_injected sources is.answer is.between.made raised)
is_injected sources entries request before after (Err error) raised is = tt
