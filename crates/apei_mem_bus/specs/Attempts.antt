-- Accesses that are numbered, and those of them that failed by plan.
use Rattle.std.specs.Prelude.{◌≡◌, ℕ, List, length}
use Rattle.fault_plan.specs.Plan.{Calls, no_calls}
use Rattle.apei_mem_bus.specs.declared.attempts.Attempts.{Attempts}

-- the numbered accesses (own choice)
abbrev pub calls_in : Attempts → Calls
calls_in attempts = attempts.plan

-- how many of them failed by plan (own choice)
abbrev pub failures_in : Attempts → ℕ
failures_in attempts = attempts.faults

-- how many accesses at most are to fail by plan (own choice)
abbrev pub planned_in : Attempts → ℕ
planned_in attempts = length attempts.plan.failing

-- no access yet, and these are to fail (own choice)
pub record IsUntried (attempts : Attempts) (failing : List ℕ) : Type 0 where
  pub calls : calls_in attempts ≡ no_calls failing
  pub faults : failures_in attempts ≡ 0
