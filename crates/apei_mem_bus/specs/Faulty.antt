-- A bus over another, some of whose accesses are to fail.
use Rattle.std.specs.Prelude.{◌≡◌, ◌<◌, ℕ, ◌+◌, Bool, false, List, length, IsTrue}
use Rattle.fault_plan.specs.Plan.{Calls, no_calls, with_call, fails_next, one_if}
use Rattle.apei_base.specs.Bus.{Access}
use Rattle.apei_base.specs.Firmware.{Seen}
use Rattle.apei_mem_bus.specs.declared.faulty.Faulty.{Faulty}

-- the same, with so many more accesses that are to fail at most (own choice)
abbrev pub with_planned : ℕ → Seen → Seen
with_planned more seen = record seen { planned = seen.planned + more }

module _ {P : Type 0} where
  -- the bus that accesses are passed on to (own choice)
  abbrev pub inner_of : Faulty P → P
  inner_of faulty = faulty.inner

  -- the numbered accesses (own choice)
  abbrev pub calls_of : Faulty P → Calls
  calls_of faulty = faulty.attempts.plan

  -- how many accesses were not passed on (own choice)
  abbrev pub own_faults : Faulty P → ℕ
  own_faults faulty = faulty.attempts.faults

  -- how many accesses at most are to fail by plan (own choice)
  abbrev pub planned_of : Faulty P → ℕ
  planned_of faulty = length faulty.attempts.plan.failing

  -- how many accesses have failed: those of the inner bus and those that were not passed on (own choice)
  abbrev pub faults_of : (P → ℕ) → Faulty P → ℕ
  faults_of faults faulty = faults (inner_of faulty) + own_faults faulty

  -- no access was made yet (own choice)
  pub record HoldsInner (faulty : Faulty P) (bus : P) (failing : List ℕ) : Type 0 where
    pub inner : inner_of faulty ≡ bus
    pub calls : calls_of faulty ≡ no_calls failing
    pub faults : own_faults faulty ≡ 0

  -- One access, which failed or not: it is counted, one that is to fail is not passed on, and any other fails only where
  -- the inner one failed (own choice).
  pub record PassesOn (faults : P → ℕ) (old new : Faulty P) (failed : Bool) : Type 0 where
    pub counted : calls_of new ≡ with_call (calls_of old)
    pub raised : own_faults new ≡ own_faults old + one_if (fails_next (calls_of old))
    pub planned : IsTrue (fails_next (calls_of old)) → IsTrue failed × (inner_of new ≡ inner_of old)
    pub other : IsTrue failed → fails_next (calls_of old) ≡ false → faults (inner_of new) ≡ faults (inner_of old) + 1

  -- what the inner memory means, but that more accesses may fail by plan (own choice)
  abbrev pub seen_of : (P → Seen) → Faulty P → Seen
  seen_of seen faulty = with_planned (planned_of faulty) (seen (inner_of faulty))

  module _ {State : Type 0} where
    -- the state of the inner bus, and how many accesses at most are to fail by plan (own choice)
    abbrev pub state_of : (P → State) → Faulty P → State × ℕ
    state_of state faulty = (state (inner_of faulty), planned_of faulty)

-- a step of the inner bus, which keeps the plan (own choice)
abbrev pub IsInnerStep : {State : Type 0} → (State → Access → State → Type 0) → State × ℕ → Access → State × ℕ → Type 0
IsInnerStep step before access after = step before.0 access after.0 × (after.1 ≡ before.1)
