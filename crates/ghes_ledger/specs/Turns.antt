-- Which calls a line makes.
use Rattle.std.specs.Prelude.{◌≡◌, ◌<◌, ℕ, suc, zero, Bool, true, false, List, [], ◌∷◌, ◌++◌}
use Rattle.std.specs.List.{flat_map}
use Rattle.ghes_call.specs.declared.call.Call.{Call}
use Rattle.ghes_ledger.specs.Asks.{Asks, Calls, Runs}
use Rattle.ghes_ledger.specs.History.{Executed, of_context, clock_after}
use Rattle.ghes_ledger.specs.Outcomes.{ends_turns}
use Rattle.ghes_ledger.specs.Plan.{Plan, all_contexts, served}

-- the sources of so many turns
abbrev pub turns : ℕ → List ℕ → List ℕ
turns zero sources = []
turns (suc n) sources = sources ++ turns n sources

-- the one fact where this holds, and else the other
abbrev pub IfThenElse : Bool → Type 0 → Type 0 → Type 0
IfThenElse true P Q = P
IfThenElse false P Q = Q

-- These are calls on these sources in this order, up to and with the first that ends the turns of a context.
abbrev pub Along : List ℕ → List Call → Type 0
Along [] calls = calls ≡ []
Along (s ∷ sources) [] = ⊥
Along (s ∷ sources) (call ∷ calls) = (call.source ≡ s) × IfThenElse (ends_turns call.reply.outcome) (calls ≡ []) (Along sources calls)

-- the calls of a line `run`: context by context, each along its turns
pub record AreTurns (plan : Plan) (n : ℕ) (calls : List Call) : Type 0 where
  pub by_context : calls ≡ flat_map (λ c. of_context c calls) (all_contexts plan)
  pub along : (c : ℕ) → Along (turns n (served plan c)) (of_context c calls)

-- The calls that a line makes.
abbrev pub AreCallsOf : Plan → Asks → List Call → Type 0
AreCallsOf plan (Calls s) calls = (call : Call) × (calls ≡ call ∷ []) × (call.source ≡ s)
AreCallsOf plan (Runs n) calls = AreTurns plan n calls
AreCallsOf plan _ calls = calls ≡ []

-- A call is made by the context that serves its source, at the time of its line.
pub record IsMadeBy (plan : Plan) (before : List Executed) (call : Call) : Type 0 where
  pub source : call.source < plan.sources
  pub context : call.context ≡ plan.server call.source
  pub contexts : call.context < plan.contexts
  pub now : call.now ≡ clock_after before
