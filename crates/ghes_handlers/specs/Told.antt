-- Deliveries along one chain of the values of all handlers together, and what each handler was told.
use Rattle.std.specs.Prelude.{ℕ, ◌≡◌, ◌==◌, if◌then◌else◌, Bool, true, false, List, [], ◌∷◌, ◌++◌, length, slice_get, Option, Some, None, Result, Ok, Err, ⊤}
use Rattle.ghes_notify.specs.declared.handler.Verdict.TheVariants.{the_data as Verdict, Go, Stop, NoMemory}
use Rattle.ghes_notify.specs.declared.error.HandlerMemory.{HandlerMemory}
use Rattle.ghes_notify.specs.declared.order.Rank.{Rank}
use Rattle.ghes_notify.specs.Delivery.{Delivery, Delivers}

-- what holds by the answer to a delivery (own choice)
abbrev pub MatchAnswer : Result ⊤ HandlerMemory → Type 0 → Type 0 → Type 0
MatchAnswer (Ok done) go memory = go
MatchAnswer (Err id) go memory = memory

-- The deliveries go one after another along these ranks, from the values of all handlers before them to those behind
-- them, up to the first in which a handler's memory ran out. The chain has the values of all handlers before each
-- delivery that was made (own choice).
abbrev pub DeliversAlong : {H : Type 0} → (H → List Delivery → Type 0) → (H → Delivery → Verdict) → List Rank
    → List Delivery → List (List H) → List H → List H → Result ⊤ HandlerMemory → Type 0
DeliversAlong stands answers ranks [] chain old new result = (chain ≡ []) × (new ≡ old) × (result ≡ Ok tt)
DeliversAlong stands answers ranks (d ∷ ds) [] old new result = ⊥
DeliversAlong {H} stands answers ranks (d ∷ ds) (values ∷ chain) old new result =
    (between : List H) × (answer : Result ⊤ HandlerMemory)
    × (values ≡ old) × Delivers stands answers d ranks old between answer
    × MatchAnswer answer
    (DeliversAlong stands answers ranks ds chain between new result)
    ((chain ≡ []) × (new ≡ between) × (result ≡ answer))

-- there is such a chain (own choice)
abbrev pub AreDelivered : {H : Type 0} → (H → List Delivery → Type 0) → (H → Delivery → Verdict) → List Rank
    → List Delivery → List H → List H → Result ⊤ HandlerMemory → Type 0
AreDelivered {H} stands answers ranks ds old new result =
    (chain : List (List H)) × DeliversAlong stands answers ranks ds chain old new result

-- an answer lets those behind be told too (after Linux 6.1, kernel/notifier.c)
abbrev pub goes_on : Verdict → Bool
goes_on Go = true
goes_on Stop = false
goes_on NoMemory = false

-- the answer of the handler at a place lets those behind be told too (own choice)
abbrev pub goes_at : {H : Type 0} → (H → Delivery → Verdict) → Delivery → Option H → Bool
goes_at answers d None = false
goes_at answers d (Some handler) = goes_on (answers handler d)

-- The handler at a place is told of a delivery along these ranks, where all handlers have these values before the
-- delivery: each one before it answers Go (after Linux 6.1, kernel/notifier.c).
abbrev pub is_told : {H : Type 0} → (H → Delivery → Verdict) → Delivery → ℕ → List Rank → List H → Bool
is_told answers d place [] handlers = false
is_told answers d place (rank ∷ ranks) handlers =
    if rank.place == place then true
    else if goes_at answers d (slice_get handlers rank.place) then is_told answers d place ranks handlers
    else false

-- the deliveries that a chain gives to the handler at a place, in order (own choice)
abbrev pub given_to : {H : Type 0} → (H → Delivery → Verdict) → ℕ → List Rank → List Delivery → List (List H)
    → List Delivery
given_to answers place ranks [] chain = []
given_to answers place ranks (d ∷ ds) [] = []
given_to answers place ranks (d ∷ ds) (values ∷ chain) =
    (if is_told answers d place ranks values then d ∷ [] else []) ++ given_to answers place ranks ds chain

-- for each list that the one stands for, the other stands for that list and then these deliveries (own choice)
abbrev pub StandsBehind : {H : Type 0} → (H → List Delivery → Type 0) → List Delivery → Option H → Option H → Type 0
StandsBehind stands given None None = ⊤
StandsBehind stands given (Some before) None = ⊥
StandsBehind stands given None (Some after) = ⊥
StandsBehind stands given (Some before) (Some after) = (list : List Delivery) → stands before list
    → stands after (list ++ given)

-- Handlers were told of deliveries.
pub record AreTold {H : Type 0} (stands : H → List Delivery → Type 0) (answers : H → Delivery → Verdict)
    (ranks : List Rank) (ds : List Delivery) (old new : List H) (result : Result ⊤ HandlerMemory) : Type 0 where
  -- the values of all handlers before each delivery that was made
  pub chain : List (List H)
  -- the deliveries went along it, in order
  pub along : DeliversAlong stands answers ranks ds chain old new result
  -- the handlers are as many as before
  pub count : length new ≡ length old
  -- each handler stands for each list that it stood for, followed by the deliveries that the chain gave to it
  pub each : (place : ℕ) → StandsBehind stands (given_to answers place ranks ds chain) (slice_get old place)
      (slice_get new place)
