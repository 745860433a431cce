-- Deliveries, and which handlers are told of one.
use Rattle.std.specs.Prelude.{ℕ, ◌≡◌, ◌<◌, List, [], ◌∷◌, ◌++◌, All, Some, slice_get, slice_set, Result, Ok, Err, ⊤}
use Rattle.ghes_notify.specs.declared.handler.Verdict.TheVariants.{the_data as Verdict, Go, Stop, NoMemory}
use Rattle.ghes_notify.specs.declared.error.HandlerMemory.{HandlerMemory}
use Rattle.ghes_notify.specs.declared.order.Rank.{Rank}

-- a delivered block: its source, its number there, and its bytes
pub record Delivery : Type 0 where
  pub source : ℕ
  pub seq : ℕ
  pub bytes : List ℕ

abbrev pub delivery_of : ℕ → ℕ → List ℕ → Delivery
delivery_of source seq bytes = record { source = source; seq = seq; bytes = bytes }

-- for each list that the one stands for, the other stands for that list and then this delivery (own choice)
abbrev pub StandsOn : {H : Type 0} → (H → List Delivery → Type 0) → Delivery → H → H → Type 0
StandsOn stands d before after = (list : List Delivery) → stands before list → stands after (list ++ d ∷ [])

-- the handler at this place was given the delivery and answered so; all others are what they were (own choice)
abbrev pub IsGiven : {H : Type 0} → (H → List Delivery → Type 0) → (H → Delivery → Verdict) → Delivery → ℕ → List H → List H → Verdict → Type 0
IsGiven {H} stands answers d place old new verdict =
    (before : H) × (after : H)
    × (slice_get old place ≡ Some before) × (new ≡ slice_set old place after)
    × (verdict ≡ answers before d) × StandsOn stands d before after

-- what holds by an answer (own choice)
abbrev pub MatchVerdict : Verdict → Type 0 → Type 0 → Type 0 → Type 0
MatchVerdict Go go stop memory = go
MatchVerdict Stop go stop memory = stop
MatchVerdict NoMemory go stop memory = memory

-- this handler answered that memory ran out (own choice)
abbrev pub memory_of : Rank → HandlerMemory
memory_of rank = record { 0 = record { number = rank.tag.id } }

-- a delivery goes along these ranks, up to and with the first handler that does not answer Go; no other handler changes
-- (after Linux 6.1, kernel/notifier.c)
abbrev pub Delivers : {H : Type 0} → (H → List Delivery → Type 0) → (H → Delivery → Verdict) → Delivery → List Rank → List H → List H → Result ⊤ HandlerMemory → Type 0
Delivers {H} stands answers d [] old new result = (new ≡ old) × (result ≡ Ok tt)
Delivers {H} stands answers d (rank ∷ ranks) old new result =
    (verdict : Verdict) × (given : List H) × IsGiven stands answers d rank.place old given verdict
    × MatchVerdict verdict
    (Delivers stands answers d ranks given new result)
    ((new ≡ given) × (result ≡ Ok tt))
    ((new ≡ given) × (result ≡ Err (memory_of rank)))

-- each rank names one of so many handlers (own choice)
abbrev pub IsWithin : ℕ → List Rank → Type 0
IsWithin count ranks = All (λ (r : Rank). r.place < count) ranks
