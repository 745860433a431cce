-- The order in which handlers are called: by falling priority, equals in order of registration.
use Rattle.std.specs.Prelude.{ℕ, Bool, true, not, ◌&&◌, ◌||◌, nat_lt, ◌+◌, ◌<◌, ◌==◌, int_lt, ℤ, List, [], ◌∷◌, length, All, Option, unwrap_or, position, insert}
use Rattle.std.specs.List.{list_all}
use Rattle.ghes_notify.specs.declared.order.Tag.{Tag}
use Rattle.ghes_notify.specs.declared.order.Rank.{Rank}

-- a tag, and the place of its handler in order of registration, from 0 on (own choice)
abbrev pub rank_of : Tag → ℕ → Rank
rank_of tag place = record { tag = tag; place = place }

-- how many ranks stand before this one: it goes before the first of a lower priority, and so behind its equals
-- (after Linux 6.1, kernel/notifier.c)
abbrev pub seat_of : List Rank → Rank → ℕ
seat_of order rank = unwrap_or (position (λ other. int_lt other.tag.priority rank.tag.priority) order) (length order)

-- an order with one rank more (own choice)
abbrev pub ranked : List Rank → Rank → List Rank
ranked order rank = insert order (seat_of order rank) rank

-- the order after these tags, of which the first has this place (own choice)
unfoldable pub order_after : ℕ → List Rank → List Tag → List Rank
order_after place order [] = order
order_after place order (t ∷ tags) = order_after (place + 1) (ranked order (rank_of t place)) tags

-- the order of all registered handlers: each one in turn is put into it (own choice)
abbrev pub call_order : List Tag → List Rank
call_order tags = order_after 0 [] tags

-- the numbers of these handlers are below this one (own choice)
abbrev pub AreBelow : ℕ → List Tag → Type 0
AreBelow made tags = All (λ (t : Tag). t.id < made) tags

-- the place of the handler with this number, or none (own choice)
abbrev pub place_of : List Tag → ℕ → Option ℕ
place_of tags number = position (λ t. t.id == number) tags

-- one handler is called before another: its priority is higher, or the same and it was registered before (own choice)
abbrev pub is_before : Rank → Rank → Bool
is_before a b = int_lt b.tag.priority a.tag.priority || (not (int_lt a.tag.priority b.tag.priority) && nat_lt a.place b.place)

-- each handler is called before all that stand behind it (own choice)
abbrev pub is_in_order : List Rank → Bool
is_in_order [] = true
is_in_order (r ∷ ranks) = list_all (is_before r) ranks && is_in_order ranks
