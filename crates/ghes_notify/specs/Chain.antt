-- A chain of registered handlers, as contracts see it.
use Rattle.std.specs.Prelude.{ℕ, ◌≡◌, ◌+◌, ℤ, List, [], ◌∷◌, ◌++◌, length, remove}
use Rattle.ghes_notify.specs.declared.order.Tag.{Tag}
use Rattle.ghes_notify.specs.declared.error.RegisterError.TheVariants.{the_data as RegisterError, OutOfMemory, Full}

-- the handlers and their tags, both in order of registration, and how many were ever registered (own choice)
pub record Registered (H : Type 0) : Type 0 where
  pub handlers : List H
  pub tags : List Tag
  pub made : ℕ

-- a chain with one handler more; its number is how many there were before (own choice)
abbrev pub registered : {H : Type 0} → Registered H → H → ℤ → Registered H
registered chain handler priority = record {
  handlers = chain.handlers ++ handler ∷ [];
  tags = chain.tags ++ (record { id = chain.made; priority = priority }) ∷ [];
  made = chain.made + 1;
}

-- a chain without the handler at this place (own choice)
abbrev pub unregistered : {H : Type 0} → Registered H → ℕ → Registered H
unregistered chain place = record { handlers = remove chain.handlers place; tags = remove chain.tags place; made = chain.made }

-- a chain whose handlers are these now (own choice)
abbrev pub delivered : {H : Type 0} → Registered H → List H → Registered H
delivered chain handlers = record { handlers = handlers; tags = chain.tags; made = chain.made }

-- a refusal gives the handler back, and comes for want of memory, or where 32 handlers are registered (own choice)
abbrev pub IsRefusalOf : {H : Type 0} → Registered H → H → RegisterError H → Type 0
IsRefusalOf chain handler (OutOfMemory back) = back ≡ handler
IsRefusalOf chain handler (Full back) = (back ≡ handler) × (length chain.handlers ≡ 32)
