-- Handlers that are registered one after another.
use Rattle.std.specs.Prelude.{ℕ, pos, zero, suc, ◌+◌, List, [], ◌∷◌, length}
use Rattle.ghes_notify.specs.declared.order.Tag.{Tag}
use Rattle.ghes_notify.specs.declared.error.RegisterError.TheVariants.{the_data as RegisterError, OutOfMemory, Full}
use Rattle.ghes_notify.specs.Chain.{Registered}

-- so many tags with priority 0, their numbers from this one on (own choice)
abbrev pub tags_from : ℕ → ℕ → List Tag
tags_from first zero = []
tags_from first (suc count) = record { id = first; priority = pos 0 } ∷ tags_from (first + 1) count

-- the chain in which just these handlers were registered, in order, each with priority 0 (own choice)
abbrev pub chain_of : {H : Type 0} → List H → Registered H
chain_of handlers = record { handlers = handlers; tags = tags_from 0 (length handlers); made = length handlers }

-- the handler that was refused
abbrev pub refused_of : {H : Type 0} → RegisterError H → H
refused_of (OutOfMemory handler) = handler
refused_of (Full handler) = handler
