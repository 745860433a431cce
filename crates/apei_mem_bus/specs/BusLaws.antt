-- What an access of a bus in memory answers, and which cells it leaves unmapped.
use Rattle.std.proofs.Common.{◌≡◌, ℕ, Bool, true, false, if◌then◌else◌, Option, Some, None, ap, ◌∙◌}
use Rattle.std.specs.Option.{option_map}
use Rattle.apei_base.specs.Bus.{Cells, Access, Reads, Writes, Copies, Answers, KeepsUnmapped}
use Rattle.apei_mem_bus.specs.MemBus.{IsMemStep}

-- in memory a read answers the value of its cells, and a copy their bytes
pub mem_answers : (before after : Cells) (access : Access) → IsMemStep before access after → Answers (Some before) access
mem_answers before after (Reads reach value) step = step.0
mem_answers before after (Writes reach value) step = tt
mem_answers before after (Copies address bytes) step = step.0

-- what is none is replaced by none
none_stays : (b c : Bool) (old : Option ℕ) (f : ℕ → ℕ) → old ≡ None → (if b then (if c then option_map f old else old) else old) ≡ None
none_stays true true old f is_none = ap (option_map f) is_none
none_stays true false old f is_none = is_none
none_stays false c old f is_none = is_none

-- in memory no access maps a cell
pub mem_unmapped : (before after : Cells) (access : Access) → IsMemStep before access after → KeepsUnmapped (Some before) (Some after)
mem_unmapped before after (Reads reach value) step = λ space address is_none. ap (λ (cells : Cells). cells space address) step.1 ∙ is_none
mem_unmapped before after (Writes reach value) step = λ space address is_none. step space address ∙ none_stays _ _ (before space address) _ is_none
mem_unmapped before after (Copies address bytes) step = λ space address is_none. ap (λ (cells : Cells). cells space address) step.1 ∙ is_none
