-- The closing texts of handlers.
use Rattle.std.specs.Prelude.{ℕ, List}
use Rattle.std.specs.List.{flat_map}

-- the closing texts of these handlers, in order
abbrev pub closing_texts : {H : Type 0} → (H → List ℕ) → List H → List ℕ
closing_texts closing_text handlers = flat_map closing_text handlers
