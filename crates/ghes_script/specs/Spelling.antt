-- When what a line asks for has a spelling (own choice).
use Rattle.std.specs.Prelude.{◌≡◌, ◌≢◌, ◌<◌, ◌^◌, ℕ, true, List, [], ◌∷◌}
use Rattle.std.specs.List.{AllByRecursion}
use Rattle.hex.specs.Hex.{IsBytes}
use Rattle.ghes_script.specs.Answer.{answer_of}
use Rattle.ghes_script.specs.Setup.{Setup}
use Rattle.ghes_script.specs.Sofar.{is_in_order}
use Rattle.ghes_script.specs.Sound.{IsAllowed}
use Rattle.ghes_script.specs.declared.answer.Answer.TheVariants.{Asks}
use Rattle.ghes_script.specs.declared.line.What.{What}
use Rattle.ghes_script.specs.declared.line.What.TheVariants.{Slots, Contexts, Serve, AckCell, Available, Busy, Status, Route, Clock, Raise, Inject, Nmi, Work, Run, Peek, Fail}
use Rattle.ghes_script.specs.declared.setup.SourceName.{SourceName}
use Rattle.ghes_script.specs.declared.sofar.Sofar.{Sofar}

-- the ids of sources differ
abbrev pub AreApart : List SourceName → Type 0
AreApart [] = Unit {0}
AreApart (name ∷ names) = AllByRecursion (λ other. other.id ≢ name.id) names × AreApart names

-- ids have 16 bits (ACPI 6.5, 18.3.2.7)
abbrev pub AreSmall : List SourceName → Type 0
AreSmall names = AllByRecursion (λ name. name.id < 2 ^ 16) names

-- the numbers fit the types of the code: a block consists of bytes, and an error type has 32 bits
abbrev pub FitsTypes : What → Type 0
FitsTypes (Raise source block) = IsBytes block
FitsTypes (Slots n) = Unit {0}
FitsTypes (Contexts n) = Unit {0}
FitsTypes (Serve source context) = Unit {0}
FitsTypes (AckCell source value) = Unit {0}
FitsTypes (Available value) = Unit {0}
FitsTypes (Busy n) = Unit {0}
FitsTypes (Status n) = Unit {0}
FitsTypes (Route class source) = Unit {0}
FitsTypes (Clock time) = Unit {0}
FitsTypes (Inject request) = request.error < 2 ^ 32
FitsTypes (Nmi source) = Unit {0}
FitsTypes Work = Unit {0}
FitsTypes (Run n) = Unit {0}
FitsTypes (Peek source) = Unit {0}
FitsTypes (Fail source n) = Unit {0}

-- What a line may ask for behind others, over sources whose ids differ: it is allowed, and it comes in order. The rest is
-- the range of the types of the code.
pub record MayCome (setup : Setup) (sofar : Sofar) (what : What) : Type 0 where
  pub apart : AreApart setup.names
  pub small : AreSmall setup.names
  pub contexts : sofar.contexts < 2 ^ 8
  pub fits : FitsTypes what
  pub allowed : IsAllowed setup sofar what
  pub ordered : is_in_order sofar what ≡ true

-- some text asks for this
pub record HasSpelling (setup : Setup) (sofar : Sofar) (what : What) : Type 0 where
  pub text : List ℕ
  pub reads : answer_of setup sofar text ≡ Asks what
