-- What an injection may make (own choice).
use Rattle.std.specs.Prelude.{◌≡◌, ◌<◌, ℕ, List, [], ◌∷◌, ◌++◌}
use Rattle.apei_base.specs.Firmware.{IsRaised}
use Rattle.apei_einj.specs.declared.request.Request.{Request}
use Rattle.ghes_ledger.specs.Asks.{Asks, Injects}
use Rattle.ghes_ledger.specs.History.{Executed}
use Rattle.ghes_ledger.specs.declared.ledger.InjectionEnd.{InjectionEnd}
use Rattle.ghes_ledger.specs.declared.ledger.InjectionEnd.TheVariants as ends
use Rattle.ghes_script.specs.declared.line.Line.{Line}
use Rattle.ghes_script.specs.declared.line.What.{What}
use Rattle.ghes_script.specs.declared.line.What.TheVariants as asks
use Rattle.ghes_lines.specs.declared.injector.Injected.{Injected}
use Rattle.ghes_lines.specs.declared.injector.Injected.TheVariants.{Made, Ended}

-- an injection ended without a block
abbrev pub IsWithoutBlock : InjectionEnd → Type 0
IsWithoutBlock (ends.Made source seq) = ⊥
IsWithoutBlock _ = Unit {0}

-- a block that firmware may raise, of one of so many sources, or an end without a block
abbrev pub IsInjected : ℕ → Injected → Type 0
IsInjected sources (Made source block) = (source < sources) × IsRaised block
IsInjected sources (Ended end) = IsWithoutBlock end

-- a line of a history tells what an injection made
abbrev pub IsTold : Injected → Executed → Type 0
IsTold (Made source block) line = line.made ≡ record { source = source; bytes = block } ∷ []
IsTold (Ended end) line = (line.made ≡ []) × (line.ends ≡ end ∷ [])

-- the injection that a line asks for, if it does
abbrev pub request_of : What → List Request
request_of (asks.Inject request) = request ∷ []
request_of _ = []

-- those of these lines, in order
abbrev pub requests_of : List Line → List Request
requests_of [] = []
requests_of (line ∷ lines) = request_of line.what ++ requests_of lines

-- a line of a history, where it is an injection
abbrev pub injection_by : Asks → Executed → List Executed
injection_by Injects line = line ∷ []
injection_by _ line = []

-- the injections of a history, oldest first
abbrev pub injections_in : List Executed → List Executed
injections_in [] = []
injections_in (line ∷ before) = injections_in before ++ injection_by line.act.asks line

-- These injections came of these lines of a history, both oldest first: each is a step of what makes them, told by its line.
abbrev pub Injections : {S : Type 0} → (S → Request → Injected → S → Type 0) → S → List Request → List Executed → S → Type 0
Injections does first [] [] last = last ≡ first
Injections {S} does first (request ∷ requests) (line ∷ lines) last =
    (injected : Injected) × (next : S) × does first request injected next × IsTold injected line × Injections does next requests lines last
Injections does first _ _ last = ⊥
