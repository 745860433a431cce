-- What a script may ask for is what a machine of its sources allows.
use Rattle.std.proofs.Common.{◌≡◌, ◌<◌, ℕ, List, [], ◌∷◌, length, subst}
use Rattle.std.specs.List.{AllByRecursion}
use Rattle.std.proofs.lemmas.Option.{slice_get_within}
use Rattle.ghes_script.specs.Setup.{Setup}
use Rattle.ghes_script.specs.Sofar.{after}
use Rattle.ghes_script.specs.Sound.{IsRaised as IsRaisedLine, IsAllowed as MayAsk, AreAllowed}
use Rattle.ghes_script.specs.declared.line.Line.{Line}
use Rattle.ghes_script.specs.declared.line.What.{What}
use Rattle.ghes_script.specs.declared.line.What.TheVariants as asks
use Rattle.apei_base.specs.Firmware.{IsRaised}
use Rattle.ghes_lines.specs.Lines.{IsAllowed}
use Rattle.ghes_lines.specs.declared.machine.Machine.{Machine}

-- a position among the names is one among the sources
inside : (setup : Setup) (machine : Machine) (s : ℕ) → length setup.names ≡ length machine.sources.items → s < length setup.names → s < length machine.sources.items
inside setup machine s same below = subst (λ n. s < n) same below

block_is : (block : List ℕ) → IsRaisedLine block → IsRaised block
block_is block is = record { whole = is.least; stands = is.status }

line_is : (setup : Setup) (machine : Machine) (sofar : _) (what : What) → length setup.names ≡ length machine.sources.items → MayAsk setup sofar what → IsAllowed machine what
line_is setup machine sofar (asks.Slots n) same may = tt
line_is setup machine sofar (asks.Contexts n) same may = tt
line_is setup machine sofar (asks.Serve source context) same may = tt
line_is setup machine sofar (asks.AckCell source value) same may = tt
line_is setup machine sofar (asks.Available value) same may = tt
line_is setup machine sofar (asks.Busy n) same may = tt
line_is setup machine sofar (asks.Status n) same may = tt
line_is setup machine sofar (asks.Route class source) same may = tt
line_is setup machine sofar (asks.Clock time) same may = tt
line_is setup machine sofar (asks.Raise source block) same may = (inside setup machine source same may.0, block_is block may.1)
line_is setup machine sofar (asks.Inject request) same may = tt
line_is setup machine sofar (asks.Nmi source) same may = inside setup machine source same may
line_is setup machine sofar asks.Work same may = tt
line_is setup machine sofar (asks.Run n) same may = tt
line_is setup machine sofar (asks.Peek source) same may = inside setup machine source same (slice_get_within setup.names source may.name may.there)
line_is setup machine sofar (asks.Fail source n) same may = inside setup machine source same may.0

pub lines_are : (setup : Setup) (machine : Machine) (sofar : _) (lines : List Line) → length setup.names ≡ length machine.sources.items → AreAllowed setup sofar lines → AllByRecursion (λ line. IsAllowed machine line.what) lines
lines_are setup machine sofar [] same all = tt
lines_are setup machine sofar (line ∷ lines) same all = (line_is setup machine sofar line.what same all.0, lines_are setup machine (after sofar line.what) lines same all.2)
