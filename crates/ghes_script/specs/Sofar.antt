-- The order of the lines of a script (own choice).
use Rattle.std.specs.Prelude.{nat_le, Bool, true, false, not, ◌&&◌}
use Rattle.ghes_script.specs.declared.line.What.{What}
use Rattle.ghes_script.specs.declared.line.What.TheVariants.{Slots, Contexts, Serve, AckCell, Available, Busy, Status, Route, Clock, Raise, Inject, Nmi, Work, Run, Peek, Fail}
use Rattle.ghes_script.specs.declared.sofar.Sofar.{Sofar}

-- before the first line: no command and no source that is served, one context, and time 0
abbrev pub start : Sofar
start = record { commands = false; served = false; contexts = 1; clock = 0 }

-- A line may come behind these: a setting behind no command, the contexts behind no source that is served too, and a
-- clock that does not fall.
abbrev pub is_in_order : Sofar → What → Bool
is_in_order sofar (Slots n) = not sofar.commands
is_in_order sofar (Contexts n) = not sofar.commands && not sofar.served
is_in_order sofar (Serve source context) = not sofar.commands
is_in_order sofar (AckCell source value) = not sofar.commands
is_in_order sofar (Available value) = not sofar.commands
is_in_order sofar (Busy n) = not sofar.commands
is_in_order sofar (Status n) = not sofar.commands
is_in_order sofar (Route class source) = not sofar.commands
is_in_order sofar (Clock time) = nat_le sofar.clock time
is_in_order sofar (Raise source block) = true
is_in_order sofar (Inject request) = true
is_in_order sofar (Nmi source) = true
is_in_order sofar Work = true
is_in_order sofar (Run n) = true
is_in_order sofar (Peek source) = true
is_in_order sofar (Fail source n) = true

-- with a command
abbrev pub commanded : Sofar → Sofar
commanded sofar = record sofar { commands = true }

-- what the lines so far mean with one more
abbrev pub after : Sofar → What → Sofar
after sofar (Slots n) = sofar
after sofar (Contexts n) = record sofar { contexts = n }
after sofar (Serve source context) = record sofar { served = true }
after sofar (AckCell source value) = sofar
after sofar (Available value) = sofar
after sofar (Busy n) = sofar
after sofar (Status n) = sofar
after sofar (Route class source) = sofar
after sofar (Clock time) = record sofar { commands = true; clock = time }
after sofar (Raise source block) = commanded sofar
after sofar (Inject request) = commanded sofar
after sofar (Nmi source) = commanded sofar
after sofar Work = commanded sofar
after sofar (Run n) = commanded sofar
after sofar (Peek source) = commanded sofar
after sofar (Fail source n) = commanded sofar
