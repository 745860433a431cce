-- The words that a script has names for (own choice).
use Rattle.std.specs.Prelude.{ℕ, if◌then◌else◌, List, bytes_eq, codes, Option, Some, None}
use Rattle.std.specs.Option.{option_or}
use Rattle.ghes_script.specs.declared.line.Class.{Class}
use Rattle.ghes_script.specs.declared.line.Class.TheVariants as classes
use Rattle.ghes_script.specs.declared.name.Name.{Name}
use Rattle.ghes_script.specs.declared.name.Name.TheVariants.{Slots, Contexts, Serve, AckCell, Available, Busy, Status, Route, Clock, Raise, Inject, Nmi, Work, Run, Peek, Fail}

-- the setting of this name
unfoldable pub setting_of : List ℕ → Option Name
setting_of word =
    if bytes_eq word (codes "slots") then Some Slots
    else if bytes_eq word (codes "contexts") then Some Contexts
    else if bytes_eq word (codes "serve") then Some Serve
    else if bytes_eq word (codes "ackcell") then Some AckCell
    else if bytes_eq word (codes "available") then Some Available
    else if bytes_eq word (codes "busy") then Some Busy
    else if bytes_eq word (codes "status") then Some Status
    else if bytes_eq word (codes "route") then Some Route
    else None

-- the command of this name
unfoldable pub command_of : List ℕ → Option Name
command_of word =
    if bytes_eq word (codes "nmi") then Some Nmi
    else if bytes_eq word (codes "raise") then Some Raise
    else if bytes_eq word (codes "work") then Some Work
    else if bytes_eq word (codes "clock") then Some Clock
    else if bytes_eq word (codes "inject") then Some Inject
    else if bytes_eq word (codes "run") then Some Run
    else if bytes_eq word (codes "peek") then Some Peek
    else if bytes_eq word (codes "fail") then Some Fail
    else None

-- the command or the setting of this name
abbrev pub name_of : List ℕ → Option Name
name_of word = option_or (command_of word) (setting_of word)

-- the class of errors of this name
unfoldable pub class_of : List ℕ → Option Class
class_of word =
    if bytes_eq word (codes "processor") then Some classes.Processor
    else if bytes_eq word (codes "memory") then Some classes.Memory
    else if bytes_eq word (codes "pcie") then Some classes.Pcie
    else if bytes_eq word (codes "platform") then Some classes.Platform
    else None
