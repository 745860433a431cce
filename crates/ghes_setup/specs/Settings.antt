-- What the settings of a script say (own choice).
use Rattle.std.specs.Prelude.{ℕ, ◌==◌, ◌%◌, if◌then◌else◌, List, [], ◌∷◌, slice_set}
use Rattle.fw_einj.specs.declared.setup.Setup.{Setup}
use Rattle.ghes_script.specs.Sound.{is_setting}
use Rattle.ghes_script.specs.declared.line.Class.{Class}
use Rattle.ghes_script.specs.declared.line.Class.TheVariants as classes
use Rattle.ghes_script.specs.declared.line.Line.{Line}
use Rattle.ghes_script.specs.declared.line.What.{What}
use Rattle.ghes_script.specs.declared.line.What.TheVariants as asks

-- the settings of a script: its lines before the first command
abbrev pub settings_of : List Line → List Line
settings_of [] = []
settings_of (line ∷ lines) = if is_setting line.what then line ∷ settings_of lines else []

-- what lines say one after another, told what holds before them
abbrev pub said_by : {T : Type 0} → (T → What → T) → T → List Line → T
said_by says before [] = before
said_by says before (line ∷ lines) = said_by says (says before line.what) lines

-- how many slots the pool has: as the last `slots` says, and 16 without one
abbrev pub slots_by : ℕ → What → ℕ
slots_by before (asks.Slots n) = n
slots_by before _ = before

abbrev pub slots_of : List Line → ℕ
slots_of settings = said_by slots_by 16 settings

-- how many contexts call the receiver: as the last `contexts` says, and 1 without one
abbrev pub contexts_by : ℕ → What → ℕ
contexts_by before (asks.Contexts n) = n
contexts_by before _ = before

abbrev pub contexts_of : List Line → ℕ
contexts_of settings = said_by contexts_by 1 settings

-- which context serves the source at a position: as the last `serve` of that source says, and else the contexts in turn
abbrev pub server_by : ℕ → ℕ → What → ℕ
server_by s before (asks.Serve source context) = if source == s then context else before
server_by s before _ = before

abbrev pub server_of : List Line → ℕ → ℕ
server_of settings s = said_by (server_by s) (s % contexts_of settings) settings

-- what the read ack register of the source at a position is told to hold at first: as the last `ackcell` of that source says, and 0
-- without one
abbrev pub cell_by : ℕ → ℕ → What → ℕ
cell_by s before (asks.AckCell source value) = if source == s then value else before
cell_by s before _ = before

abbrev pub cell_of : List Line → ℕ → ℕ
cell_of settings s = said_by (cell_by s) 0 settings

-- the position of a class among the routes
abbrev pub class_index : Class → ℕ
class_index classes.Processor = 0
class_index classes.Memory = 1
class_index classes.Pcie = 2
class_index classes.Platform = 3

-- how the machine answers an injection: as the last `available`, `busy` and `status` say, and the last `route` of each class
abbrev pub setup_by : Setup → What → Setup
setup_by before (asks.Available value) = record before { available = value }
setup_by before (asks.Busy n) = record before { busy = n }
setup_by before (asks.Status n) = record before { status = n }
setup_by before (asks.Route class source) = record before { routes = slice_set before.routes (class_index class) source }
setup_by before _ = before

-- without one of them, each of the 12 types is available, no read finds the machine busy, the command status is 0, and the first
-- source tells
abbrev pub default_setup : Setup
default_setup = record { available = 0xfff; busy = 0; status = 0; routes = 0 ∷ 0 ∷ 0 ∷ 0 ∷ [] }

abbrev pub setup_of : List Line → Setup
setup_of settings = said_by setup_by default_setup settings

-- the same by all lines of a script
abbrev pub setup_in : List Line → Setup
setup_in lines = setup_of (settings_of lines)
