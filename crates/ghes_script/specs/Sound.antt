-- What the lines of a script may ask for (own choice).
use Rattle.std.specs.Prelude.{◌≡◌, ◌≢◌, ◌<◌, ◌≤◌, ◌^◌, ℕ, Bool, true, false, List, [], ◌∷◌, length, slice_get, Some, MatchBool}
use Rattle.std.specs.List.{AllByRecursion}
use Rattle.byteorder.specs.Endian.{little_number}
use Rattle.apei_einj.specs.declared.request.Place.{Place}
use Rattle.apei_einj.specs.declared.request.Place.TheVariants.{Nowhere, Memory, Processor, Pcie}
use Rattle.ghes_script.specs.Setup.{Setup}
use Rattle.ghes_script.specs.Sofar.{is_in_order, after}
use Rattle.ghes_script.specs.declared.line.Line.{Line}
use Rattle.ghes_script.specs.declared.line.What.{What}
use Rattle.ghes_script.specs.declared.line.What.TheVariants.{Slots, Contexts, Serve, AckCell, Available, Busy, Status, Route, Clock, Raise, Inject, Nmi, Work, Run, Peek, Fail}
use Rattle.ghes_script.specs.declared.setup.SourceName.{SourceName}
use Rattle.ghes_script.specs.declared.sofar.Sofar.{Sofar}

-- a position is that of a source
abbrev pub IsSource : Setup → ℕ → Type 0
IsSource setup at = at < length setup.names

-- a position is that of a source that has a read ack register
pub record IsAcked (setup : Setup) (at : ℕ) : Type 0 where
  pub name : SourceName
  pub there : slice_get setup.names at ≡ Some name
  pub v2 : name.v2 ≡ true

-- a block that a line raises has from 20 to 65,536 bytes and a block status (ACPI 6.5, 18.3.2.7.1; the sizes: own choice)
pub record IsRaised (block : List ℕ) : Type 0 where
  pub least : 20 ≤ length block
  pub most : length block ≤ 65536
  pub status : little_number 4 block ≢ 0

-- the numbers of a place fit into their fields
abbrev pub FitsPlace : Place → Type 0
FitsPlace Nowhere = Unit {0}
FitsPlace (Memory address mask) = (address < 2 ^ 64) × (mask < 2 ^ 64)
FitsPlace (Processor id) = id < 2 ^ 32
FitsPlace (Pcie word) = word < 2 ^ 32

-- what a line may ask for, behind others: its sources are known, and its numbers lie in their ranges
abbrev pub IsAllowed : Setup → Sofar → What → Type 0
IsAllowed setup sofar (Slots n) = (1 ≤ n) × (n ≤ 64)
IsAllowed setup sofar (Contexts n) = (1 ≤ n) × (n ≤ 16)
IsAllowed setup sofar (Serve source context) = IsSource setup source × (context < sofar.contexts)
IsAllowed setup sofar (AckCell source value) = IsAcked setup source × (value < 2 ^ 64)
IsAllowed setup sofar (Available value) = value < 2 ^ 32
IsAllowed setup sofar (Busy n) = n ≤ 2000
IsAllowed setup sofar (Status n) = n ≤ 255
IsAllowed setup sofar (Route class source) = IsSource setup source
IsAllowed setup sofar (Clock time) = time < 2 ^ 64
IsAllowed setup sofar (Raise source block) = IsSource setup source × IsRaised block
IsAllowed setup sofar (Inject request) = (setup.injection ≡ true) × (0 < length setup.names) × FitsPlace request.place
IsAllowed setup sofar (Nmi source) = IsSource setup source
IsAllowed setup sofar Work = Unit {0}
IsAllowed setup sofar (Run n) = (1 ≤ n) × (n ≤ 1000)
IsAllowed setup sofar (Peek source) = IsAcked setup source
IsAllowed setup sofar (Fail source n) = IsSource setup source × ((1 ≤ n) × (n ≤ 16))

-- each line may ask for what it asks for, and comes in order, behind those before it
abbrev pub AreAllowed : Setup → Sofar → List Line → Type 0
AreAllowed setup sofar [] = Unit {0}
AreAllowed setup sofar (line ∷ lines) =
    IsAllowed setup sofar line.what × (is_in_order sofar line.what ≡ true) × AreAllowed setup (after sofar line.what) lines

-- a line is a setting
abbrev pub is_setting : What → Bool
is_setting (Slots n) = true
is_setting (Contexts n) = true
is_setting (Serve source context) = true
is_setting (AckCell source value) = true
is_setting (Available value) = true
is_setting (Busy n) = true
is_setting (Status n) = true
is_setting (Route class source) = true
is_setting (Clock time) = false
is_setting (Raise source block) = false
is_setting (Inject request) = false
is_setting (Nmi source) = false
is_setting Work = false
is_setting (Run n) = false
is_setting (Peek source) = false
is_setting (Fail source n) = false

-- behind a command, each line is a command
abbrev pub AreSettingsFirst : List Line → Type 0
AreSettingsFirst [] = Unit {0}
AreSettingsFirst (line ∷ lines) =
    MatchBool (is_setting line.what) (AreSettingsFirst lines) (AllByRecursion (λ other. is_setting other.what ≡ false) lines)

-- the time behind a line
abbrev pub time_after : ℕ → What → ℕ
time_after time (Clock next) = next
time_after time (Slots n) = time
time_after time (Contexts n) = time
time_after time (Serve source context) = time
time_after time (AckCell source value) = time
time_after time (Available value) = time
time_after time (Busy n) = time
time_after time (Status n) = time
time_after time (Route class source) = time
time_after time (Raise source block) = time
time_after time (Inject request) = time
time_after time (Nmi source) = time
time_after time Work = time
time_after time (Run n) = time
time_after time (Peek source) = time
time_after time (Fail source n) = time

-- the time does not fall along the lines
abbrev pub DoesNotFall : ℕ → List Line → Type 0
DoesNotFall time [] = Unit {0}
DoesNotFall time (line ∷ lines) = (time ≤ time_after time line.what) × DoesNotFall (time_after time line.what) lines
