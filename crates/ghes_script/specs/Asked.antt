-- What the words of a line ask for, form by form: the words from left to right (own choice).
use Rattle.std.specs.Prelude.{◌≡◌, refl, ℕ, ◌^◌, ◌==◌, ◌&&◌, ◌||◌, not, nat_le, if◌then◌else◌, Bool, true, false, List, [], ◌∷◌, length, bytes_eq, codes, Result, Ok, Err}
use Rattle.byteorder.specs.Endian.{little_number}
use Rattle.hex.specs.Hex.{decode_of}
use Rattle.apei_einj.specs.Request.{is_error_type}
use Rattle.apei_einj.specs.declared.request.Place.{Place}
use Rattle.apei_einj.specs.declared.request.Place.TheVariants as places
use Rattle.ghes_script.specs.Name.{class_of, name_of}
use Rattle.ghes_script.specs.Number.{number, number_within, number_below, or_kind, ◌>>=◌}
use Rattle.ghes_script.specs.Setup.{Setup, source_of, acked_source_of}
use Rattle.ghes_script.specs.Words.{none_of, one_of, two_of}
use Rattle.ghes_script.specs.declared.error.ScriptKind.{ScriptKind}
use Rattle.ghes_script.specs.declared.error.ScriptKind.TheVariants.{Command, Words, Hex, Range, Source, NoInjection}
use Rattle.ghes_script.specs.declared.line.What.{What}
use Rattle.ghes_script.specs.declared.line.What.TheVariants as asks
use Rattle.ghes_script.specs.declared.name.Name.{Name}
use Rattle.ghes_script.specs.declared.name.Name.TheVariants as names
use Rattle.ghes_script.specs.declared.sofar.Sofar.{Sofar}

-- `slots N`: 1 to 64
unfoldable pub slots : List (List ℕ) → Result What ScriptKind
slots args = do
  word ← one_of args
  n ← number_within 1 64 word
  Ok (asks.Slots n)

-- `contexts N`: 1 to 16
unfoldable pub contexts : List (List ℕ) → Result What ScriptKind
contexts args = do
  word ← one_of args
  n ← number_within 1 16 word
  Ok (asks.Contexts n)

-- `serve SOURCE CONTEXT`: below the contexts so far
unfoldable pub serve : Setup → ℕ → List (List ℕ) → Result What ScriptKind
serve setup count args = do
  words ← two_of args
  source ← source_of setup words.0
  context ← number_below count words.1
  Ok (asks.Serve source context)

-- `ackcell SOURCE VALUE`
unfoldable pub ackcell : Setup → List (List ℕ) → Result What ScriptKind
ackcell setup args = do
  words ← two_of args
  source ← acked_source_of setup words.0
  value ← number words.1
  Ok (asks.AckCell source value)

-- `available VALUE`: below 2^32
unfoldable pub available : List (List ℕ) → Result What ScriptKind
available args = do
  word ← one_of args
  value ← number_below (2 ^ 32) word
  Ok (asks.Available value)

-- `busy N`: 0 to 2,000
unfoldable pub busy : List (List ℕ) → Result What ScriptKind
busy args = do
  word ← one_of args
  n ← number_within 0 2000 word
  Ok (asks.Busy n)

-- `status N`: 0 to 255
unfoldable pub status : List (List ℕ) → Result What ScriptKind
status args = do
  word ← one_of args
  n ← number_within 0 255 word
  Ok (asks.Status n)

-- `route CLASS SOURCE`: an unknown class is out of range
unfoldable pub route : Setup → List (List ℕ) → Result What ScriptKind
route setup args = do
  words ← two_of args
  class ← or_kind Range (class_of words.0)
  source ← source_of setup words.1
  Ok (asks.Route class source)

-- `clock N`
unfoldable pub clock : List (List ℕ) → Result What ScriptKind
clock args = do
  word ← one_of args
  time ← number word
  Ok (asks.Clock time)

-- bytes that a decoder gave
abbrev pub or_hex : {A E : Type 0} → Result A E → Result A ScriptKind
or_hex (Ok bytes) = Ok bytes
or_hex (Err e) = Err Hex

-- A block that a script may raise has 20 to 65,536 bytes, and its block status, the first four of them, is not 0
-- (ACPI 6.5, 18.3.2.7.1; the sizes: own choice).
abbrev pub is_block : List ℕ → Bool
is_block block = nat_le 20 (length block) && (nat_le (length block) 65536 && not (little_number 4 block == 0))

-- the block that a word spells
unfoldable pub block_of : List ℕ → Result (List ℕ) ScriptKind
block_of word = do
  block ← or_hex (decode_of word)
  if is_block block then Ok block else Err Range

-- the source and the word of the block of a line `raise`
unfoldable pub raised : Setup → List (List ℕ) → Result (ℕ × List ℕ) ScriptKind
raised setup args = do
  words ← two_of args
  source ← source_of setup words.0
  Ok (source, words.1)

-- `raise SOURCE HEX`
unfoldable pub raise : Setup → List (List ℕ) → Result What ScriptKind
raise setup args = do
  found ← raised setup args
  block ← block_of found.1
  Ok (asks.Raise found.0 block)

-- `nmi SOURCE`
unfoldable pub nmi : Setup → List (List ℕ) → Result What ScriptKind
nmi setup args = do
  word ← one_of args
  source ← source_of setup word
  Ok (asks.Nmi source)

-- `work`
unfoldable pub work : List (List ℕ) → Result What ScriptKind
work args = do
  nothing ← none_of args
  Ok asks.Work

-- `run N`: 1 to 1,000
unfoldable pub run : List (List ℕ) → Result What ScriptKind
run args = do
  word ← one_of args
  n ← number_within 1 1000 word
  Ok (asks.Run n)

-- `peek SOURCE`
unfoldable pub peek : Setup → List (List ℕ) → Result What ScriptKind
peek setup args = do
  word ← one_of args
  source ← acked_source_of setup word
  Ok (asks.Peek source)

-- `fail SOURCE N`: 1 to 16
unfoldable pub fail : Setup → List (List ℕ) → Result What ScriptKind
fail setup args = do
  words ← two_of args
  source ← source_of setup words.0
  n ← number_within 1 16 words.1
  Ok (asks.Fail source n)

-- the words of a place are of a form that there is: `memory ADDRESS MASK`, `processor ID` or `pcie WORD`, or none
unfoldable pub place_form : List (List ℕ) → Result Unit ScriptKind
place_form [] = Ok tt
place_form (name ∷ args) =
    if bytes_eq name (codes "memory") then (two_of args >>= λ words. Ok tt)
    else if bytes_eq name (codes "processor") || bytes_eq name (codes "pcie") then (one_of args >>= λ word. Ok tt)
    else Err Words

-- `memory ADDRESS MASK`
unfoldable pub memory_place : List (List ℕ) → Result Place ScriptKind
memory_place args = do
  words ← two_of args
  address ← number words.0
  mask ← number words.1
  Ok (places.Memory address mask)

-- `processor ID`: below 2^32
unfoldable pub processor_place : List (List ℕ) → Result Place ScriptKind
processor_place args = do
  word ← one_of args
  id ← number_below (2 ^ 32) word
  Ok (places.Processor id)

-- `pcie WORD`: below 2^32
unfoldable pub pcie_place : List (List ℕ) → Result Place ScriptKind
pcie_place args = do
  word ← one_of args
  function ← number_below (2 ^ 32) word
  Ok (places.Pcie function)

-- the place that the words name
unfoldable pub place_of : List (List ℕ) → Result Place ScriptKind
place_of [] = Ok places.Nowhere
place_of (name ∷ args) =
    if bytes_eq name (codes "memory") then memory_place args
    else if bytes_eq name (codes "processor") then processor_place args
    else if bytes_eq name (codes "pcie") then pcie_place args
    else Err Words

-- there is an injection table
abbrev pub table_form : Setup → Result Unit ScriptKind
table_form setup = if setup.injection then Ok tt else Err NoInjection

-- the error type that a word names: one of the bits 0 to 11; where no source is enabled, none can be injected
unfoldable pub error_of : Setup → List ℕ → Result ℕ ScriptKind
error_of setup word = do
  error ← number word
  if length setup.names == 0 then Err Source else if is_error_type error then Ok error else Err Range

-- an injection of this error at this place, by whether it is an error type
abbrev pub injection_by : (error : ℕ) → Place → (test : Bool) → is_error_type error ≡ test → Result What ScriptKind
injection_by error place true is = Ok (asks.Inject (record { error = error; place = place; error_is = is }))
injection_by error place false is = Err Range

-- an injection of this error at this place
unfoldable pub injection : ℕ → Place → Result What ScriptKind
injection error place = injection_by error place (is_error_type error) refl

-- `inject TYPE` and the place
unfoldable pub inject : Setup → List (List ℕ) → Result What ScriptKind
inject setup [] = Err Words
inject setup (word ∷ rest) = do
  form ← place_form rest
  table ← table_form setup
  error ← error_of setup word
  place ← place_of rest
  injection error place

-- what a line asks for whose first word has this name
unfoldable pub asked_by : Setup → Sofar → Name → List (List ℕ) → Result What ScriptKind
asked_by setup sofar names.Slots args = slots args
asked_by setup sofar names.Contexts args = contexts args
asked_by setup sofar names.Serve args = serve setup sofar.contexts args
asked_by setup sofar names.AckCell args = ackcell setup args
asked_by setup sofar names.Available args = available args
asked_by setup sofar names.Busy args = busy args
asked_by setup sofar names.Status args = status args
asked_by setup sofar names.Route args = route setup args
asked_by setup sofar names.Clock args = clock args
asked_by setup sofar names.Raise args = raise setup args
asked_by setup sofar names.Inject args = inject setup args
asked_by setup sofar names.Nmi args = nmi setup args
asked_by setup sofar names.Work args = work args
asked_by setup sofar names.Run args = run args
asked_by setup sofar names.Peek args = peek setup args
asked_by setup sofar names.Fail args = fail setup args

-- what the words of a line ask for, the first of them apart
unfoldable pub asked : Setup → Sofar → List ℕ → List (List ℕ) → Result What ScriptKind
asked setup sofar name args = or_kind Command (name_of name) >>= λ named. asked_by setup sofar named args
