-- What each step of a call answers and leaves.
use Rattle.std.specs.Prelude.{◌≡◌, ℕ, ◌+◌, ◌==◌, Bool, true, false, if◌then◌else◌, List, Option, Some, None, option_map}
use Rattle.apei_base.specs.Firmware.{Seen, standing}
use Rattle.cper_block.specs.Header.{header_size, header_of}
use Rattle.cper_block.specs.Image.{padded, is_fatal}
use Rattle.cper_block.specs.Reason.{reason_of}
use Rattle.cper_block.specs.declared.header.Header.{Header}
use Rattle.cper_block.specs.declared.malformed.Malformed.{Malformed as Reason}
use Rattle.ghes_call.specs.Call.{Failure, Nowhere, BehindCleared}
use Rattle.ghes_call.specs.declared.call.AckState.{AckState}
use Rattle.ghes_call.specs.declared.call.AckState.TheVariants.{NotAsked, Done, Failed}
use Rattle.ghes_nmi.specs.declared.examining.Examined.{Examined}
use Rattle.ghes_nmi.specs.declared.examining.Examined.TheVariants.{Malformed, Fatal, News}

-- the place that a status address register tells: none where it says 0 (own choice)
abbrev pub place_of : ℕ → Option ℕ
place_of value = if value == 0 then None else Some value

-- a block may stand only at the source's area, and stands nowhere where no place is told
abbrev pub IsPlace : Seen → Option ℕ → Type 0
IsPlace port None = standing port ≡ None
IsPlace port (Some address) = address ≡ port.layout.area

-- the header of the block that stands, if one does
abbrev pub standing_header : Seen → Option (List ℕ)
standing_header port = option_map (padded header_size) (standing port)

-- these bytes are the header that stands, and this is what it says; or no block stands
abbrev pub IsHeaderOf : Option (List ℕ) → List ℕ → Option Header → Type 0
IsHeaderOf stands bytes None = stands ≡ None
IsHeaderOf stands bytes (Some header) = (Some bytes ≡ stands) × (header ≡ header_of bytes)

-- how many accesses copy what is behind the header of an image of so many bytes: none where nothing is
abbrev pub accesses_behind : ℕ → ℕ
accesses_behind count = if count == 20 then 0 else 1

-- what an image says, by its reason and whether it is fatal
abbrev pub says : Option Reason → Bool → Examined
says (Some reason) fatal = Malformed reason
says None true = Fatal
says None false = News

abbrev pub examined : List ℕ → ℕ → Examined
examined image limit = says (reason_of image limit) (is_fatal image)

-- where an access failed, by what became of an acknowledgement
abbrev pub failure_of : AckState → Failure
failure_of NotAsked = Nowhere
failure_of Done = Nowhere
failure_of Failed = BehindCleared

-- the count of failed accesses rose exactly where the acknowledgement failed, and then by one
abbrev pub CountsAck : AckState → ℕ → ℕ → Type 0
CountsAck NotAsked before after = after ≡ before
CountsAck Done before after = after ≡ before
CountsAck Failed before after = after ≡ before + 1
