-- What the steps that look find of a block, and the outcome that it calls for.
use Rattle.std.specs.Prelude.{◌≡◌, ℕ, Bool, true, false, List, [], Option, Some, None, unwrap_or, is_some, IsTrue}
use Rattle.apei_base.specs.Firmware.{Seen, standing}
use Rattle.cper_block.specs.Image.{image_of, image_reason, is_fatal}
use Rattle.cper_block.specs.declared.malformed.Malformed.{Malformed as Reason}
use Rattle.ghes_call.specs.Call.{outcome_of_news}
use Rattle.ghes_call.specs.declared.call.Outcome.{Outcome}
use Rattle.ghes_call.specs.declared.call.Outcome.TheVariants as answers
use Rattle.ghes_nmi.specs.Steps.{says}
use Rattle.ghes_nmi.specs.declared.examining.Examined.{Examined}
use Rattle.ghes_nmi.specs.declared.examining.Examined.TheVariants.{Malformed, Fatal, News}
use Rattle.ghes_desk.specs.declared.finding.Found.{Found}

-- the image of the block that stands under a limit; that of no bytes where none stands
abbrev pub standing_image : ℕ → Seen → List ℕ
standing_image limit port = image_of limit (unwrap_or (standing port) [])

-- what the image of the block that stands says
abbrev pub standing_says : ℕ → Seen → Examined
standing_says limit port =
    says (image_reason limit (unwrap_or (standing port) [])) (is_fatal (standing_image limit port))

-- a block stands at this address, and these bytes are its image, which says this
pub record IsFound (limit : ℕ) (port : Seen) (bytes : List ℕ) (found : Found) : Type 0 where
  pub stands : IsTrue (is_some (standing port))
  pub address : found.address ≡ port.layout.area
  pub image : bytes ≡ standing_image limit port
  pub said : found.said ≡ standing_says limit port

-- nothing stands, or a block was found
abbrev pub Finds : ℕ → Seen → List ℕ → Option Found → Type 0
Finds limit port image None = standing port ≡ None
Finds limit port image (Some found) = IsFound limit port image found

-- the outcome that an image calls for, by what it says, the report that it hits, and whether each slot was seen taken
abbrev pub outcome_said : ℕ → Examined → Option ℕ → Bool → Outcome
outcome_said number (Malformed reason) hit true = answers.NoSlot
outcome_said number (Malformed reason) hit false = answers.Malformed number reason
outcome_said number Fatal hit full = answers.Fatal number
outcome_said number News hit full = outcome_of_news number hit full

-- why an image is malformed, by what it says
abbrev pub reason_said : Examined → Option Reason
reason_said (Malformed reason) = Some reason
reason_said Fatal = None
reason_said News = None
