-- What one line answers (own choice).
use Rattle.std.specs.Prelude.{◌≡◌, ℕ, ◌==◌, ◌&&◌, nat_lt, nat_le, if◌then◌else◌, Bool, false, List, [], ◌∷◌, length, Result, Ok, Err}
use Rattle.std.specs.List.{list_all}
use Rattle.ghes_script.specs.Asked.{asked}
use Rattle.ghes_script.specs.Cut.{IsCutAt}
use Rattle.ghes_script.specs.Setup.{Setup}
use Rattle.ghes_script.specs.Sofar.{is_in_order}
use Rattle.ghes_script.specs.Words.{words_of}
use Rattle.ghes_script.specs.declared.answer.Answer.{Answer}
use Rattle.ghes_script.specs.declared.answer.Answer.TheVariants.{Skipped, Asks, Bad}
use Rattle.ghes_script.specs.declared.error.ScriptKind.{ScriptKind}
use Rattle.ghes_script.specs.declared.error.ScriptKind.TheVariants.{Order, Unprintable, TooLong}
use Rattle.ghes_script.specs.declared.line.What.{What}
use Rattle.ghes_script.specs.declared.sofar.Sofar.{Sofar}

-- a byte that may stand in a line: space to tilde
abbrev pub is_printable : ℕ → Bool
is_printable byte = nat_le 0x20 byte && nat_le byte 0x7e

-- a word begins a comment: its first byte is `#`
abbrev pub is_comment : List ℕ → Bool
is_comment [] = false
is_comment (byte ∷ bytes) = byte == 0x23

-- what a line asks for, if it comes in order
abbrev pub in_order : Sofar → Result What ScriptKind → Answer
in_order sofar (Ok what) = if is_in_order sofar what then Asks what else Bad Order
in_order sofar (Err kind) = Bad kind

-- what the words of a line answer: it is skipped where there are none, and where the first begins a comment
abbrev pub words_answer : Setup → Sofar → List (List ℕ) → Answer
words_answer setup sofar [] = Skipped
words_answer setup sofar (name ∷ args) = if is_comment name then Skipped else in_order sofar (asked setup sofar name args)

-- What the text of a line answers: its length and its bytes come first, then its words, and its order last.
unfoldable pub answer_of : Setup → Sofar → List ℕ → Answer
answer_of setup sofar text =
    if nat_lt 132000 (length text) then Bad TooLong
    else if list_all is_printable text then words_answer setup sofar (words_of text)
    else Bad Unprintable

-- The first line of these bytes answers this behind the lines so far, and these bytes stand behind it.
pub record IsFirstAnswer (setup : Setup) (sofar : Sofar) (bytes : List ℕ) (answer : Answer) (rest : List ℕ) : Type 0 where
  pub text : List ℕ
  pub cut : IsCutAt 10 bytes text rest
  pub is : answer ≡ answer_of setup sofar text
