-- The words of a line (own choice).
use Rattle.std.specs.Prelude.{◌≡◌, ℕ, ◌==◌, nat_lt, if◌then◌else◌, List, [], ◌∷◌, length, filter, Result, Ok, Err}
use Rattle.ghes_script.specs.declared.error.ScriptKind.{ScriptKind}
use Rattle.ghes_script.specs.declared.error.ScriptKind.TheVariants.{Words}

-- pieces with this byte put in front of the first of them
abbrev pub with_byte : ℕ → List (List ℕ) → List (List ℕ)
with_byte byte [] = (byte ∷ []) ∷ []
with_byte byte (piece ∷ pieces) = (byte ∷ piece) ∷ pieces

-- what stands between the spaces of a text, before the first of them and behind the last
abbrev pub pieces_of : List ℕ → List (List ℕ)
pieces_of [] = [] ∷ []
pieces_of (byte ∷ bytes) = if byte == 32 then [] ∷ pieces_of bytes else with_byte byte (pieces_of bytes)

-- the words of a text: what stands between its spaces and is not empty
unfoldable pub words_of : List ℕ → List (List ℕ)
words_of text = filter (λ piece. nat_lt 0 (length piece)) (pieces_of text)

-- there are no words
abbrev pub none_of : List (List ℕ) → Result Unit ScriptKind
none_of [] = Ok tt
none_of (first ∷ rest) = Err Words

-- the one word
abbrev pub one_of : List (List ℕ) → Result (List ℕ) ScriptKind
one_of [] = Err Words
one_of (first ∷ []) = Ok first
one_of (first ∷ second ∷ rest) = Err Words

-- the two words
abbrev pub two_of : List (List ℕ) → Result (List ℕ × List ℕ) ScriptKind
two_of [] = Err Words
two_of (first ∷ []) = Err Words
two_of (first ∷ second ∷ []) = Ok (first, second)
two_of (first ∷ second ∷ third ∷ rest) = Err Words

-- A result, seen by a view, is what the words say.
abbrev pub Gives : {A B : Type 0} → (A → B) → Result A ScriptKind → Result B ScriptKind → Type 0
Gives view (Ok x) said = said ≡ Ok (view x)
Gives view (Err kind) said = said ≡ Err kind
