-- The text of a block alone.
use Rattle.std.specs.Prelude.{◌≡◌, ℕ, List, ◌++◌, codes, Option, Some, None}
use Rattle.std.specs.Fmt.{decimal}
use Rattle.cper_block.specs.Block.{largest_block, Judges}
use Rattle.cper_block.specs.Header.{header_of, block_length}
use Rattle.cper_block.specs.Text.{malformed_text}
use Rattle.cper_block.specs.declared.malformed.Malformed.{Malformed}
use Rattle.cper_text.specs.Body.{block_text}

-- the line of a block of so many bytes (own choice)
unfoldable pub block_line : ℕ → List ℕ
block_line count = codes "block of " ++ decimal count ++ codes " bytes\n"

-- the line of bytes that are no block, by the reason (own choice)
unfoldable pub malformed_line : Malformed → List ℕ
malformed_line reason = codes "malformed " ++ malformed_text reason ++ codes "\n"

-- the text of the block that the bytes begin with, by how long it is, or why they begin with none (own choice)
abbrev pub decode_text : List ℕ → Option Malformed → List ℕ
decode_text bytes None = block_line (block_length (header_of bytes)) ++ block_text bytes
decode_text bytes (Some reason) = malformed_line reason

-- the text is that of the block in these bytes, as they are judged (own choice)
abbrev pub Decodes : List ℕ → List ℕ → Type 0
Decodes bytes text = (answer : Option Malformed) × Judges bytes largest_block answer × (text ≡ decode_text bytes answer)
