-- The texts of a block that is reported, and of one that is dropped (own choice).
use Rattle.std.specs.Prelude.{ℕ, List, ◌++◌, codes}
use Rattle.std.specs.Fmt.{decimal}
use Rattle.cper_block.specs.declared.malformed.Malformed.{Malformed}
use Rattle.cper_block.specs.Text.{malformed_text}
use Rattle.cper_text.specs.Bytes.{bytes_line}
use Rattle.cper_text.specs.Body.{block_text}

-- the line of a reported block: its source's id and its number (own choice)
unfoldable pub report_line : ℕ → ℕ → List ℕ
report_line id seq = codes "report source " ++ decimal id ++ codes " block " ++ decimal seq ++ codes "\n"

-- the text of a reported block (own choice)
unfoldable pub report_text : ℕ → ℕ → List ℕ → List ℕ
report_text id seq block = report_line id seq ++ block_text block

-- the line of a dropped block: its source's id, its number, and why (own choice)
unfoldable pub drop_line : ℕ → ℕ → Malformed → List ℕ
drop_line id seq reason =
    codes "dropped source " ++ decimal id ++ codes " block " ++ decimal seq ++ codes ": " ++ malformed_text reason ++ codes "\n"

-- the text of a dropped block, with its bytes (own choice)
unfoldable pub drop_text : ℕ → ℕ → Malformed → List ℕ → List ℕ
drop_text id seq reason bytes = drop_line id seq reason ++ bytes_line (codes "  data ") bytes

-- the line of the reason why a block is malformed (own choice)
unfoldable pub reason_line : Malformed → List ℕ
reason_line reason = codes "  malformed " ++ malformed_text reason ++ codes "\n"

-- the lines of a malformed block: why it is, and its bytes (own choice)
unfoldable pub malformed_lines : Malformed → List ℕ → List ℕ
malformed_lines reason bytes = reason_line reason ++ bytes_line (codes "  data ") bytes
