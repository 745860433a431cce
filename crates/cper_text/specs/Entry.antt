-- The lines of the data entries of a block (own choice).
use Rattle.std.specs.Prelude.{ℕ, suc, List, [], ◌∷◌, ◌++◌, codes, Option, Some, None}
use Rattle.std.specs.Fmt.{decimal}
use Rattle.uuid.specs.Text.{hyphenated_text, lower}
use Rattle.cper_block.specs.declared.severity.Severity.{Severity}
use Rattle.cper_block.specs.Entry.{Fields}
use Rattle.cper_block.specs.Severity.{severity_of, severity_text}
use Rattle.cper_sections.specs.Section.{Reading, reading_of}
use Rattle.cper_text.specs.Bytes.{bytes_line, text_line}
use Rattle.cper_text.specs.Section.{section_lines, type_text}

-- the line of an entry: its number, the words for the type of its section, and its own severity (own choice)
unfoldable pub entry_line : ℕ → List ℕ → Severity → List ℕ
entry_line number type severity =
    codes "  entry " ++ decimal number ++ codes " " ++ type ++ codes " severity " ++ severity_text severity
    ++ codes "\n"

-- the line of a FRU's id (own choice)
unfoldable pub fru_id_line : Option (List ℕ) → List ℕ
fru_id_line None = []
fru_id_line (Some id) = codes "    fru id " ++ hyphenated_text lower id ++ codes "\n"

-- the line of a FRU's text, between quotation marks (own choice)
unfoldable pub fru_text_line : Option (List ℕ) → List ℕ
fru_text_line None = []
fru_text_line (Some text) = text_line (codes "    fru text ") text

-- the line of a timestamp (own choice)
unfoldable pub timestamp_line : Option (List ℕ) → List ℕ
timestamp_line None = []
timestamp_line (Some bytes) = bytes_line (codes "    timestamp ") bytes

-- which section an entry has, by its GUID (UEFI 2.10, appendix N.2.2)
abbrev pub reading : Fields → Reading
reading entry = reading_of entry.guid entry.section

-- the lines of an entry's section: its fields where it is a whole one of a kind, and else its bytes (own choice)
abbrev pub section_text : Fields → List ℕ
section_text entry = section_lines (reading entry)

-- the lines of an entry with its number (own choice)
unfoldable pub entry_text : ℕ → Fields → List ℕ
entry_text number entry =
    entry_line number (type_text entry.guid (reading entry)) (severity_of entry.severity) ++ fru_id_line entry.fru_id
    ++ fru_text_line entry.fru_text ++ timestamp_line entry.timestamp ++ section_text entry

-- the lines of entries that are numbered from a first number on (own choice)
abbrev pub entries_text : ℕ → List Fields → List ℕ
entries_text first [] = []
entries_text first (entry ∷ others) = entry_text first entry ++ entries_text (suc first) others
