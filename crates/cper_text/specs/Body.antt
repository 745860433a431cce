-- The lines of a block (own choice).
use Rattle.std.specs.Prelude.{ℕ, ◌==◌, if◌then◌else◌, List, [], ◌++◌, codes}
use Rattle.std.specs.Fmt.{decimal}
use Rattle.cper_block.specs.declared.severity.Severity.{Severity}
use Rattle.cper_block.specs.Block.{data_of}
use Rattle.cper_block.specs.Cut.{entries_of}
use Rattle.cper_block.specs.Header.{header_of}
use Rattle.cper_block.specs.Severity.{severity_of, severity_text}
use Rattle.cper_text.specs.Entry.{entries_text}

-- the line of a block's severity (own choice)
unfoldable pub severity_line : Severity → List ℕ
severity_line severity = codes "  severity " ++ severity_text severity ++ codes "\n"

-- the line of so many raw bytes, where there are some (own choice)
unfoldable pub raw_line : ℕ → List ℕ
raw_line count = if count == 0 then [] else codes "  raw " ++ decimal count ++ codes " bytes\n"

-- the lines of a block: its severity, its entries from number 0 on, and its raw bytes (own choice)
unfoldable pub block_text : List ℕ → List ℕ
block_text block =
    severity_line (severity_of (header_of block).severity) ++ entries_text 0 (entries_of (data_of block))
    ++ raw_line (header_of block).raw_length
