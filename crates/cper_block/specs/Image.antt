-- The image of a block: what its receiver takes of it under a limit.
use Rattle.std.specs.Prelude.{ℕ, ◌-◌, Bool, List, ◌++◌, length, take, replicate, Option, Some, None}
use Rattle.cper_block.specs.declared.malformed.Malformed.{Malformed}
use Rattle.cper_block.specs.Header.{header_of, header_size, block_length, header_reason}
use Rattle.cper_block.specs.Reason.{reason_of}
use Rattle.cper_block.specs.Severity.{severity_of, is_fatal_severity}

-- so many bytes from the front of a block, as it lies in memory with zeros behind it (own choice)
abbrev pub padded : ℕ → List ℕ → List ℕ
padded n block = take n block ++ replicate (n - length block) 0

-- The image of a block: its header alone where that is refused, and else as many bytes as the header says
-- (after Linux 6.1, drivers/acpi/apei/ghes.c; own choice: zeros behind the block).
abbrev pub image_by : Option Malformed → List ℕ → List ℕ
image_by (Some reason) block = padded header_size block
image_by None block = padded (block_length (header_of (padded header_size block))) block

abbrev pub image_of : ℕ → List ℕ → List ℕ
image_of limit block = image_by (header_reason (header_of (padded header_size block)) limit) block

-- why an image is malformed, if it is: the reason of the header's check, and else that of the image as a block
abbrev pub image_reason_by : Option Malformed → ℕ → List ℕ → Option Malformed
image_reason_by (Some reason) limit image = Some reason
image_reason_by None limit image = reason_of image limit

abbrev pub image_reason : ℕ → List ℕ → Option Malformed
image_reason limit block =
    image_reason_by (header_reason (header_of (padded header_size block)) limit) limit (image_of limit block)

-- a block is fatal by the severity of its header (ACPI 6.5, 18.3.2.7.1)
abbrev pub is_fatal : List ℕ → Bool
is_fatal block = is_fatal_severity (severity_of (header_of block).severity)
