-- The fields of error source structures, each at its offset (ACPI 6.5, 18.3.2).
use Rattle.std.specs.Prelude.{ℕ, not, ◌+◌, ◌==◌, min, if◌then◌else◌, List, [], ◌∷◌, length, drop, slice_index, Option, Some, None}
use Rattle.apei_base.specs.Number.{number_at}
use Rattle.apei_base.specs.Region.{gas_at}
use Rattle.apei_hest.specs.Structure.{type_of}
use Rattle.apei_hest.specs.declared.source.Ack2.{Ack2}
use Rattle.apei_hest.specs.declared.source.Ghes.{Ghes}
use Rattle.apei_hest.specs.declared.source.Notify.{Notify}
use Rattle.apei_hest.specs.declared.source.Source.{Source}
use Rattle.apei_hest.specs.declared.source.Source.TheVariants as sources

-- the notification structure, 28 bytes (ACPI 6.5, 18.3.2.9)
abbrev pub notify_of : List ℕ → Notify
notify_of bytes = record {
  kind = slice_index bytes 0;
  length = slice_index bytes 1;
  write_enable = number_at 2 2 bytes;
  poll = number_at 4 4 bytes;
  vector = number_at 8 4 bytes;
  poll_threshold = number_at 12 4 bytes;
  poll_window = number_at 16 4 bytes;
  error_threshold = number_at 20 4 bytes;
  error_window = number_at 24 4 bytes;
}

-- how a generic source of version 2 is acknowledged: its last 28 bytes (ACPI 6.5, 18.3.2.8)
abbrev pub ack_of : List ℕ → Ack2
ack_of bytes = record {
  register = gas_at 64 bytes;
  preserve = number_at 76 8 bytes;
  write = number_at 84 8 bytes;
}

-- the generic source that begins the bytes, and stands at this offset in its table; the way of its acknowledgement is
-- given (ACPI 6.5, 18.3.2.7; that any enable byte but 0 enables it: After Linux 6.1, drivers/acpi/apei/ghes.c)
unfoldable pub ghes_of : List ℕ → ℕ → Option Ack2 → Ghes
ghes_of bytes at ack = record {
  id = number_at 2 2 bytes;
  at = at;
  related = number_at 4 2 bytes;
  flags = slice_index bytes 6;
  enabled = not (slice_index bytes 7 == 0);
  records = number_at 8 4 bytes;
  sections = number_at 12 4 bytes;
  raw = number_at 16 4 bytes;
  status = gas_at 20 bytes;
  notify = notify_of (drop 32 bytes);
  block_length = number_at 60 4 bytes;
  ack = ack;
}

-- the source of a structure that stands at this offset in its table: only types 9 and 10 are read
-- (ACPI 6.5, 18.3.2; which types are read: own choice)
unfoldable pub source_of : List ℕ → ℕ → Source
source_of bytes at =
    if type_of bytes == 9 then sources.Ghes (ghes_of bytes at None)
    else if type_of bytes == 10 then sources.Ghes (ghes_of bytes at (Some (ack_of bytes)))
    else sources.Skipped (type_of bytes) (number_at 2 2 bytes) at (length bytes)

-- the sources of structures that stand one behind another, the first at this offset of its table (ACPI 6.5, 18.3.2)
abbrev pub sources_from : ℕ → List (List ℕ) → List Source
sources_from at [] = []
sources_from at (structure ∷ structures) = source_of structure at ∷ sources_from (at + length structure) structures

-- the receiver's limit of a source, in bytes: the length of its blocks, and at most 65,536 (own choice)
abbrev pub limit_of : Ghes → ℕ
limit_of ghes = min ghes.block_length 65536
