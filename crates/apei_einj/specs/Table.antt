-- What an injection table says: its entries, or the first reason why it is refused.
use Rattle.std.specs.Prelude.{◌≡◌, ℕ, Bool, true, ◌*◌, ◌/◌, ◌&&◌, ◌||◌, ◌==◌, nat_le, if◌then◌else◌, codes, List, length, drop, Option, Some, None}
use Rattle.std.specs.List.{filter}
use Rattle.std.specs.Option.{option_or, option_map}
use Rattle.apei_base.specs.Number.{number_at}
use Rattle.apei_base.specs.Table.{sdt_refusal}
use Rattle.apei_einj.specs.Entry.{pieces_of, entries_from, is_injection}
use Rattle.apei_einj.specs.Refusal.{entry_refusal, first_refusal, missing_refusal}
use Rattle.apei_einj.specs.declared.entry.Entry.{Entry}
use Rattle.apei_einj.specs.declared.error.EinjError.{EinjError}
use Rattle.apei_einj.specs.declared.error.EinjError.TheVariants.{Table, HeaderSize, CountMismatch}

-- how many entries the table says that it has, at offset 44 (ACPI 6.5, 18.6.1)
abbrev pub stated_count : List ℕ → ℕ
stated_count bytes = number_at 44 4 bytes

-- the size of the injection header at offset 36 is 48, of both headers, or 12, of the injection header alone
-- (ACPI 6.5, 18.6.1; that 12 is let in: After Linux 6.1, drivers/acpi/apei/einj.c)
abbrev pub has_header_size : List ℕ → Bool
has_header_size bytes = (number_at 36 4 bytes == 48) || (number_at 36 4 bytes == 12)

-- why the injection header is refused: the table is shorter than 48 bytes, or states another size
abbrev pub header_refusal : List ℕ → Option EinjError
header_refusal bytes = if nat_le 48 (length bytes) && has_header_size bytes then None else Some HeaderSize

-- why the count is refused: the bytes from 48 on are not 32 for each entry that is stated; so many whole ones are found
abbrev pub count_refusal : List ℕ → Option EinjError
count_refusal bytes =
    if 32 * stated_count bytes == length (drop 48 bytes) then None
    else Some (CountMismatch (stated_count bytes) (length (drop 48 bytes) / 32))

-- the entries of the actions 0 to 8, in table order: they stand from 48 on, each in 32 bytes (ACPI 6.5, 18.6.1)
unfoldable pub einj_entries : List ℕ → List Entry
einj_entries bytes = filter is_injection (entries_from 48 (pieces_of (stated_count bytes) (drop 48 bytes)))

-- why bytes are no injection table, the first reason that holds (own choice)
unfoldable pub einj_refusal : List ℕ → Option EinjError
einj_refusal bytes =
    option_or (option_map Table (sdt_refusal (codes "EINJ") bytes))
    (option_or (header_refusal bytes)
    (option_or (count_refusal bytes)
    (option_or (first_refusal (einj_entries bytes)) (missing_refusal (einj_entries bytes)))))

-- the entry is of an action that an injection runs, and is not refused
abbrev pub IsRunnable : Entry → Type 0
IsRunnable entry = (is_injection entry ≡ true) × (entry_refusal entry ≡ None)
