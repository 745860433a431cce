-- What a write leaves in the cells.
use Rattle.std.specs.Prelude.{◌≡◌, ℕ, ◌-◌, ◌/◌, if◌then◌else◌, List, length, slice_index, Option}
use Rattle.std.specs.Option.{option_map}
use Rattle.byteorder.specs.Endian.{little_bytes}
use Rattle.apei_base.specs.Bus.{Cells, Reach, same_space}
use Rattle.apei_base.specs.declared.region.Space.{Space}
use Rattle.fw_cells.specs.Mapping.{is_in_run}

-- one space after bytes were written from an address on: a cell that is not mapped drops its byte (own choice)
abbrev pub with_bytes : (ℕ → Option ℕ) → ℕ → List ℕ → ℕ → Option ℕ
with_bytes cells first bytes address =
    if is_in_run first (length bytes) address then option_map (λ old. slice_index bytes (address - first)) (cells address)
    else cells address

-- the cells after bytes were written in a space from an address on (own choice)
abbrev pub with_bytes_at : Cells → Space → ℕ → List ℕ → Cells
with_bytes_at cells of first bytes space address =
    if same_space of space then with_bytes (cells space) first bytes address else cells space address

-- the cells after a value was written to a region, the lowest byte first (ACPI 6.5, 5.2)
abbrev pub with_value : Cells → Reach → ℕ → Cells
with_value cells reach value = with_bytes_at cells reach.space reach.address (little_bytes (reach.width / 8) value)

-- each cell of the one holds what it holds in the other, or is mapped in neither (own choice)
abbrev pub AreSame : Cells → Cells → Type 0
AreSame one other = (space : Space) (address : ℕ) → one space address ≡ other space address
