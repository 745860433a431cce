-- Generic addresses (ACPI 6.5, 5.2.3.2), and the regions that they name.
use Rattle.std.specs.Prelude.{ℕ, ◌+◌, ◌/◌, ◌%◌, ◌^◌, max, Bool, ◌&&◌, ◌==◌, nat_lt, nat_le, if◌then◌else◌, List, [], ◌∷◌, take, drop, slice_index, Option}
use Rattle.byteorder.specs.Endian.{little_number}
use Rattle.apei_base.specs.Refusal.{first_of}
use Rattle.apei_base.specs.declared.region.Space.{Space}
use Rattle.apei_base.specs.declared.region.Space.TheVariants.{Memory, Port}
use Rattle.apei_base.specs.declared.gas.Gas.{Gas}
use Rattle.apei_base.specs.declared.gas.GasError.{GasError}
use Rattle.apei_base.specs.declared.gas.GasError.TheVariants as errors

-- the generic address that 12 bytes spell (ACPI 6.5, 5.2.3.2)
abbrev pub gas_of : List ℕ → Gas
gas_of bytes = record {
  space = slice_index bytes 0;
  bit_width = slice_index bytes 1;
  bit_offset = slice_index bytes 2;
  access = slice_index bytes 3;
  address = little_number 8 (drop 4 bytes);
}

-- the generic address in the 12 bytes at an offset (ACPI 6.5, 5.2.3.2)
abbrev pub gas_at : ℕ → List ℕ → Gas
gas_at offset bytes = gas_of (take 12 (drop offset bytes))

-- how many bits from the lowest bit of the register its field ends (ACPI 6.5, 5.2.3.2)
abbrev pub bits_needed : Gas → ℕ
bits_needed gas = gas.bit_offset + gas.bit_width

-- the smallest width that holds so many bits; 64 where none does (own choice)
abbrev pub smallest_width : ℕ → ℕ
smallest_width bits = if nat_le bits 8 then 8 else if nat_le bits 16 then 16 else if nat_le bits 32 then 32 else 64

-- the width in bits that the access size code names: 1 byte, 2 word, 3 dword, 4 qword; 0 leaves it to the field
-- (ACPI 6.5, 5.2.3.2; that code 0 leaves it to the field: own choice)
abbrev pub coded_width : Gas → ℕ
coded_width gas =
    if gas.access == 0 then smallest_width (bits_needed gas)
    else if gas.access == 1 then 8
    else if gas.access == 2 then 16
    else if gas.access == 3 then 32
    else 64

-- whether the field is a whole register of this width at an aligned address
-- (After Linux 6.1, drivers/acpi/apei/apei-base.c)
abbrev pub is_whole : Gas → ℕ → Bool
is_whole gas width = (gas.bit_width == width) && (gas.bit_offset == 0) && (gas.address % (width / 8) == 0)

-- the width of an access in bits: 8, 16, 32 or 64; a whole aligned register is not read in narrower parts,
-- whatever its code says (ACPI 6.5, 5.2.3.2; the whole register: After Linux 6.1, drivers/acpi/apei/apei-base.c)
abbrev pub access_width : Gas → ℕ
access_width gas =
    if is_whole gas 64 then 64
    else if is_whole gas 32 then max 32 (coded_width gas)
    else coded_width gas

-- why a generic address names no region, the first reason that holds (own choice)
abbrev pub gas_refusal : Gas → Option GasError
gas_refusal gas = first_of (
    (nat_lt 1 gas.space, errors.Space) ∷
    (nat_lt 4 gas.access, errors.AccessSize) ∷
    (nat_lt (access_width gas) (bits_needed gas), errors.TooWide) ∷
    ((gas.space == 1) && (access_width gas == 64), errors.PortWidth) ∷
    (nat_lt (2 ^ 64) (gas.address + access_width gas / 8), errors.PastEnd) ∷ [])

-- space 0 is memory, 1 is I/O (ACPI 6.5, 5.2.3.2)
abbrev pub space_of : ℕ → Space
space_of code = if code == 0 then Memory else Port
