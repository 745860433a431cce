-- What is asked of an injection, and the address structure that tells it to the firmware (ACPI 6.5, 18.6.4).
use Rattle.std.specs.Prelude.{ℕ, Bool, true, false, ◌||◌, ◌==◌, List, [], ◌∷◌}
use Rattle.apei_einj.specs.declared.request.Place.{Place}
use Rattle.apei_einj.specs.declared.request.Place.TheVariants.{Nowhere, Memory, Processor, Pcie}

-- an error type: one of the bits 0 to 11, of the processor (correctable, uncorrectable but not fatal, fatal), of memory, of
-- PCIe and of the platform (ACPI 6.5, 18.6.4)
abbrev pub is_error_type : ℕ → Bool
is_error_type error =
    (error == 0x001) || (error == 0x002) || (error == 0x004)
    || ((error == 0x008) || (error == 0x010) || (error == 0x020))
    || ((error == 0x040) || (error == 0x080) || (error == 0x100))
    || ((error == 0x200) || (error == 0x400) || (error == 0x800))

-- a place is named
abbrev pub has_place : Place → Bool
has_place Nowhere = false
has_place (Memory address mask) = true
has_place (Processor id) = true
has_place (Pcie word) = true

-- the flags that say which place is named: bit 0 a processor, bit 1 memory, bit 2 PCIe (ACPI 6.5, 18.6.4)
abbrev pub flags_of : Place → ℕ
flags_of Nowhere = 0
flags_of (Memory address mask) = 2
flags_of (Processor id) = 1
flags_of (Pcie word) = 4

-- the id of the processor, 0 where none is named
abbrev pub processor_of : Place → ℕ
processor_of Nowhere = 0
processor_of (Memory address mask) = 0
processor_of (Processor id) = id
processor_of (Pcie word) = 0

-- the memory address, 0 where none is named
abbrev pub address_of : Place → ℕ
address_of Nowhere = 0
address_of (Memory address mask) = address
address_of (Processor id) = 0
address_of (Pcie word) = 0

-- the mask of the memory address, 0 where none is named
abbrev pub mask_of : Place → ℕ
mask_of Nowhere = 0
mask_of (Memory address mask) = mask
mask_of (Processor id) = 0
mask_of (Pcie word) = 0

-- segment, bus, device and function of PCIe in one word, 0 where none is named
abbrev pub pcie_of : Place → ℕ
pcie_of Nowhere = 0
pcie_of (Memory address mask) = 0
pcie_of (Processor id) = 0
pcie_of (Pcie word) = word

-- a field of the address structure: its offset in bytes, its width in bits, and its value
pub record Row : Type 0 where
  pub offset : ℕ
  pub width : ℕ
  pub value : ℕ

-- The fields that are written, in this order: the error type, the flags, the processor, the memory address and its mask,
-- and the PCIe word. The vendor's offset at 4 is not (ACPI 6.5, 18.6.4; the order: own choice).
abbrev pub address_structure : ℕ → Place → List Row
address_structure error place =
    record { offset = 0; width = 32; value = error } ∷
    record { offset = 8; width = 32; value = flags_of place } ∷
    record { offset = 12; width = 32; value = processor_of place } ∷
    record { offset = 16; width = 64; value = address_of place } ∷
    record { offset = 24; width = 64; value = mask_of place } ∷
    record { offset = 32; width = 32; value = pcie_of place } ∷ []
