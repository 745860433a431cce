-- The section of an injected block: its fields, one behind the other, and zeros in between (UEFI 2.10, appendix N.2).
use Rattle.std.specs.Prelude.{ℕ, ◌+◌, ◌/◌, ◌%◌, ◌^◌, Bool, not, ◌==◌, bit_and, if◌then◌else◌, List, [], ◌∷◌, ◌++◌, replicate}
use Rattle.byteorder.specs.Endian.{little_bytes}
use Rattle.fw_einj.specs.Class.{is_correctable}
use Rattle.fw_einj.specs.declared.class.Class.{Class}
use Rattle.fw_einj.specs.declared.class.Class.TheVariants as classes
use Rattle.fw_einj.specs.declared.injection.Injection.{Injection}

-- a place of this flag is named (ACPI 6.5, 18.6.4)
abbrev pub names : ℕ → Injection → Bool
names flag injection = not (bit_and injection.flags flag == 0)

-- a memory section with its type alone, or with the physical address and its mask too: bits 14, 1 and 2
-- (UEFI 2.10, appendix N.2.5)
abbrev pub memory_validation : Injection → ℕ
memory_validation injection = if names 2 injection then 2 ^ 14 + 2 ^ 1 + 2 ^ 2 else 2 ^ 14

-- the memory address and its mask, where memory is named (UEFI 2.10, appendix N.2.5)
abbrev pub physical_address : Injection → ℕ
physical_address injection = if names 2 injection then injection.address else 0

abbrev pub address_mask : Injection → ℕ
address_mask injection = if names 2 injection then injection.mask else 0

-- the type of the memory error: 2 of a single bit, 3 of several (UEFI 2.10, appendix N.2.5; which is told: own choice)
abbrev pub memory_type : Injection → ℕ
memory_type injection = if is_correctable injection.error then 2 else 3

-- 80 bytes: validation, status, physical address, mask, fields of 40 bytes that are not told, type, and more of 7
-- (UEFI 2.10, appendix N.2.5)
abbrev pub memory_section : Injection → List ℕ
memory_section injection =
    little_bytes 8 (memory_validation injection) ++ (replicate 8 0 ++ (little_bytes 8 (physical_address injection)
    ++ (little_bytes 8 (address_mask injection) ++ (replicate 40 0 ++ (memory_type injection ∷ replicate 7 0)))))

-- a processor section with the processor's id, bit 8, where one is named (UEFI 2.10, appendix N.2.4.1)
abbrev pub processor_validation : Injection → ℕ
processor_validation injection = if names 1 injection then 2 ^ 8 else 0

abbrev pub processor_id : Injection → ℕ
processor_id injection = if names 1 injection then injection.processor else 0

-- 192 bytes: validation, fields of 144 bytes that are not told, the id, and more of 32 (UEFI 2.10, appendix N.2.4.1)
abbrev pub processor_section : Injection → List ℕ
processor_section injection =
    little_bytes 8 (processor_validation injection) ++ (replicate 144 0 ++ (little_bytes 8 (processor_id injection) ++ replicate 32 0))

-- a PCIe section with the device id, bit 3, where a function is named (UEFI 2.10, appendix N.2.7)
abbrev pub pcie_validation : Injection → ℕ
pcie_validation injection = if names 4 injection then 2 ^ 3 else 0

-- the word that names the function, where one is named: the function in bits 8 to 10, the device in 11 to 15, the bus in
-- 16 to 23 and the segment in 24 to 31 (own choice)
abbrev pub pcie_word : Injection → ℕ
pcie_word injection = if names 4 injection then injection.pcie else 0

abbrev pub function_of : ℕ → ℕ
function_of word = word / 2 ^ 8 % 2 ^ 3

abbrev pub device_of : ℕ → ℕ
device_of word = word / 2 ^ 11 % 2 ^ 5

abbrev pub bus_of : ℕ → ℕ
bus_of word = word / 2 ^ 16 % 2 ^ 8

abbrev pub segment_of : ℕ → ℕ
segment_of word = word / 2 ^ 24 % 2 ^ 8

-- 208 bytes: validation, fields of 23 bytes that are not told, function, device, segment, bus, and more of 172
-- (UEFI 2.10, appendix N.2.7)
abbrev pub pcie_section : Injection → List ℕ
pcie_section injection =
    little_bytes 8 (pcie_validation injection) ++ (replicate 23 0 ++ (function_of (pcie_word injection) ∷ device_of (pcie_word injection) ∷ []
    ++ (little_bytes 2 (segment_of (pcie_word injection)) ++ (bus_of (pcie_word injection) ∷ replicate 172 0))))

-- 8 bytes: the error type (own choice)
abbrev pub platform_section : Injection → List ℕ
platform_section injection = little_bytes 8 injection.error

-- how many bytes the section of a class has (UEFI 2.10, appendix N.2.4.1, N.2.5, N.2.7; of the platform: own choice)
abbrev pub section_length : Class → ℕ
section_length classes.Processor = 192
section_length classes.Memory = 80
section_length classes.Pcie = 208
section_length classes.Platform = 8

-- the section by its class
unfoldable pub section_by : Class → Injection → List ℕ
section_by classes.Processor injection = processor_section injection
section_by classes.Memory injection = memory_section injection
section_by classes.Pcie injection = pcie_section injection
section_by classes.Platform injection = platform_section injection
