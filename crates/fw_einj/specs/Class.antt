-- What an error type says: whose error it is, and how bad it is (ACPI 6.5, 18.6.4).
use Rattle.std.specs.Prelude.{ℕ, Bool, ◌||◌, ◌==◌, if◌then◌else◌, List, [], codes, unwrap_or}
use Rattle.uuid.specs.Parts.{swap_fields}
use Rattle.uuid.specs.Text.{parsed}
use Rattle.cper_block.specs.declared.severity.Severity.{Severity}
use Rattle.cper_block.specs.declared.severity.Severity.TheVariants as severities
use Rattle.cper_sections.specs.Section.{guid_of}
use Rattle.cper_sections.specs.declared.kind.Kind.TheVariants as kinds
use Rattle.fw_einj.specs.declared.class.Class.{Class}
use Rattle.fw_einj.specs.declared.class.Class.TheVariants as classes

-- bits 0 to 2 are of the processor, 3 to 5 of memory, 6 to 8 of PCIe, and 9 to 11 of the platform (ACPI 6.5, 18.6.4)
abbrev pub class_of : ℕ → Class
class_of error =
    if (error == 0x001) || (error == 0x002) || (error == 0x004) then classes.Processor
    else if (error == 0x008) || (error == 0x010) || (error == 0x020) then classes.Memory
    else if (error == 0x040) || (error == 0x080) || (error == 0x100) then classes.Pcie
    else classes.Platform

-- the first bit of each three is correctable (ACPI 6.5, 18.6.4)
abbrev pub is_correctable : ℕ → Bool
is_correctable error = (error == 0x001) || (error == 0x008) || (error == 0x040) || (error == 0x200)

-- the third bit of each three is fatal (ACPI 6.5, 18.6.4)
abbrev pub is_fatal_type : ℕ → Bool
is_fatal_type error = (error == 0x004) || (error == 0x020) || (error == 0x100) || (error == 0x800)

-- how bad an error of a type is; the second bit of each three is neither (ACPI 6.5, 18.6.4)
abbrev pub type_severity : ℕ → Severity
type_severity error =
    if is_correctable error then severities.Corrected
    else if is_fatal_type error then severities.Fatal
    else severities.Recoverable

-- the GUID of the section that tells an error of the class (UEFI 2.10, appendix N.2.2; of the platform: own choice)
unfoldable pub section_guid : Class → List ℕ
section_guid classes.Processor = guid_of kinds.Processor
section_guid classes.Memory = guid_of kinds.Memory
section_guid classes.Pcie = guid_of kinds.Pcie
section_guid classes.Platform = unwrap_or (parsed (codes "6b1d0c52-98f4-4c3a-8e0b-2f7a51c0d9e3")) []

-- the same as it lies in a block: the first three fields are little-endian (UEFI 2.10, appendix A)
abbrev pub guid_bytes : Class → List ℕ
guid_bytes of = swap_fields (section_guid of)
