-- Which section bytes are: by the GUID of their data entry, and by their length (UEFI 2.10, appendix N.2.2).
use Rattle.std.specs.Prelude.{ℕ, ◌+◌, ◌==◌, ◌&&◌, nat_lt, nat_le, if◌then◌else◌, filter, List, [], ◌∷◌, length, codes, unwrap_or, Option, Some, None}
use Rattle.std.specs.Str.{bytes_eq}
use Rattle.uuid.specs.Text.{parsed}
use Rattle.cper_sections.specs.Field.{Field, end_of}
use Rattle.cper_sections.specs.Memory.{memory_fields, rank, card_handle, module_handle}
use Rattle.cper_sections.specs.Pcie.{pcie_fields}
use Rattle.cper_sections.specs.Processor.{processor_fields}
use Rattle.cper_sections.specs.declared.kind.Kind.{Kind}
use Rattle.cper_sections.specs.declared.kind.Kind.TheVariants as kinds
use Rattle.cper_sections.specs.declared.section.Section.{Section}
use Rattle.cper_sections.specs.declared.section.Section.TheVariants as sections

-- the GUID that names a kind of section (UEFI 2.10, appendix N.2.2)
unfoldable pub guid_of : Kind → List ℕ
guid_of kinds.Memory = unwrap_or (parsed (codes "a5bc1114-6f64-4ede-b863-3e83ed7c83b1")) []
guid_of kinds.Processor = unwrap_or (parsed (codes "9876ccad-47b4-4bdb-b65e-16f193c4f3db")) []
guid_of kinds.Pcie = unwrap_or (parsed (codes "d995e954-bbc1-430f-ad91-b44dcb3c6f35")) []

-- the kind of section that a GUID names, if it names one that is read here (UEFI 2.10, appendix N.2.2)
abbrev pub kind_of : List ℕ → Option Kind
kind_of guid =
    if bytes_eq guid (guid_of kinds.Memory) then Some kinds.Memory
    else if bytes_eq guid (guid_of kinds.Processor) then Some kinds.Processor
    else if bytes_eq guid (guid_of kinds.Pcie) then Some kinds.Pcie
    else None

-- how many bytes a section of a kind has at least (UEFI 2.10, appendix N.2.4.1, N.2.5, N.2.7; that a memory section
-- may end behind its type: after Linux 6.1, drivers/firmware/efi/cper.c)
abbrev pub least_length : Kind → ℕ
least_length kinds.Memory = 73
least_length kinds.Processor = 192
least_length kinds.Pcie = 208

-- the fields of a section of a kind, in order (UEFI 2.10, appendix N.2.4.1, N.2.5, N.2.7)
abbrev pub section_fields : Kind → List Field
section_fields kinds.Memory = memory_fields
section_fields kinds.Processor = processor_fields
section_fields kinds.Pcie = pcie_fields

-- the fields that a section of a kind may lack: those that an older version of the standard does not have
-- (after Linux 6.1, include/linux/cper.h)
abbrev pub late_fields : Kind → List Field
late_fields kinds.Memory = rank ∷ card_handle ∷ module_handle ∷ []
late_fields kinds.Processor = []
late_fields kinds.Pcie = []

-- how many bytes a section of a kind has with all its fields (UEFI 2.10, appendix N.2.4.1, N.2.5, N.2.7)
abbrev pub full_length : Kind → ℕ
full_length kinds.Memory = 80
full_length kinds.Processor = 192
full_length kinds.Pcie = 208

-- the offsets of the bytes behind the validation number that are of no field: the extended row bits of a memory section,
-- and what is reserved (UEFI 2.10, appendix N.2.4.1, N.2.5, N.2.7; that the former are not read: own choice)
abbrev pub unread_bytes : Kind → List ℕ
unread_bytes kinds.Memory = 73 ∷ []
unread_bytes kinds.Processor = 14 ∷ 15 ∷ []
unread_bytes kinds.Pcie = 14 ∷ 15 ∷ 20 ∷ 21 ∷ 22 ∷ 23 ∷ 39 ∷ []

-- how many fields of a kind have the byte at an offset, and how often it is among the unread ones
abbrev pub owners : Kind → ℕ → ℕ
owners kind i =
    length (filter (λ field. nat_le field.at i && nat_lt i (end_of field)) (section_fields kind))
    + length (filter (λ unread. unread == i) (unread_bytes kind))

-- a section as a whole one of a kind, a short one of a kind, or one of another type, with its bytes (own choice)
pub data Reading : Type 0 where
  Whole Short : Kind → List ℕ → Reading
  Other : List ℕ → Reading

-- how bytes are read as a section of a kind, or of none: they are short below its least length (own choice)
abbrev pub reading_as : Option Kind → List ℕ → Reading
reading_as (Some kind) bytes = if nat_lt (length bytes) (least_length kind) then Short kind bytes else Whole kind bytes
reading_as None bytes = Other bytes

-- how the bytes of a section are read under the GUID of their data entry (UEFI 2.10, appendix N.2.2)
abbrev pub reading_of : List ℕ → List ℕ → Reading
reading_of guid bytes = reading_as (kind_of guid) bytes

-- a section without where its bytes lie in memory
abbrev pub view : Section → Reading
view (sections.Memory bytes) = Whole kinds.Memory bytes
view (sections.Processor bytes) = Whole kinds.Processor bytes
view (sections.Pcie bytes) = Whole kinds.Pcie bytes
view (sections.Other bytes) = Other bytes.now
view (sections.Short kind bytes) = Short kind bytes.now

-- the word for a kind of section (own choice)
abbrev pub kind_text : Kind → List ℕ
kind_text kinds.Memory = codes "memory"
kind_text kinds.Processor = codes "processor"
kind_text kinds.Pcie = codes "pcie"
