-- The fields of a processor section (UEFI 2.10, appendix N.2.4.1).
use Rattle.std.specs.Prelude.{List, [], ◌∷◌, codes}
use Rattle.cper_sections.specs.Field.{Field, number_field, text_field}

-- the rows of the table: name, bit of the validation number, offset and width in bytes (UEFI 2.10, appendix N.2.4.1)
abbrev pub processor_type : Field
processor_type = number_field (codes "processor type") 0 8 1

abbrev pub isa : Field
isa = number_field (codes "isa") 1 9 1

abbrev pub error_type : Field
error_type = number_field (codes "error type") 2 10 1

abbrev pub operation : Field
operation = number_field (codes "operation") 3 11 1

abbrev pub flags : Field
flags = number_field (codes "flags") 4 12 1

abbrev pub level : Field
level = number_field (codes "level") 5 13 1

abbrev pub version : Field
version = number_field (codes "version") 6 16 8

abbrev pub brand : Field
brand = text_field (codes "brand") 7 24 128

abbrev pub id : Field
id = number_field (codes "id") 8 152 8

abbrev pub target_address : Field
target_address = number_field (codes "target address") 9 160 8

abbrev pub requestor : Field
requestor = number_field (codes "requestor") 10 168 8

abbrev pub responder : Field
responder = number_field (codes "responder") 11 176 8

abbrev pub instruction_pointer : Field
instruction_pointer = number_field (codes "instruction pointer") 12 184 8

-- all fields of a processor section, in order (UEFI 2.10, appendix N.2.4.1)
abbrev pub processor_fields : List Field
processor_fields =
    processor_type ∷ isa ∷ error_type ∷ operation ∷ flags ∷ level ∷ version ∷ brand ∷ id ∷ target_address ∷
    requestor ∷ responder ∷ instruction_pointer ∷ []
