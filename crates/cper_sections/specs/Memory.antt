-- The fields of a memory section (UEFI 2.10, appendix N.2.5).
use Rattle.std.specs.Prelude.{List, [], ◌∷◌, codes}
use Rattle.cper_sections.specs.Field.{Field, number_field}

-- the rows of the table: name, bit of the validation number, offset and width in bytes (UEFI 2.10, appendix N.2.5)
abbrev pub status : Field
status = number_field (codes "status") 0 8 8

abbrev pub physical_address : Field
physical_address = number_field (codes "physical address") 1 16 8

abbrev pub mask : Field
mask = number_field (codes "mask") 2 24 8

abbrev pub node : Field
node = number_field (codes "node") 3 32 2

abbrev pub card : Field
card = number_field (codes "card") 4 34 2

abbrev pub «module» : Field
«module» = number_field (codes "module") 5 36 2

abbrev pub bank : Field
bank = number_field (codes "bank") 6 38 2

abbrev pub device : Field
device = number_field (codes "device") 7 40 2

abbrev pub row : Field
row = number_field (codes "row") 8 42 2

abbrev pub column : Field
column = number_field (codes "column") 9 44 2

abbrev pub bit_position : Field
bit_position = number_field (codes "bit position") 10 46 2

abbrev pub requestor : Field
requestor = number_field (codes "requestor") 11 48 8

abbrev pub responder : Field
responder = number_field (codes "responder") 12 56 8

abbrev pub target : Field
target = number_field (codes "target") 13 64 8

abbrev pub kind : Field
kind = number_field (codes "type") 14 72 1

abbrev pub rank : Field
rank = number_field (codes "rank") 15 74 2

abbrev pub card_handle : Field
card_handle = number_field (codes "card handle") 16 76 2

abbrev pub module_handle : Field
module_handle = number_field (codes "module handle") 17 78 2

-- all fields of a memory section, in order (UEFI 2.10, appendix N.2.5)
abbrev pub memory_fields : List Field
memory_fields =
    status ∷ physical_address ∷ mask ∷ node ∷ card ∷ «module» ∷ bank ∷ device ∷ row ∷ column ∷ bit_position ∷
    requestor ∷ responder ∷ target ∷ kind ∷ rank ∷ card_handle ∷ module_handle ∷ []
