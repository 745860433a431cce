-- The fields of a PCIe section (UEFI 2.10, appendix N.2.7).
use Rattle.std.specs.Prelude.{List, [], ◌∷◌, codes}
use Rattle.cper_sections.specs.Field.{Field, bytes_field, number_field}

-- the rows of the table: name, bit of the validation number, offset and width in bytes (UEFI 2.10, appendix N.2.7)
abbrev pub port_type : Field
port_type = number_field (codes "port type") 0 8 4

abbrev pub version_minor : Field
version_minor = number_field (codes "version minor") 1 12 1

abbrev pub version_major : Field
version_major = number_field (codes "version major") 1 13 1

abbrev pub command : Field
command = number_field (codes "command") 2 16 2

abbrev pub status : Field
status = number_field (codes "status") 2 18 2

abbrev pub vendor : Field
vendor = number_field (codes "vendor") 3 24 2

abbrev pub device_id : Field
device_id = number_field (codes "device id") 3 26 2

abbrev pub class : Field
class = bytes_field (codes "class") 3 28 3

abbrev pub function : Field
function = number_field (codes "function") 3 31 1

abbrev pub device : Field
device = number_field (codes "device") 3 32 1

abbrev pub segment : Field
segment = number_field (codes "segment") 3 33 2

abbrev pub bus : Field
bus = number_field (codes "bus") 3 35 1

abbrev pub secondary_bus : Field
secondary_bus = number_field (codes "secondary bus") 3 36 1

abbrev pub slot : Field
slot = number_field (codes "slot") 3 37 2

abbrev pub serial : Field
serial = bytes_field (codes "serial") 4 40 8

abbrev pub bridge_status : Field
bridge_status = number_field (codes "bridge status") 5 48 2

abbrev pub bridge_control : Field
bridge_control = number_field (codes "bridge control") 5 50 2

abbrev pub capability : Field
capability = bytes_field (codes "capability") 6 52 60

abbrev pub aer : Field
aer = bytes_field (codes "aer") 7 112 96

-- all fields of a PCIe section, in order (UEFI 2.10, appendix N.2.7)
abbrev pub pcie_fields : List Field
pcie_fields =
    port_type ∷ version_minor ∷ version_major ∷ command ∷ status ∷ vendor ∷ device_id ∷ class ∷ function ∷
    device ∷ segment ∷ bus ∷ secondary_bus ∷ slot ∷ serial ∷ bridge_status ∷ bridge_control ∷ capability ∷
    aer ∷ []
