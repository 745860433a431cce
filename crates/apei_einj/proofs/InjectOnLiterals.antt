-- What an injection tells the machine, and how a trigger table is judged, computed on known numbers.
use Rattle.std.proofs.Common.{◌≡◌, ℕ, true, false, List, [], ◌∷◌, ◌++◌, map, Some, None, refl}
use Rattle.std.specs.List.{repeat}
use Rattle.apei_einj.specs.Injection.{is_busy, status_refusal}
use Rattle.apei_einj.specs.Entry.{pieces_of, entries_from}
use Rattle.apei_einj.specs.Request.{Row, is_error_type, address_structure}
use Rattle.apei_einj.specs.Trigger.{trigger_header_refusal, trigger_entries, trigger_refusal, first_reason}
use Rattle.apei_einj.specs.declared.injected.InjectError.TheVariants.{Status, Trigger}
use Rattle.apei_einj.specs.declared.request.Place.TheVariants.{Nowhere, Memory, Processor, Pcie}

-- the offsets and the values of rows
abbrev offsets : List Row → List ℕ
offsets rows = map (λ row. row.offset) rows

abbrev values : List Row → List ℕ
values rows = map (λ row. row.value) rows

-- a memory error at an address: type, flags, processor, address, mask, PCIe word
pub values-memory : values (address_structure 8 (Memory 0x12345678 0xfffffffffffff000)) ≡ 8 ∷ 2 ∷ 0 ∷ 0x12345678 ∷ 0xfffffffffffff000 ∷ 0 ∷ []
values-memory = refl

-- an error of a processor, of a PCIe function, and at no place
pub values-processor : values (address_structure 1 (Processor 7)) ≡ 1 ∷ 1 ∷ 7 ∷ 0 ∷ 0 ∷ 0 ∷ []
values-processor = refl

pub values-pcie : values (address_structure 0x40 (Pcie 0x01020300)) ≡ 0x40 ∷ 4 ∷ 0 ∷ 0 ∷ 0 ∷ 0x01020300 ∷ []
values-pcie = refl

pub values-nowhere : values (address_structure 0x800 Nowhere) ≡ 0x800 ∷ 0 ∷ 0 ∷ 0 ∷ 0 ∷ 0 ∷ []
values-nowhere = refl

-- where they stand
pub offsets-known : offsets (address_structure 8 Nowhere) ≡ 0 ∷ 8 ∷ 12 ∷ 16 ∷ 24 ∷ 32 ∷ []
offsets-known = refl

-- the last type, two types at once, and bit 12
pub is_error_type-last : is_error_type 0x800 ≡ true
is_error_type-last = refl

pub is_error_type-two : is_error_type 0x18 ≡ false
is_error_type-two = refl

pub is_error_type-above : is_error_type 0x1000 ≡ false
is_error_type-above = refl

-- bit 0 says busy, and the others do not
pub is_busy-known : is_busy 5 ≡ true
is_busy-known = refl

pub is_busy-other : is_busy 6 ≡ false
is_busy-other = refl

-- a status of 0 is none
pub status_refusal-none : status_refusal 0 ≡ None
status_refusal-none = refl

pub status_refusal-some : status_refusal 2 ≡ Some (Status 2)
status_refusal-some = refl

-- the header of a trigger table: its size, revision 1, the size of the table in two bytes, and the count of its entries
abbrev header : ℕ → ℕ → ℕ → ℕ → List ℕ
header size low high count =
    size ∷ 0 ∷ 0 ∷ 0 ∷ 1 ∷ 0 ∷ 0 ∷ 0 ∷ low ∷ high ∷ 0 ∷ 0 ∷ count ∷ 0 ∷ 0 ∷ 0 ∷ []

-- one entry, and no entry
pub header-one : trigger_header_refusal (header 16 48 0 1) ≡ None
header-one = refl

pub header-none : trigger_header_refusal (header 16 16 0 0) ≡ None
header-none = refl

-- a header of 12 bytes
pub header-size : trigger_header_refusal (header 12 48 0 1) ≡ Some (Trigger 1)
header-size = refl

-- a table of 15 bytes, and of 4,097
pub header-short : trigger_header_refusal (header 16 15 0 0) ≡ Some (Trigger 2)
header-short = refl

pub header-long : trigger_header_refusal (header 16 1 16 127) ≡ Some (Trigger 2)
header-long = refl

-- one byte more than the entries have
pub header-count : trigger_header_refusal (header 16 49 0 1) ≡ Some (Trigger 3)
header-count = refl

-- an entry by its action, its instruction and the space of its register, of 32 bits at address 0
abbrev entry : ℕ → ℕ → ℕ → List ℕ
entry action instruction space = action ∷ instruction ∷ 0 ∷ 0 ∷ space ∷ 32 ∷ 0 ∷ 3 ∷ repeat 24 (0 ∷ [])

-- an entry of the trigger action that can be run, and one of another action that could not
pub entry-good : trigger_refusal (entry 0xff 3 0) ≡ None
unfolding trigger_entries pieces_of entries_from first_reason
entry-good = refl

pub entry-other : trigger_refusal (entry 0x80 9 0) ≡ None
unfolding trigger_entries pieces_of entries_from first_reason
entry-other = refl

-- there is no instruction 5, and no space 2 that is reached, unless nothing is done there
pub entry-instruction : trigger_refusal (entry 0xff 5 2) ≡ Some (Trigger 4)
unfolding trigger_entries pieces_of entries_from first_reason
entry-instruction = refl

pub entry-register : trigger_refusal (entry 0xff 3 2) ≡ Some (Trigger 5)
unfolding trigger_entries pieces_of entries_from first_reason
entry-register = refl

pub entry-no_operation : trigger_refusal (entry 0xff 4 2) ≡ None
unfolding trigger_entries pieces_of entries_from first_reason
entry-no_operation = refl

-- the second of two entries is refused
pub entry-second : trigger_refusal (entry 0xff 3 0 ++ entry 0xff 5 0) ≡ Some (Trigger 4)
unfolding trigger_entries pieces_of entries_from first_reason
entry-second = refl
