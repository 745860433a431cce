-- The words for tables that are refused together, each but the last after its number.
use Rattle.std.specs.Prelude.{ℕ, ◌-◌, ◌^◌, false, List, [], ◌++◌, codes}
use Rattle.std.specs.Fmt.{decimal, digits, padded_integral, format_spec}
use Rattle.apei_base.specs.declared.region.Space.{Space}
use Rattle.apei_base.specs.declared.region.Space.TheVariants.{Memory, Port}
use Rattle.fw_map.specs.declared.error.Owner.{Owner}
use Rattle.fw_map.specs.declared.error.Owner.TheVariants.{Source, Injection}
use Rattle.fw_map.specs.declared.error.FwError.{FwError}
use Rattle.fw_map.specs.declared.error.FwError.TheVariants.{Overlap, Room, Narrow, OutOfMemory}

-- the words for an owner (own choice)
abbrev pub owner_text : Owner → List ℕ
owner_text (Source id) = codes "source " ++ decimal id
owner_text Injection = codes "injection"

-- the word for a space (own choice)
abbrev pub space_text : Space → List ℕ
space_text Memory = codes "memory"
space_text Port = codes "port"

-- an address in 16 lower-case hexadecimal digits: its own, with zeros before them (own choice)
abbrev pub address_text : ℕ → List ℕ
address_text address = codes "0x" ++ padded_integral (format_spec 32 0 4 16 (2 ^ 64 - 1)) false [] (digits 16 false address)

-- the words for tables that are refused together (own choice)
abbrev pub fw_error_text : FwError → List ℕ
fw_error_text (Overlap first second space address) =
    codes "1 overlap of " ++ owner_text first ++ codes " and " ++ owner_text second ++ codes " at " ++ space_text space ++ codes " " ++ address_text address
fw_error_text Room = codes "2 room"
fw_error_text (Narrow id) = codes "3 narrow source " ++ decimal id
fw_error_text OutOfMemory = codes "out of memory"
