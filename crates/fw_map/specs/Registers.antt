-- The registers of a machine, each with its cells and its owner.
use Rattle.std.specs.Prelude.{ℕ, ◌/◌, Bool, false, ◌==◌, if◌then◌else◌, List, [], ◌∷◌, ◌++◌, map, Option, Some, None}
use Rattle.std.specs.List.{flat_map}
use Rattle.std.specs.Option.{option_map}
use Rattle.apei_base.specs.declared.gas.Gas.{Gas}
use Rattle.apei_base.specs.Region.{space_of, access_width}
use Rattle.apei_hest.specs.declared.source.Ack2.{Ack2}
use Rattle.apei_hest.specs.declared.source.Ghes.{Ghes}
use Rattle.apei_einj.specs.Anchor.{anchor_of}
use Rattle.apei_einj.specs.declared.entry.Entry.{Entry}
use Rattle.fw_map.specs.declared.error.Owner.TheVariants as owners
use Rattle.fw_map.specs.declared.run.Register.{Register}
use Rattle.fw_map.specs.declared.run.Run.{Run}

-- the cells of one access of the register that a generic address names (ACPI 6.5, 5.2.3.2)
abbrev pub gas_run : Gas → Run
gas_run gas = record { space = space_of gas.space; first = gas.address; bytes = access_width gas / 8 }

-- the read ack register of a source, where it has one (ACPI 6.5, 18.3.2.8)
abbrev pub ack_registers : ℕ → Option Ack2 → List Register
ack_registers id None = []
ack_registers id (Some ack) = record { owner = owners.Source id; run = gas_run ack.register } ∷ []

-- the registers of a source: its status address register, and its read ack register (ACPI 6.5, 18.3.2.7 and 18.3.2.8)
abbrev pub source_registers : Ghes → List Register
source_registers ghes = record { owner = owners.Source ghes.id; run = gas_run ghes.status } ∷ ack_registers ghes.id ghes.ack

-- where the entry begins in its table at whose register the address structure stands: the anchor of action 8
-- (ACPI 6.5, 18.6.4)
abbrev pub structure_of : List Entry → Option ℕ
structure_of entries = option_map (λ entry. entry.at) (anchor_of 8 entries)

-- the address structure stands at the register of the entry that begins here
abbrev pub is_structure : Option ℕ → ℕ → Bool
is_structure None at = false
is_structure (Some place) at = place == at

-- the cells of an entry: those of its register, and of the anchor of action 8 the 36 bytes of the address structure
-- (ACPI 6.5, 18.6.2 and 18.6.4)
abbrev pub entry_run : Option ℕ → Entry → Run
entry_run structure entry = record {
  space = space_of entry.register.space;
  first = entry.register.address;
  bytes = if is_structure structure entry.at then 36 else access_width entry.register / 8;
}

-- the register of an entry; a no operation has none (ACPI 6.5, 18.6.2)
abbrev pub entry_registers : Option ℕ → Entry → List Register
entry_registers structure entry =
    if entry.instruction == 4 then [] else record { owner = owners.Injection; run = entry_run structure entry } ∷ []

-- the registers of the entries of an injection table, in table order (ACPI 6.5, 18.6.2)
abbrev pub injection_registers : List Entry → List Register
injection_registers entries = flat_map (entry_registers (structure_of entries)) entries

-- the entries of a machine's injection table, none where it has no such table
abbrev pub entries_of : Option (List Entry) → List Entry
entries_of None = []
entries_of (Some entries) = entries

-- the registers of a machine: by source, the status address before the read ack register, and then those of the injection
-- table (own choice)
abbrev pub registers_of : List Ghes → List Entry → List Register
registers_of sources entries = flat_map source_registers sources ++ injection_registers entries

-- their cells
abbrev pub runs_of : List Register → List Run
runs_of registers = map (λ register. register.run) registers
