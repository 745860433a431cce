-- Which entries stand for an action.
use Rattle.std.specs.Prelude.{Bool, is_none}
use Rattle.apei_base.specs.Region.{gas_refusal}
use Rattle.apei_einj.specs.declared.entry.Entry.{Entry}

-- the register of an entry names a region (ACPI 6.5, 5.2.3.2)
abbrev pub is_accepted : Entry → Bool
is_accepted entry = is_none (gas_refusal entry.register)
