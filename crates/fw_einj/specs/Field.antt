-- The field of an entry in its register, and setting it (ACPI 6.5, 18.6.3).
use Rattle.std.specs.Prelude.{ℕ, ◌+◌, ◌/◌, Bool, ◌&&◌, nat_lt}
use Rattle.apei_base.specs.Bus.{Cells, Reach, same_space, value_at}
use Rattle.apei_einj.specs.Action.{entry_reach, field_of, with_field}
use Rattle.fw_cells.specs.Changes.{with_value}
use Rattle.fw_einj.specs.declared.register.Register.{Register}

-- both reach a cell in one access (own choice)
abbrev pub shares : Reach → Reach → Bool
shares one other =
    same_space one.space other.space && (nat_lt one.address (other.address + other.width / 8)
    && nat_lt other.address (one.address + one.width / 8))

-- the field of an entry: what its register holds, shifted down to bit 0, and then masked (ACPI 6.5, 18.6.3)
unfoldable pub field_in : Register → Cells → ℕ
field_in register cells = field_of register.entry (value_at cells (entry_reach register.entry))

-- The field of an entry is set to a value: the bits of the field become those of the value under the mask, and the others
-- are kept (own choice).
unfoldable pub field_set : Register → ℕ → Cells → Cells
field_set register value cells =
    with_value cells (entry_reach register.entry) (with_field register.entry (value_at cells (entry_reach register.entry)) value)
