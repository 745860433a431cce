-- Cells that are the same one by one, and a field that was set.
use Rattle.std.proofs.Common.{◌≡◌, ◌%◌, ◌^◌, ℕ, Option, Some, None, refl, ap, ◌∙◌, arith}
use Rattle.std.specs.Prelude.{IsTrue, is_none}
use Rattle.std.proofs.Math.Path.{fun_ext}
use Rattle.apei_base.specs.Bus.{Cells, Reach, value_at}
use Rattle.apei_base.specs.Region.{access_width}
use Rattle.apei_einj.specs.Action.{entry_reach, with_field}
use Rattle.fw_cells.specs.Changes.{AreSame, with_value}
use Rattle.fw_einj.specs.Field.{field_set}
use Rattle.fw_einj.specs.declared.register.Register.{Register}

-- cells that hold the same one by one are the same
pub same_cells : (one other : Cells) → AreSame one other → one ≡ other
same_cells one other same = fun_ext λ space. fun_ext λ address. same space address

-- a register that is accepted is not refused
pub none_when : {A : Type 0} (o : Option A) → IsTrue (is_none o) → o ≡ None
none_when None is = refl
none_when (Some x) is = absurd (cc is)

-- the low bits of low bits are these
low_bits_of-low_bits : (x w : ℕ) → x % 2 ^ w % 2 ^ w ≡ x % 2 ^ w
low_bits_of-low_bits x w = search (arith)

-- a register was read, and written with another field
pub field_was_set : (register : Register) (value : ℕ) (old new : Cells) (reach : Reach) (read put : ℕ)
    → reach ≡ entry_reach register.entry → read ≡ value_at old reach → put ≡ with_field register.entry read value
    → AreSame new (with_value old reach (put % 2 ^ reach.width)) → new ≡ field_set register value old
unfolding field_set
field_was_set register value old new reach read put is_reach is_read is_put same =
    let number : put % 2 ^ access_width register.entry.register ≡ with_field register.entry (value_at old (entry_reach register.entry)) value =
    ap (λ n. n % 2 ^ access_width register.entry.register) (is_put ∙ ap (λ n. with_field register.entry n value) (is_read ∙ ap (value_at old) is_reach))
    ∙ low_bits_of-low_bits _ (access_width register.entry.register) in
    same_cells new _ same ∙ ap (λ (r : Reach). with_value old r (put % 2 ^ r.width)) is_reach ∙ ap (with_value old (entry_reach register.entry)) number
