-- What each part of an access leaves in the machine.
use Rattle.std.proofs.Common.{◌≡◌, ◌<◌, ◌≤◌, ◌-◌, ◌%◌, ◌^◌, true, false, cond, eqb, Some, None, refl, sym, ap, ◌∙◌, arith}
use Rattle.std.proofs.lemmas.Bool.Decides.{nat_tests}
use Rattle.apei_base.specs.Bus.{Cells, Reach}
use Rattle.fw_einj.specs.Field.{field_set}
use Rattle.fw_einj.specs.Machine.{Machine, idle_value, counted_down, trigger_reach, triggered_by, written, made_of}
use Rattle.fw_einj.specs.declared.injection.Injection.{Injection}
use Rattle.fw_einj.specs.declared.port.Made.{Made}

-- the machine with other cells
abbrev pub with_cells : Machine → Cells → Machine
with_cells machine cells = record machine { cells = cells }

-- the last read that finds the machine busy was counted
pub counted_last : (machine : Machine) (cells : Cells) → machine.busy ≤ 1 → cells ≡ field_set machine.board.busy (idle_value machine.board.busy) machine.cells
    → record machine { busy = machine.busy - 1; cells = cells } ≡ counted_down machine
unfolding counted_down
counted_last machine cells one set =
    let zero : machine.busy - 1 ≡ 0 = omega arith in
    let none : eqb (machine.busy - 1) 0 ≡ true = ap (λ n. eqb n 0) zero in
    ap (λ (c : Cells). record machine { busy = machine.busy - 1; cells = c })
    (set ∙ sym (ap (λ b. cond b (field_set machine.board.busy (idle_value machine.board.busy) machine.cells) machine.cells) none))

-- another read was
pub counted_more : (machine : Machine) → 1 < machine.busy → record machine { busy = machine.busy - 1 } ≡ counted_down machine
unfolding counted_down
counted_more machine more =
    let some : eqb (machine.busy - 1) 0 ≡ false = grind (arith, nat_tests) in
    ap (λ (c : Cells). record machine { busy = machine.busy - 1; cells = c })
    (sym (ap (λ b. cond b (field_set machine.board.busy (idle_value machine.board.busy) machine.cells) machine.cells) some))

-- a trigger made what the machine was armed with
pub was_triggered : (machine put : Machine) (injection : Injection) (made : Made) (reach : Reach) → reach ≡ trigger_reach machine
    → put ≡ written reach (0 % 2 ^ reach.width) machine → made ≡ made_of machine.setup injection
    → record put { armed = None; made = Some made } ≡ triggered_by (Some injection) machine
unfolding written triggered_by
was_triggered machine put injection made reach is_reach is_put is_made =
    ap (λ (p : Machine). record p { armed = None; made = Some made }) is_put
    ∙ ap (λ (r : Reach). record (written r (0 % 2 ^ r.width) machine) { armed = None; made = Some made }) is_reach
    ∙ ap (λ (m : Made). record (written (trigger_reach machine) 0 machine) { armed = None; made = Some m }) is_made

-- a trigger that finds nothing armed does nothing
pub not_armed : (machine : Machine) → machine ≡ triggered_by None machine
unfolding triggered_by
not_armed machine = refl
