use Rattle.std.proofs.Common.{◌≡◌, ◌*◌, ◌-◌, length, drop, arith, sym}
use Rattle.std.proofs.lemmas.List.{length-drop}
use Rattle.apei_einj.specs.Table.{stated_count}
use Rattle.apei_einj.proofs.CountLemmas.{count_accepted, count_refused}
use Rattle.apei_einj.proofs.header.check_count.Goals as goal

pub returns-then-said-behind-clause-err : goal.returns-then-said-behind-clause-err
returns-then-said-behind-clause-err c =
    let whole : 32 * stated_count c.args.bytes.now ≡ length (drop 48 c.args.bytes.now) = omega (arith, length-drop 48 c.args.bytes.now, c.u32_at-said.ensures) in
    sym (count_accepted c.args.bytes.now whole)

pub returns-then-said-behind-clause-counted : goal.returns-then-said-behind-clause-counted
returns-then-said-behind-clause-counted c = omega (arith, length-drop 48 c.args.bytes.now, c.u32_at-said.ensures)

pub returns-clause-err : goal.returns-clause-err
returns-clause-err c =
    sym (count_refused c.args.bytes.now c.u32_at-said.result (length c.args.bytes.now - 48) c.u32_at-said.ensures (sym (length-drop 48 c.args.bytes.now)) (λ same. c.if-said-behind.false (omega arith)))
