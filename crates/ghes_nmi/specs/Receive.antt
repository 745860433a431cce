-- How a source of a table is received.
use Rattle.std.specs.Prelude.{Option, Some, None}
use Rattle.apei_base.specs.Bus.{Reach, reach_of}
use Rattle.std.specs.Option.{option_or}
use Rattle.apei_base.specs.Region.{space_of, access_width, gas_refusal}
use Rattle.apei_base.specs.declared.gas.GasError.{GasError}
use Rattle.apei_base.specs.declared.gas.Gas.{Gas}
use Rattle.apei_hest.specs.Source.{limit_of}
use Rattle.apei_hest.specs.declared.source.Ack2.{Ack2}
use Rattle.apei_hest.specs.declared.source.Ghes.{Ghes}
use Rattle.ghes_call.specs.Receive.{AckRuleSeen, ReceiveSeen}
use Rattle.ghes_nmi.specs.declared.receive.AckRule.{AckRule}
use Rattle.ghes_nmi.specs.declared.receive.Receive.{Receive}

-- what is told of a rule, of one that may be missing, and of how a source is received
abbrev pub rule_seen : AckRule → AckRuleSeen
rule_seen rule = record { register = reach_of rule.register; bit_offset = rule.bit_offset; preserve = rule.preserve; write = rule.write }

abbrev pub ack_seen : Option AckRule → Option AckRuleSeen
ack_seen None = None
ack_seen (Some rule) = Some (rule_seen rule)

abbrev pub receive_seen : Receive → ReceiveSeen
receive_seen receive = record { status = reach_of receive.status; limit = receive.limit; ack = ack_seen receive.ack }

-- where a register of a table is reached, in one access (ACPI 6.5, 5.2.3.2)
abbrev pub gas_reach : Gas → Reach
gas_reach gas = record { space = space_of gas.space; address = gas.address; width = access_width gas }

-- how blocks of a source are acknowledged by its table, if they are (ACPI 6.5, 18.3.2.8)
abbrev pub rule_of : Option Ack2 → Option AckRuleSeen
rule_of None = None
rule_of (Some ack) = Some (record { register = gas_reach ack.register; bit_offset = ack.register.bit_offset; preserve = ack.preserve; write = ack.write })

-- how a source is received by its table (ACPI 6.5, 18.3.2.7)
abbrev pub receive_of : Ghes → ReceiveSeen
receive_of ghes = record { status = gas_reach ghes.status; limit = limit_of ghes; ack = rule_of ghes.ack }

-- why a register of a source names no region, the status address register first, if one does not (own choice)
abbrev pub rule_refusal : Option Ack2 → Option GasError
rule_refusal None = None
rule_refusal (Some ack) = gas_refusal ack.register

abbrev pub receive_refusal : Ghes → Option GasError
receive_refusal ghes = option_or (gas_refusal ghes.status) (rule_refusal ghes.ack)
