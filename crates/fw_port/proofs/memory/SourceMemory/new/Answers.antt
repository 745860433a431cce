use Rattle.std.proofs.Common.{rules}
use Rattle.fw_port.specs.SourceLaws.{ack_is_apart, ack_is_other, zero_fits}
use Rattle.fw_port.specs.Port.{layout_of}
use Rattle.fw_port.proofs.memory.SourceMemory.new.Goals as goal

pub invariant_of-result : goal.invariant_of-result
invariant_of-result c =
    let layout = layout_of c.args.layout in
    record {
      is = record {
        placed = c.args.layout.is.placed;
        apart = ack_is_apart layout c.args.layout.is;
        other = ack_is_other layout c.args.layout.is;
        fits = zero_fits layout.ack;
        raised = search rules;
        few = search rules;
        made = search rules;
        awaited = search rules;
        planned = search rules;
      };
    }
