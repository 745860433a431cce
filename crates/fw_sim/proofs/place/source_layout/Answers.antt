use Rattle.fw_sim.specs.Layout.{layout_from}
use Rattle.fw_sim.proofs.place.source_layout.Goals as goal

pub invariant_of-result : goal.invariant_of-result
invariant_of-result c = record {
  is = layout_from c.args.ghes.now c.args.area.now c.region_of-status.result c.ack_region-ack.result c.requires.sound c.requires.apart
      c.region_of-status.ensures.reach c.region_of-status.ensures.ends c.ack_region-ack.ensures.reach c.ack_region-ack.ensures.ends;
}
