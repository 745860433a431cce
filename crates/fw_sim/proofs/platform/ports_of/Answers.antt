use Rattle.std.proofs.Common.{arith}
use Rattle.fw_sim.proofs.SoundLemmas.{ports_more}
use Rattle.fw_sim.proofs.platform.ports_of.Goals as goal

pub loop-place-preserved : goal.loop-place-preserved
loop-place-preserved c =
    ports_more c.loop-place.ports.items c.push.new.self.items c.in_ok-port_at.field-0 c.args.sources.now c.args.areas.now c.loop-place.place
    c.loop-place.invariant.0 c.loop-place.invariant.1 c.in_ok-port_at.ensures c.in_ok-push.ensures.items

pub returns : goal.returns
returns c =
    let long = c.loop-place.invariant.0 in
    record {
      as_many = omega arith;
      each = λ k none below. c.loop-place.invariant.1 k none (omega arith);
    }
