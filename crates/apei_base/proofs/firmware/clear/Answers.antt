use Rattle.std.proofs.Common.{◌≡◌, ◌%◌, ◌^◌, ◌∙◌, subst}
use Rattle.std.proofs.Math.Nat.{zero-mod}
use Rattle.apei_base.specs.Bus.{Access, Writes, reach_of}
use Rattle.apei_base.specs.Firmware.{block_status}
use Rattle.apei_base.proofs.FirmwareLemmas.{reach_from_parts, clear_leaves, on_ok, on_err}
use Rattle.apei_base.proofs.firmware.clear.Goals as goal

pub returns-clause-access : goal.returns-clause-access
returns-clause-access g c =
    let layout = (g.P.Firmware.seen c.args.port.now).layout in
    let here : reach_of c.memory.result ≡ block_status layout =
    reach_from_parts (reach_of c.memory.result) (block_status layout) c.memory.ensures.space
    (c.memory.ensures.address ∙ c.requires.at) c.memory.ensures.width in
    let zero : 0 % 2 ^ c.memory.result.width ≡ 0 = zero-mod _ in
    let same : Writes (reach_of c.memory.result) (0 % 2 ^ c.memory.result.width) ≡ Writes (block_status layout) 0 = cc (here, zero) in
    record {
      ok = on_ok c.write.result _ _ (subst (λ (access : Access). g.P.Bus.step (g.P.Bus.state c.args.port.now) access (g.P.Bus.state c.write.new.self)) same) c.write.ensures.access.ok;
      err = c.write.ensures.access.err;
    }

pub returns-clause-ok : goal.returns-clause-ok
returns-clause-ok g c =
    let seen = g.P.Firmware.seen c.args.port.now in
    let here : reach_of c.memory.result ≡ block_status seen.layout =
    reach_from_parts (reach_of c.memory.result) (block_status seen.layout) c.memory.ensures.space
    (c.memory.ensures.address ∙ c.requires.at) c.memory.ensures.width in
    on_ok c.write.result _ _
    (λ steps. (g.met.P.Firmware.moves _ _ _ steps).1 ∙ clear_leaves seen (reach_of c.memory.result) (0 % 2 ^ c.memory.result.width) here (zero-mod _) c.requires.stands) c.write.ensures.access.ok

pub returns-clause-err : goal.returns-clause-err
returns-clause-err g c = on_err c.write.result _ _ (λ same. g.met.P.Firmware.same c.write.new.self c.args.port.now same) c.write.ensures.access.err
