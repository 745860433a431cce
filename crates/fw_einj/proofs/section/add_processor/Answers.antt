use Rattle.std.proofs.Common.{refl, ap}
use Rattle.std.proofs.lemmas.Result.{on_ok_weaker}
use Rattle.byteorder.specs.Endian.{little_bytes}
use Rattle.fw_einj.proofs.AddedLemmas.{adds}
use Rattle.fw_einj.proofs.section.add_processor.Goals as goal

pub returns : goal.returns
returns c = on_ok_weaker c.add-2.result
    (λ last.
    adds _ _ _ (ap (little_bytes 8) c.processor_validation.ensures) c.in_ok-add_u64.ensures
    (adds _ _ _ refl c.in_ok-add.ensures
    (adds _ _ _ (ap (little_bytes 8) c.processor_id.ensures) c.in_ok-add_u64-2.ensures last)))
    c.add-2.ensures
