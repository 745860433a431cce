use Rattle.std.proofs.Common.{[], ◌∷◌, refl, ap}
use Rattle.std.proofs.lemmas.Result.{on_ok_weaker}
use Rattle.byteorder.specs.Endian.{little_bytes}
use Rattle.fw_einj.proofs.AddedLemmas.{adds}
use Rattle.fw_einj.proofs.block.add_entry.Goals as goal

pub returns : goal.returns
returns c = on_ok_weaker c.add-3.result
    (λ last.
    adds _ _ _ c.guid.ensures c.in_ok-add.ensures
    (adds _ _ _ (ap (little_bytes 4) c.severity.ensures) c.in_ok-add_u32.ensures
    (adds _ (little_bytes 2 0x0201) _ refl c.in_ok-add_u16.ensures
    (adds _ (0 ∷ 0 ∷ []) _ refl c.in_ok-add-2.ensures
    (adds _ _ _ (ap (little_bytes 4) c.section_length.ensures) c.in_ok-add_u32-2.ensures last)))))
    c.add-3.ensures
