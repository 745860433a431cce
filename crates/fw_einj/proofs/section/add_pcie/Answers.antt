use Rattle.std.proofs.Common.{[], ◌∷◌, refl, ap, ap₂, ◌∙◌}
use Rattle.std.proofs.lemmas.Result.{on_ok_weaker}
use Rattle.byteorder.specs.Endian.{little_bytes}
use Rattle.fw_einj.specs.Section.{function_of, device_of, bus_of, segment_of}
use Rattle.fw_einj.proofs.AddedLemmas.{adds}
use Rattle.fw_einj.proofs.section.add_pcie.Goals as goal

pub returns : goal.returns
returns c = on_ok_weaker c.add-4.result
    (λ last.
    adds _ _ _ (ap (little_bytes 8) c.pcie_validation.ensures) c.in_ok-add_u64.ensures
    (adds _ _ _ refl c.in_ok-add.ensures
    (adds _ _ _ (ap₂ (λ function device. function ∷ device ∷ []) (c.function_of.ensures ∙ ap function_of c.pcie_word-word.ensures)
    (c.device_of.ensures ∙ ap device_of c.pcie_word-word.ensures)) c.in_ok-add-2.ensures
    (adds _ _ _ (ap (little_bytes 2) (c.segment_of.ensures ∙ ap segment_of c.pcie_word-word.ensures)) c.in_ok-add_u16.ensures
    (adds _ _ _ (ap (λ bus. bus ∷ []) (c.bus_of.ensures ∙ ap bus_of c.pcie_word-word.ensures)) c.in_ok-add-3.ensures last)))))
    c.add-4.ensures
