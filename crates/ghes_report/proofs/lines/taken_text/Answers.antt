-- A delivered block is well formed.
use Rattle.std.proofs.Common.{refl}
use Rattle.ghes_report.proofs.SoundLemmas.{sound_judges}
use Rattle.ghes_report.proofs.lines.taken_text.Goals as goal

pub add_report-requires : goal.add_report-requires
add_report-requires c =
    let sound = rw c.in-Delivered-default-default-default-New.is at c.requires in
    rw c.as_slice.ensures (sound_judges _ (sound refl))
