-- A block without a reason is well formed.
use Rattle.ghes_report.proofs.SoundLemmas.{sound_judges}
use Rattle.ghes_report.proofs.panic.entry_text.Goals as goal

pub add_block-requires : goal.add_block-requires
add_block-requires c = rw c.as_slice-in-None.ensures (sound_judges _ (c.requires c.in-None.is))
