use Rattle.apei_hest.proofs.SoundLemmas.{judged_distinct, judged_few, judged_sound}
use Rattle.apei_hest.proofs.laws.an_accepted_table_has_sound_sources.Goals as goal

pub returns-clause-distinct : goal.returns-clause-distinct
returns-clause-distinct c = judged_distinct

pub returns-clause-few : goal.returns-clause-few
returns-clause-few c = judged_few

pub returns-clause-sound : goal.returns-clause-sound
returns-clause-sound c = judged_sound
