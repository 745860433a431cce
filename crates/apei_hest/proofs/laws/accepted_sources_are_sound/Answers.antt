use Rattle.std.proofs.Common.{[]}
use Rattle.apei_hest.proofs.SoundLemmas.{accepted_distinct, accepted_few, accepted_sound}
use Rattle.apei_hest.proofs.laws.accepted_sources_are_sound.Goals as goal

pub returns-clause-distinct : goal.returns-clause-distinct
returns-clause-distinct c = accepted_distinct

pub returns-clause-few : goal.returns-clause-few
returns-clause-few c = accepted_few

pub returns-clause-sound : goal.returns-clause-sound
returns-clause-sound c = accepted_sound []
