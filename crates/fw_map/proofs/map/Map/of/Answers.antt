use Rattle.std.proofs.Common.{[], ◌∙◌, ap, sym, subst}
use Rattle.std.specs.List.{AllByRecursion}
use Rattle.apei_hest.specs.Refusal.{enabled}
use Rattle.apei_hest.specs.Sound.{IsSound}
use Rattle.apei_hest.proofs.SoundLemmas.{accepted_sound}
use Rattle.fw_map.proofs.map.Map.of.Goals as goal

pub map_of-requires : goal.map_of-requires
map_of-requires c =
    subst (AllByRecursion IsSound) (sym (c.deref.ensures.value ∙ c.in_ok-sources.ensures ∙ ap enabled c.sources.ensures.list))
    (accepted_sound [] c.args.hest.now c.sources.ensures.accepted)
