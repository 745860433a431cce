use Rattle.std.proofs.Common.{◌+◌, sym, subst}
use Rattle.std.proofs.lemmas.List.{get_or_default}
use Rattle.fw_map.proofs.AreaLemmas.{Placing, placing_more, placing_stops}
use Rattle.fw_map.proofs.areas.source_areas.Goals as goal

pub returns-in-Err-clause-refused : goal.returns-in-Err-clause-refused
returns-in-Err-clause-refused c =
    placing_stops c.args.taken.now.items c.loop-ghes.taken.items c.args.sources.now c.loop-ghes.areas.items c.loop-ghes.ghes-index _ c.in-Err.error c.loop-ghes.invariant c.loop-ghes-test.true
    (λ none. get_or_default c.args.sources.now c.loop-ghes.ghes-index _ none c.loop-ghes-test.true) c.in-Err.ensures.refused

pub loop-ghes-preserved : goal.loop-ghes-preserved
loop-ghes-preserved c =
    subst (λ areas. Placing c.args.taken.now.items c.source_area.new.taken.items c.args.sources.now areas (c.loop-ghes.ghes-index + 1)) (sym c.in_ok-push-in-Ok.ensures.items)
    (placing_more c.args.taken.now.items c.loop-ghes.taken.items c.source_area.new.taken.items c.args.sources.now c.loop-ghes.areas.items c.loop-ghes.ghes-index _ c.in-Ok.area c.loop-ghes.invariant c.loop-ghes-test.true
    (λ none. get_or_default c.args.sources.now c.loop-ghes.ghes-index _ none c.loop-ghes-test.true) c.in-Ok.ensures.area c.source_area.ensures.sorted c.in-Ok.ensures.also)
