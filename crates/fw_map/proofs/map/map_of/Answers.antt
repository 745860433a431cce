use Rattle.std.proofs.Common.{option_copied, subst}
use Rattle.fw_map.specs.Registers.{runs_of, entries_of, injection_registers}
use Rattle.fw_map.specs.Taken.{TakeSame}
use Rattle.fw_map.proofs.MapLemmas.{refused_areas, map_is, areas_same}
use Rattle.fw_map.proofs.ApartLemmas.{all_told_apart}
use Rattle.fw_map.proofs.map.map_of.Goals as goal

pub returns-in-Err-source_areas-clause-refused : goal.returns-in-Err-source_areas-clause-refused
returns-in-Err-source_areas-clause-refused c =
    refused_areas c.args.sources.now (option_copied c.args.einj) c.in-Ok.registers.items c.in_ok-taken.taken.items c.in-Err-source_areas.error c.in-Ok.ensures.found c.in-Ok.ensures.apart
    (subst (λ registers. TakeSame c.in_ok-taken.taken.items (runs_of registers)) c.deref.ensures.value c.in_ok-taken.ensures.same) c.in-Err-source_areas.ensures.refused

pub returns-clause-found : goal.returns-clause-found
returns-clause-found c =
    map_is c.args.sources.now (option_copied c.args.einj) _ c.in_ok-taken.taken.items c.source_areas.new.taken.items c.in-Ok.ensures.found c.in-Ok.ensures.apart
    (subst (λ registers. TakeSame c.in_ok-taken.taken.items (runs_of registers)) c.deref.ensures.value c.in_ok-taken.ensures.same)
    c.in-Ok-source_areas.ensures.found c.in-Ok-source_areas.ensures.also c.in_ok-trigger_of.ensures

pub returns-clause-apart : goal.returns-clause-apart
returns-clause-apart c =
    let same = subst (λ registers. TakeSame c.in_ok-taken.taken.items (runs_of registers)) c.deref.ensures.value c.in_ok-taken.ensures.same in
    all_told_apart c.args.sources.now (injection_registers (entries_of (option_copied c.args.einj))) c.in-Ok.registers.items c.in-Ok-source_areas.areas.items c.requires
    c.in-Ok.ensures.found c.in-Ok.ensures.apart
    (areas_same c.in_ok-taken.taken.items (runs_of c.in-Ok.registers.items) c.args.sources.now c.in-Ok-source_areas.areas.items same c.in-Ok-source_areas.ensures.found)
