use Rattle.std.proofs.Common.{◌<◌, length, take, subst, refl, arith}
use Rattle.std.proofs.lemmas.List.{get_or_default, length-take}
use Rattle.fw_map.specs.Overlap.{IsFirstOf}
use Rattle.fw_map.proofs.OverlapLemmas.{apart_more, new_apart, none_before, found_clash, names_found}
use Rattle.fw_map.proofs.overlap.overlap.Goals as goal

pub returns-in-Some-clause-some : goal.returns-in-Some-clause-some
returns-in-Some-clause-some c =
    let found = subst (IsFirstOf (take c.min.result c.args.registers.now) _) c.in-Some.is c.first_clash.ensures in
    let short = found.0 in
    let below : c.in-Some.first < c.min.result = omega (arith, length-take c.min.result c.args.registers.now) in
    let within : c.in-Some.first < length c.args.registers.now = omega (arith, length-take c.min.result c.args.registers.now) in (
      c.in-Some.first,
      c.loop-place.place,
      found_clash c.args.registers.now c.loop-place.place c.args.sources c.min.result c.in-Some.first _ c.min.ensures c.loop-place-test.true
          (λ none. get_or_default c.args.registers.now c.loop-place.place _ none c.loop-place-test.true) c.loop-place.invariant found,
      λ none. names_found c.args.registers.now c.loop-place.place c.min.result c.in-Some.first _ _ none c.overlap_of.result below within c.loop-place-test.true
          (get_or_default (take c.min.result c.args.registers.now) c.in-Some.first _ _ short)
          (get_or_default c.args.registers.now c.loop-place.place _ _ c.loop-place-test.true) c.overlap_of.ensures,
    )

pub loop-place-preserved : goal.loop-place-preserved
loop-place-preserved c =
    apart_more c.args.registers.now c.loop-place.place c.loop-place.invariant
    (new_apart c.args.registers.now c.args.sources c.loop-place.place c.loop-place-test.true c.requires
    (none_before c.args.registers.now c.loop-place.place c.args.sources c.min.result c.loop-place.place _ c.min.ensures refl c.loop-place-test.true
    (λ none. get_or_default c.args.registers.now c.loop-place.place _ none c.loop-place-test.true)
    (subst (IsFirstOf (take c.min.result c.args.registers.now) _) c.in_default.is c.first_clash.ensures)))
