-- One more structure lies before the rest, or the walk stops at it.
use Rattle.std.proofs.Common.{◌≡◌, ◌<◌, ◌+◌, ◌-◌, ◌++◌, ◌∷◌, [], None, length, drop, take, arith, sym, ap, ◌∙◌}
use Rattle.std.proofs.lemmas.List.{length-drop}
use Rattle.std.proofs.lemmas.Result.{err_from_is_err_and}
use Rattle.apei_base.specs.Cut.{joined}
use Rattle.apei_hest.specs.Source.{source_of}
use Rattle.apei_hest.specs.Refusal.{source_refusal}
use Rattle.apei_hest.proofs.StructureLemmas.{structure_at_least, front_is_structure}
use Rattle.apei_hest.proofs.WalkLemmas.{walked_more, walked_offset, stops, refusal_of_source}
use Rattle.apei_hest.proofs.hest.walk.Goals as goal

pub read-requires-clause-whole : goal.read-requires-clause-whole
read-requires-clause-whole c =
    rw c.split_at-in-loop-rest.ensures.front
    (front_is_structure c.loop-rest.rest.now c.in_ok-whole_length.field-0 c.in_ok-whole_length.ensures.found c.in_ok-whole_length.ensures.within)

pub returns-in_err-admitted-clause-refused : goal.returns-in_err-admitted-clause-refused
returns-in_err-admitted-clause-refused c =
    let structures = c.loop-rest.invariant.0 in
    let rest = c.loop-rest.rest.now in
    let before = c.loop-rest.admitted in
    let n = c.in_ok-whole_length.field-0 in
    let at = length c.args.bytes.now - length rest in
    let source : c.read.result ≡ source_of (take n rest) at = c.read.ensures ∙ ap (λ xs. source_of xs at) c.split_at-in-loop-rest.ensures.front in
    let more = structure_at_least rest n c.in_ok-whole_length.ensures.found in
    let left : 0 < length rest = omega (arith, c.in_ok-whole_length.ensures.within) in
    let exit = err_from_is_err_and c.from_residual-in_err-admitted.result c.from_residual-in_err-admitted.ensures.1 in
    rw (exit.1, exit.2) (λ other. stops c.args.bytes.now structures rest before _ c.requires.counted c.loop-rest.invariant.1 left
    (refusal_of_source before at rest n (sym c.in_ok-whole_length.ensures.err) c.in_ok-whole_length.ensures.found ∙ ap (source_refusal before) (sym source) ∙ c.in_err-admitted.ensures.refused other))

pub loop-rest-smaller : goal.loop-rest-smaller
loop-rest-smaller c =
    let more = structure_at_least c.loop-rest.rest.now c.in_ok-whole_length.field-0 c.in_ok-whole_length.ensures.found in
    omega (arith, length-drop c.in_ok-whole_length.field-0 c.loop-rest.rest.now, ap length c.split_at-in-loop-rest.ensures.back, c.in_ok-whole_length.ensures.within)

pub loop-rest-preserved : goal.loop-rest-preserved
loop-rest-preserved c =
    let structures = c.loop-rest.invariant.0 in
    let rest = c.loop-rest.rest.now in
    let before = c.loop-rest.admitted in
    let n = c.in_ok-whole_length.field-0 in
    let walked = c.loop-rest.invariant.1 in
    let at = walked_offset c.args.bytes.now structures rest before c.requires.counted walked in
    let source : c.read.result ≡ source_of (take n rest) (40 + length (joined structures)) =
    c.read.ensures ∙ ap (λ xs. source_of xs (length c.args.bytes.now - length rest)) c.split_at-in-loop-rest.ensures.front ∙ ap (source_of (take n rest)) at in
    let accepted : source_refusal before (source_of (take n rest) (40 + length (joined structures))) ≡ None =
    ap (source_refusal before) (sym source) ∙ c.in_ok-admitted.ensures.accepted in
    let after : c.in_ok-admitted.admitted ≡ before ++ source_of (take n rest) (40 + length (joined structures)) ∷ [] =
    c.in_ok-admitted.ensures.found ∙ ap (λ s. before ++ s ∷ []) source in
    rw (c.split_at-in-loop-rest.ensures.back, after) (
      structures ++ take n rest ∷ [],
      walked_more (drop 40 c.args.bytes.now) structures rest before n c.in_ok-whole_length.ensures.found c.in_ok-whole_length.ensures.within accepted walked,
    )
