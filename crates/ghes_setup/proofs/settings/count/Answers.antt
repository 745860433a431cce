use Rattle.std.proofs.Common.{◌≡◌, ◌∷◌, length, take, sym, ap, ◌∙◌, arith}
use Rattle.ghes_setup.proofs.FrontLemmas.{front_length, front_is, front_within, front_more, front_ends}
use Rattle.ghes_setup.proofs.settings.count.Goals as goal

pub loop-line-preserved : goal.loop-line-preserved
loop-line-preserved c =
    let rest : c.loop-line.rest.now ≡ c.in-Some.line.now ∷ c.in-Some.later.now = c.in-Some.ensures.cases.0 in
    let more = front_more c.in-Some.line.now c.in-Some.later.now (sym c.is_setting.ensures ∙ c.if-not-is_setting.false) in
    let longer : front_length c.loop-line.rest.now ≡ front_length (c.in-Some.line.now ∷ c.in-Some.later.now) = ap front_length rest in
    omega (arith, c.loop-line.invariant, more, longer)

pub overflow_add-passed : goal.overflow_add-passed
overflow_add-passed c =
    let rest : c.loop-line.rest.now ≡ c.in-Some.line.now ∷ c.in-Some.later.now = c.in-Some.ensures.cases.0 in
    let more = front_more c.in-Some.line.now c.in-Some.later.now (sym c.is_setting.ensures ∙ c.if-not-is_setting.false) in
    let longer : front_length c.loop-line.rest.now ≡ front_length (c.in-Some.line.now ∷ c.in-Some.later.now) = ap front_length rest in
    omega (arith, c.loop-line.invariant, more, longer, front_within c.args.lines.now)

pub returns-then-not-is_setting-clause-value : goal.returns-then-not-is_setting-clause-value
returns-then-not-is_setting-clause-value c =
    let rest : c.loop-line.rest.now ≡ c.in-Some.line.now ∷ c.in-Some.later.now = c.in-Some.ensures.cases.0 in
    let none = front_ends c.in-Some.line.now c.in-Some.later.now (sym c.is_setting.ensures ∙ c.if-not-is_setting.true) in
    let here : front_length c.loop-line.rest.now ≡ front_length (c.in-Some.line.now ∷ c.in-Some.later.now) = ap front_length rest in
    let all : c.loop-line.passed ≡ front_length c.args.lines.now = omega (arith, c.loop-line.invariant, none, here) in
    ap (λ n. take n c.args.lines.now) all ∙ front_is c.args.lines.now

pub returns-then-not-is_setting-clause-within : goal.returns-then-not-is_setting-clause-within
returns-then-not-is_setting-clause-within c =
    omega (arith, c.loop-line.invariant, front_within c.args.lines.now)

pub returns-clause-value : goal.returns-clause-value
returns-clause-value c =
    let none : length c.loop-line.rest.now ≡ 0 = c.in_default.ensures.cases in
    let all : c.loop-line.passed ≡ front_length c.args.lines.now = omega (arith, c.loop-line.invariant, front_within c.loop-line.rest.now, none) in
    ap (λ n. take n c.args.lines.now) all ∙ front_is c.args.lines.now

pub returns-clause-within : goal.returns-clause-within
returns-clause-within c = omega (arith, c.loop-line.invariant, front_within c.args.lines.now)
