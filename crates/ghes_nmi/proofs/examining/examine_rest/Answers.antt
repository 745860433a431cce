use Rattle.std.proofs.Common.{rules, ◌≡◌, ◌∙◌, ap, true, false, None}
use Rattle.cper_block.proofs.ReasonLemmas.{judgement_is_reason}
use Rattle.cper_block.specs.Image.{is_fatal}
use Rattle.ghes_nmi.specs.Steps.{says}
use Rattle.ghes_nmi.proofs.examining.examine_rest.Goals as goal

pub returns-in-Err : goal.returns-in-Err
returns-in-Err c limit accepted =
    let reason = judgement_is_reason c.args.image.now limit _ (c.in-Err.ensures limit accepted) in
    ap (λ r. says r (is_fatal c.args.image.now)) reason

pub returns-in-Ok : goal.returns-in-Ok
returns-in-Ok c limit accepted =
    let reason = judgement_is_reason c.args.image.now limit None (c.in-Ok.ensures limit accepted) in
    let fatal : true ≡ is_fatal c.args.image.now = search rules in
    ap (λ f. says None f) fatal ∙ ap (λ r. says r (is_fatal c.args.image.now)) reason

pub returns-in-Ok-2 : goal.returns-in-Ok-2
returns-in-Ok-2 c limit accepted =
    let reason = judgement_is_reason c.args.image.now limit None (c.in-Ok-2.ensures limit accepted) in
    let news : false ≡ is_fatal c.args.image.now = search rules in
    ap (λ f. says None f) news ∙ ap (λ r. says r (is_fatal c.args.image.now)) reason
