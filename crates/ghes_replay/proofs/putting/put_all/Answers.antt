-- What was put so far, and the next piece.
use Rattle.std.proofs.Common.{◌≡◌, ◌++◌, sym, ap, ◌∙◌, arith, append_assoc}
use Rattle.std.proofs.lemmas.List.{take-append-drop}
use Rattle.ghes_replay.proofs.PutLemmas.{appends_both, front_of_text, on_err}
use Rattle.ghes_replay.proofs.putting.put_all.Goals as goal

pub returns-in_err-put-clause-err : goal.returns-in_err-put-clause-err
returns-in_err-put-clause-err g c =
    let piece = c.split_at.result.0.now in
    let after = c.split_at.result.1.now in
    let cut : c.loop-rest.rest.now ≡ piece ++ after = rw (c.split_at.ensures.front, c.split_at.ensures.back) (sym (take-append-drop c.min.result c.loop-rest.rest.now)) in
    on_err c.from_residual.result (front_of_text _ _ _ c.args.text.now c.loop-rest.invariant.0 piece after
    (c.loop-rest.invariant.1 ∙ ap (λ xs. c.loop-rest.invariant.0 ++ xs) cut) c.loop-rest.invariant.2 c.in_err-put.ensures.err)

pub loop-rest-preserved : goal.loop-rest-preserved
loop-rest-preserved g c =
    let done = c.loop-rest.invariant.0 in
    let piece = c.split_at.result.0.now in
    let after = c.split_at.result.1.now in
    let cut : c.loop-rest.rest.now ≡ piece ++ after = rw (c.split_at.ensures.front, c.split_at.ensures.back) (sym (take-append-drop c.min.result c.loop-rest.rest.now)) in (
      done ++ piece,
      c.loop-rest.invariant.1 ∙ ap (λ xs. done ++ xs) cut ∙ sym (append_assoc done piece after),
      appends_both _ _ _ done piece c.loop-rest.invariant.2 c.in_ok-put.ensures.ok,
      omega (arith, c.loop-rest.invariant.3),
    )
