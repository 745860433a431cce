-- The characters so far and those to come are all, and from a 0 on none come.
use Rattle.std.proofs.Common.{◌++◌, ◌∷◌, [], append-nil, append_assoc, ap, sym, ◌∙◌, get_or, drop, ◌+◌}
use Rattle.std.proofs.lemmas.Bool.{ne_eqb}
use Rattle.cper_text.specs.Bytes.{shown_text}
use Rattle.cper_text.proofs.ShownLemmas.{shown_text-end, shown_text-more, shown_text-none}
use Rattle.cper_text.proofs.bytes.shown_text.Goals as goal

pub returns-then-byte-eq0-clause-ok : goal.returns-then-byte-eq0-clause-ok
returns-then-byte-eq0-clause-ok c =
    let none = shown_text-end c.args.bytes.now c.loop-byte.byte-index c.loop-byte-test.true c.if-byte-eq0.true in
    sym (append-nil _) ∙ ap (λ xs. c.loop-byte.text.added ++ xs) (sym none) ∙ c.loop-byte.invariant.0

pub loop-byte-preserved : goal.loop-byte-preserved
loop-byte-preserved c =
    let bytes = c.args.bytes.now in
    let i = c.loop-byte.byte-index in
    let before = c.loop-byte.text.added in
    let later = shown_text (drop (i + 1) bytes) in
    let more = shown_text-more bytes i c.loop-byte-test.true (ne_eqb (get_or bytes i 0) 0 c.if-byte-eq0.false) in (
      ap (λ xs. xs ++ later) c.in_ok-put.ensures.ok ∙ append_assoc before (c.shown.result ∷ []) later
          ∙ ap (λ byte. before ++ byte ∷ later) c.shown.ensures ∙ ap (λ xs. before ++ xs) (sym more) ∙ c.loop-byte.invariant.0,
      c.in_ok-put.ensures.front ∙ c.loop-byte.invariant.1,
    )

pub returns-clause-ok : goal.returns-clause-ok
returns-clause-ok c =
    let none = shown_text-none c.args.bytes.now c.loop-byte.byte-index c.loop-byte-test.false in
    sym (append-nil _) ∙ ap (λ xs. c.loop-byte.text.added ++ xs) (sym none) ∙ c.loop-byte.invariant.0
