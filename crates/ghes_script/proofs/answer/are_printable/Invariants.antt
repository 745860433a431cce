use Rattle.std.proofs.Common.{◌≡◌, ◌&&◌, drop}
use Rattle.std.specs.List.{list_all}
use Rattle.ghes_script.specs.Answer.{is_printable}
use Rattle.ghes_script.proofs.answer.are_printable.Given as goal

-- the bytes so far are good, and so are those to come, exactly where all are
abbrev pub invariant-loop-byte : goal.invariant-loop-byte
invariant-loop-byte l = (l.good && list_all is_printable (drop l.byte-index l.text)) ≡ list_all is_printable l.text
