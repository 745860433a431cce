use Rattle.std.proofs.Common.{◌≡◌, ◌++◌, drop}
use Rattle.cper_text.specs.Bytes.{shown_text}
use Rattle.cper_text.proofs.bytes.shown_text.Given as goal

abbrev pub invariant-loop-byte : goal.invariant-loop-byte
invariant-loop-byte l =
    (l.text.added ++ shown_text (drop l.byte-index l.bytes) ≡ l.fn.text.added ++ shown_text l.bytes)
    × (l.text.front ≡ l.fn.text.front)
