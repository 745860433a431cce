-- One more entry lies before the rest.
use Rattle.std.proofs.Common.{◌++◌, [], ◌∷◌, take, arith}
use Rattle.std.proofs.lemmas.List.{length_push, length-drop}
use Rattle.cper_block.specs.Entry.{entry_length}
use Rattle.cper_block.proofs.EntryLemmas.{entry_at_least}
use Rattle.cper_block.proofs.CutLemmas.{cuts_more}
use Rattle.cper_block.proofs.block.walk.Goals as goal

pub loop-length-preserved : goal.loop-length-preserved
loop-length-preserved c =
    let entries = c.loop-length.invariant.0 in
    let rest = c.loop-length.rest.now in
    let found = c.in-Some.ensures.found in
    let long = c.in-Some.ensures.long in
    let within = c.in-Some.ensures.within in
    let more = entry_at_least rest in
    let count = length_push entries (take (entry_length rest) rest) in
    rw (c.split_at.ensures.back, found) (
      entries ++ take (entry_length rest) rest ∷ [],
      cuts_more c.args.bytes.now entries rest long more (omega arith) c.loop-length.invariant.1,
      omega (arith, count, c.loop-length.invariant.2),
      omega (arith, length-drop (entry_length rest) rest, c.loop-length.invariant.3),
    )
