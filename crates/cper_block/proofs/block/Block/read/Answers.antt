-- The front has no reason, and the entries decide.
use Rattle.std.proofs.Common.{◌≡◌, sym, ap, None}
use Rattle.cper_block.specs.Block.{Parts, data_of}
use Rattle.cper_block.proofs.BlockLemmas.{judged_by_walk}
use Rattle.cper_block.proofs.block.Block.read.Goals as goal

pub returns-clause-judged : goal.returns-clause-judged
returns-clause-judged c =
    let inside = ap (λ (parts : Parts). parts.entry_bytes) c.block.view_is in
    let same : c.block.inside.entry_bytes.now ≡ data_of c.args.bytes.now = cc (inside, c.parts-block.ensures.entry_bytes) in
    judged_by_walk c.args.bytes.now c.args.limit c.at-header.result c.min-at_hand.result c.block.inside.entry_bytes.now None
    c.if-bytes-lt-HEADER_SIZE.false c.at-header.ensures c.min-at_hand.ensures (sym c.in_ok-_length.ensures.err) same
    c.in_ok-walk.ensures
