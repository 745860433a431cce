-- The line of the reason, where the bytes are no block.
use Rattle.std.proofs.Common.{rules, refl, Some}
use Rattle.ghes_replay.proofs.decode.print_block.Goals as goal

pub returns-in_ok-malformed_line-in-Err : goal.returns-in_ok-malformed_line-in-Err
returns-in_ok-malformed_line-in-Err c =
    record { found = (refl, (Some c.in-Err.reason, c.in-Err.ensures.judged, search rules)); refused = tt }
