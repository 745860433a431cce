use Rattle.cper_text.proofs.OwnBytes.{block_text-append}
use Rattle.cper_text.proofs.laws.bytes_behind_a_block_are_not_printed.Goals as goal

pub returns : goal.returns
returns c = block_text-append
