use Rattle.std.proofs.Common.{sym, None, arith}
use Rattle.cper_block.proofs.ReasonLemmas.{reason_is_judgement}
use Rattle.cper_block.specs.Block.{largest_block}
use Rattle.fw_einj.specs.Block.{block_of}
use Rattle.fw_einj.proofs.BlockLemmas.{block_reason-none, block_status-some, length-block, block-short}
use Rattle.fw_einj.proofs.laws.an_injected_block_is_well_formed.Goals as goal

pub returns-clause-judged : goal.returns-clause-judged
returns-clause-judged c = λ injection. reason_is_judgement (block_of injection) largest_block None (sym (block_reason-none injection))

pub returns-clause-raised : goal.returns-clause-raised
returns-clause-raised c = λ injection.
    let is = length-block injection in
    record { whole = omega arith; stands = block_status-some injection }

pub returns-clause-short : goal.returns-clause-short
returns-clause-short c = block-short
