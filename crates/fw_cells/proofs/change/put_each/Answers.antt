use Rattle.std.proofs.Common.{◌≡◌, ◌+◌, [], ◌∷◌, ◌∙◌, sym, subst, arith}
use Rattle.apei_base.specs.Firmware.{shown}
use Rattle.fw_cells.specs.Changes.{AreSame, with_bytes_at}
use Rattle.fw_cells.specs.Runs.{cells_of}
use Rattle.fw_cells.proofs.ShownLemmas.{get_or-shown}
use Rattle.fw_cells.proofs.ChangeLemmas.{front_steps}
use Rattle.fw_cells.proofs.change.put_each.Goals as goal

pub loop-step-preserved : goal.loop-step-preserved
loop-step-preserved c =
    let from : c.from.result ≡ c.args.first = omega arith in
    let now = subst (λ at. AreSame (cells_of c.put_byte.new.runs.items) (with_bytes_at (cells_of c.loop-step.runs.items) c.args.space (at + c.loop-step.step) (c.byte_or_zero-byte.result ∷ []))) from c.put_byte.ensures.put in
    record {
      order = c.put_byte.ensures.order;
      put = front_steps (cells_of c.args.runs.now.items) (cells_of c.loop-step.runs.items) (cells_of c.put_byte.new.runs.items) c.args.space c.args.first
          c.loop-step.step c.byte_or_zero-byte.result (shown 0 c.args.room c.args.block.now)
          (c.byte_or_zero-byte.ensures ∙ sym (get_or-shown c.args.room c.args.block.now c.loop-step.step (omega arith)))
          c.loop-step.invariant.put now;
    }
