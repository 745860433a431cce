use Rattle.std.proofs.Common.{◌≡◌, [], ◌∷◌, subst, arith}
use Rattle.std.proofs.lemmas.Bool.{OnTrue_at}
use Rattle.fw_cells.specs.Runs.{cells_of, HasCellAt}
use Rattle.fw_cells.specs.Changes.{AreSame, with_bytes_at}
use Rattle.fw_cells.proofs.ChangeLemmas.{put_order, put_cells}
use Rattle.fw_cells.proofs.change.put_byte.Goals as goal

pub returns-in-Some-clause-order : goal.returns-in-Some-clause-order
returns-in-Some-clause-order c =
    let had = subst (λ runs. HasCellAt runs c.args.space c.in-Ok.address c.in-Some.place) c.as_slice.ensures.value c.in-Some.ensures.found in
    put_order c.args.runs.now.items c.put_at.new.runs.items c.in-Some.place c.args.space c.in-Ok.address (c.args.byte ∷ []) c.requires had
    (OnTrue_at (c.put_at.ensures.one (omega arith)) c.put_at.ensures.put)

pub returns-in-Some-clause-put : goal.returns-in-Some-clause-put
returns-in-Some-clause-put c =
    let had = subst (λ runs. HasCellAt runs c.args.space c.in-Ok.address c.in-Some.place) c.as_slice.ensures.value c.in-Some.ensures.found in
    let put = put_cells c.args.runs.now.items c.put_at.new.runs.items c.in-Some.place c.args.space c.in-Ok.address (c.args.byte ∷ []) c.requires had
    (OnTrue_at (c.put_at.ensures.one (omega arith)) c.put_at.ensures.put) in
    let same : c.in-Ok.address ≡ c.args.at = omega (arith, c.in-Ok.ensures) in
    subst (λ at. AreSame (cells_of c.put_at.new.runs.items) (with_bytes_at (cells_of c.args.runs.now.items) c.args.space at (c.args.byte ∷ []))) same put
