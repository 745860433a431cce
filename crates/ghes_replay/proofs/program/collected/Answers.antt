-- What is collected are the items of the iterator.
use Rattle.std.proofs.Common.{String, Global, Vec, Result, Ok, refl}
use Rattle.std.proofs.lemmas.Iterator.{items_from_collect}
use Rattle.std.proofs.lemmas.Iterator.Adapters.{YieldsList-from_vec}
use Rattle.std.specs.Vec.Iter.{into_iter_items}
use Rattle.ghes_replay.specs.declared.exit.Refusal.{Refusal}
use Rattle.ghes_replay.proofs.program.collected.Goals as goal

pub returns-in-Ok : goal.returns-in-Ok
returns-in-Ok c =
    let yields = YieldsList-from_vec {A = String Global} {Z = Global} {s = c.args.args} (into_iter_items c.args.args) refl c.args.args.rest.ok.0 in
    let result : Result (Vec (String Global) Global) Refusal = Ok c.in-Ok.all in
    items_from_collect result c.in-Ok.ensures.ran yields
