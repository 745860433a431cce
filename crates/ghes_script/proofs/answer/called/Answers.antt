-- The line calls for the source that was found.
use Rattle.std.proofs.Common.{◌++◌, codes, Some, refl, sym, arith}
use Rattle.std.proofs.lemmas.Bool.Decides.{Decides-eqb}
use Rattle.std.proofs.lemmas.Slice.Eq.{strip_prefix_is}
use Rattle.ghes_script.proofs.CalledLemmas.{calls, called_cut}
use Rattle.ghes_script.proofs.answer.called.Goals as goal

pub returns : goal.returns
returns c = λ sofar.
    let bytes = c.args.bytes.now in
    let word = c.cut_near.result.0.now in
    let behind = c.in_ok-behind.behind in
    let prefix = strip_prefix_is Decides-eqb bytes (codes "nmi ") (Some behind) c.in_ok-behind.ensures.cases in
    record {
      text = codes "nmi " ++ word;
      cut = called_cut bytes behind.now word c.cut_near.result.1.now prefix c.cut_near.ensures;
      is = sym (calls c.args.setup.now (codes "nmi " ++ word) word c.in_ok-id.id c.in_ok-found.found (omega arith) refl (sym c.in_ok-id.ensures) (sym c.in_ok-found.ensures) sofar);
    }
