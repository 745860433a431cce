use Rattle.std.proofs.Common.{rules, ◌∙◌, All, sym, subst, ap, List}
use Rattle.std.proofs.lemmas.List.Elements.{All-push}
use Rattle.ghes_throttle.specs.Shown.{Known, Knows}
use Rattle.ghes_throttle.proofs.writer.ThrottleWriter.readers.Goals as goal

pub loop-preserved : goal.loop-preserved
loop-preserved c =
    let old = c.args.self.now in
    let same = c.loop.invariant.same in
    let k = c.in_ok-reader.ensures.seen in
    let knows : Knows old.book old.list c.in_ok-reader.field-0 = (k.0 ∙ ap (λ w. w.book) same, k.1 ∙ ap (λ w. w.list) same) in
    record {
      same = c.reader.ensures.same ∙ same;
      count = search rules;
      seen = subst (λ (rs : List Known). All (Knows old.book old.list) rs) (sym c.in_ok-push.ensures.items) (All-push (Knows old.book old.list) c.loop.all.items c.in_ok-reader.field-0 c.loop.invariant.seen knows);
    }
