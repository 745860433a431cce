use Rattle.std.proofs.Common.{◌≡◌, ◌∙◌, ◌<◌, ℕ, List, ◌∷◌, length, sym, subst}
use Rattle.std.proofs.lemmas.List.Elements.{All-rest}
use Rattle.ghes_notify.specs.declared.handler.Verdict.TheVariants.{Go}
use Rattle.ghes_notify.specs.declared.order.Rank.{Rank}
use Rattle.ghes_notify.specs.Delivery.{delivery_of, Delivers, IsWithin}
use Rattle.ghes_notify.proofs.deliver.deliver.Goals as goal

pub loop-rank-preserved : goal.loop-rank-preserved
loop-rank-preserved g c =
    let old = c.loop-rank.handlers in
    let given = c.notify_at.new.handlers in
    let rank = c.in-Some.rank.now in
    let tail = c.in-Some.tail.now in
    let first : c.loop-rank.rest.now ≡ rank ∷ tail = c.in-Some.ensures.cases.0 in
    let d = delivery_of c.args.source c.args.seq c.args.block.now in
    record {
      within = subst (λ (n : ℕ). IsWithin n tail) (sym c.notify_at.ensures.len) (All-rest (λ (r : Rank). r.place < length old) rank tail c.loop-rank.rest.now first c.loop-rank.invariant.within);
      len = c.notify_at.ensures.len ∙ c.loop-rank.invariant.len;
      goes = λ new result rest.
          c.loop-rank.invariant.goes new result
          (subst (λ (ranks : List Rank). Delivers g.H.Handler.stands g.H.Handler.answers d ranks old new result) (sym first) (Go, given, c.in-Go.ensures.given, rest));
    }
