use Rattle.std.proofs.Common.{◌≡◌, sym, subst, ◌∙◌}
use Rattle.ghes_throttle.specs.declared.shown.Shown.{Shown}
use Rattle.ghes_throttle.specs.Shown.{Precedes, ShowsItsList}
use Rattle.ghes_throttle.proofs.Ruling.{turns, precedes_self}
use Rattle.ghes_throttle.proofs.publishing.show_again.Goals as goal

pub publish_as-writer-requires : goal.publish_as-writer-requires
publish_as-writer-requires g c next is =
    let s = c.args.writer.desk.shown.value in
    let same : s ≡ next = sym (is ∙ c.requires s) in
    turns _ _ s next (subst (λ (y : Shown). Precedes s y) same (precedes_self s)) (λ shows. subst ShowsItsList same shows)
