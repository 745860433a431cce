use Rattle.std.proofs.Common.{sym, ◌∙◌, ap}
use Rattle.ghes_throttle.proofs.Adding.{adds_moves}
use Rattle.ghes_throttle.proofs.history.History.add.Goals as goal

pub compare_exchange-found-requires : goal.compare_exchange-found-requires
compare_exchange-found-requires c =
    let h = c.self.invariant in
    let seen = c.again-seen.ensures in
    let offer = c.plain-offer.ensures in
    let before = ap (λ m. m.book) c.before-2.view_is ∙ (c.requires ∙ sym c.self.view_is) in
    let pen = c.no_pen-pen.ensures in (
      ap (λ w. w.tracked) h,
      ap (λ s. s.book) seen ∙ before,
      pen.0 ∙ (ap (λ s. s.book) seen ∙ before),
      offer.0,
      rw (ap (λ w. w.key) h, pen.1, offer.1, offer.3) (adds_moves _ _ c.self.inside.top),
    )
