use Rattle.std.proofs.Common.{◌≡◌, ◌∙◌, sym, ap, List, length, subst}
use mathlib.Core.List.{IsPrefix}
use Rattle.ghes_throttle.specs.declared.report.Version.{Version}
use Rattle.ghes_throttle.specs.History.{newest}
use Rattle.ghes_throttle.proofs.Lists.{prefix_same}
use Rattle.ghes_throttle.proofs.history.Mark.agree.Goals as goal

pub returns : goal.returns
returns c same =
    let mine = c.self.inside.seen.log in
    let other = c.other.inside.seen.log in
    let both = c.learn.new.self.log in
    let this : IsPrefix mine both = subst (λ (l : List Version). IsPrefix l both) (ap (λ s. s.log) c.again-both.ensures) c.learn.ensures.2 in
    let equal : length mine ≡ length other = sym c.self.invariant ∙ ((ap (λ m. m.number) c.self.view_is ∙ (same ∙ sym (ap (λ m. m.number) c.other.view_is))) ∙ c.other.invariant) in
    sym (ap (λ m. m.list) c.self.view_is) ∙ (ap newest (prefix_same mine other both this c.learn.ensures.3 equal) ∙ ap (λ m. m.list) c.other.view_is)
