use Rattle.std.proofs.Common.{◌≡◌, [], ◌∷◌, ◌++◌, drop, fold, sym, ap, subst, ◌∙◌}
use Rattle.ghes_throttle.specs.declared.shown.Shown.{Shown}
use Rattle.ghes_throttle.specs.declared.shown.Change.TheVariants.{Put}
use Rattle.ghes_throttle.specs.Shown.{changed, Precedes, ShowsItsList}
use Rattle.ghes_throttle.proofs.Ruling.{turns, line_goes, line_shows}
use Rattle.ghes_throttle.proofs.publishing.show.Goals as goal

pub publish_as-writer-requires : goal.publish_as-writer-requires
publish_as-writer-requires g c next is =
    let desk = c.in-Ok.ensures.desk in
    let s = c.args.writer.desk.shown.value in
    let l = c.args.line in
    let all : drop c.append.new.self.behind c.append.new.self.log.items ≡ Put l ∷ [] = c.in-Ok.ensures.pending ∙ ap (λ ops. ops ++ Put l ∷ []) c.requires.pending in
    let same = ap (λ d. d.shown.value) desk in
    let after : next ≡ changed s (Put l) = is ∙ (ap (λ ops. fold changed c.append.new.self.desk.shown.value ops) all ∙ ap (λ z. changed z (Put l)) same) in
    turns _ _ _ next
    (subst (λ (y : Shown). Precedes c.append.new.self.desk.shown.value y) (sym after) (subst (λ (z : Shown). Precedes z (changed s (Put l))) (sym same) (line_goes s l c.requires.follows)))
    (λ shows. subst ShowsItsList (sym after) (line_shows s l c.requires.follows c.requires.places))
