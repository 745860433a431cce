-- The ids and the count go with the sources.
use Rattle.std.proofs.Common.{◌≡◌, ◌+◌, ◌∷◌, [], ◌++◌, cond, None, arith, sym, ap, ◌∙◌}
use Rattle.apei_hest.specs.Refusal.{source_refusal}
use Rattle.apei_hest.specs.declared.source.Source.TheVariants as sources
use Rattle.apei_hest.proofs.RefusalLemmas.{few_enabled}
use Rattle.apei_hest.proofs.KnownLemmas.{knows_skipped, knows_more, knows_equal}
use Rattle.apei_hest.proofs.admitted.Admitted.with.Goals as goal
use Rattle.apei_hest.proofs.admitted.Admitted.with.Goals.{in-Ghes+in_ok-insert+then-ghes, in-Ghes+in_ok-insert+else-ghes, in_default}

pub overflow_add-self : goal.overflow_add-self
overflow_add-self c =
    let before = c.self.inside.sources.items in
    let accepted : source_refusal before (sources.Ghes c.in-Ghes.ghes) ≡ None =
    ap (λ xs. source_refusal xs (sources.Ghes c.in-Ghes.ghes)) c.self.view_is ∙ ap (source_refusal c.args.self) (sym c.in-Ghes.is) ∙ c.requires in
    omega (arith, few_enabled before c.in-Ghes.ghes accepted c.if-ghes.true, c.self.invariant.count_of)

pub invariant_of-self : goal.invariant_of-self
invariant_of-self c =
    let inside = c.match-source.self-inside in
    let ids = c.self.inside.ids in
    let n = c.self.inside.enabled in
    let before = c.self.inside.sources.items in
    let items : c.push.new.self.items ≡ inside.sources.items ++ c.match-source.source ∷ [] = c.in_ok-push.ensures.items in
    elim c.match-source.branch [
      | in-Ghes+in_ok-insert+then-ghes w ↦
          let ghes = w.in-Ghes.ghes in
          knows_equal w.insert.new.self inside.ids (n + cond ghes.enabled 1 0) inside.enabled (before ++ sources.Ghes ghes ∷ []) c.push.new.self.items
          (ap (λ s. s.ids) w.self-inside-is)
          (ap (λ s. s.enabled) w.self-inside-is ∙ ap (λ b. n + cond b 1 0) (sym w.if-ghes.true))
          (items ∙ ap (λ s. s.sources.items ++ c.match-source.source ∷ []) w.self-inside-is ∙ ap (λ s. before ++ s ∷ []) w.source-is)
          (knows_more ids w.insert.new.self n before ghes w.in_ok-insert.ensures.updates c.self.invariant)
      | in-Ghes+in_ok-insert+else-ghes w ↦
          let ghes = w.in-Ghes.ghes in
          let zero : n ≡ n + 0 = omega arith in
          knows_equal w.insert.new.self inside.ids (n + cond ghes.enabled 1 0) inside.enabled (before ++ sources.Ghes ghes ∷ []) c.push.new.self.items
          (ap (λ s. s.ids) w.self-inside-is)
          (ap (λ s. s.enabled) w.self-inside-is ∙ zero ∙ ap (λ b. n + cond b 1 0) (sym w.if-ghes.false))
          (items ∙ ap (λ s. s.sources.items ++ c.match-source.source ∷ []) w.self-inside-is ∙ ap (λ s. before ++ s ∷ []) w.source-is)
          (knows_more ids w.insert.new.self n before ghes w.in_ok-insert.ensures.updates c.self.invariant)
      | in_default w ↦
          let d = w.in_default in
          let skipped = sources.Skipped d.field-0 d.field-1 d.field-2 d.field-3 in
          knows_equal ids inside.ids n inside.enabled (before ++ skipped ∷ []) c.push.new.self.items
          (ap (λ s. s.ids) w.self-inside-is)
          (ap (λ s. s.enabled) w.self-inside-is)
          (items ∙ ap (λ s. s.sources.items ++ c.match-source.source ∷ []) w.self-inside-is ∙ ap (λ s. before ++ s ∷ []) (w.source-is ∙ d.is))
          (knows_skipped ids n before d.field-0 d.field-1 d.field-2 d.field-3 c.self.invariant)
    ]
