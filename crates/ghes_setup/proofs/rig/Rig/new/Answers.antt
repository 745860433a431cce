use Rattle.std.proofs.Common.{sym, subst, ◌∙◌}
use Rattle.apei_hest.specs.Refusal.{enabled}
use Rattle.ghes_setup.specs.Ports.{AreUntouched}
use Rattle.ghes_setup.specs.Settings.{settings_of}
use Rattle.ghes_setup.proofs.PlatformLemmas.{all_untouched}
use Rattle.ghes_setup.proofs.rig.Rig.new.Goals as goal

pub set_cells-requires : goal.set_cells-requires
set_cells-requires c =
    let items = c.in_ok-machine.machine.sources.items in
    subst (λ ports. AreUntouched items ports) (sym (c.split-side.ensures.ports ∙ c.set.ensures.ports))
    (all_untouched (enabled c.args.hest.now) c.args.einj c.args.platform (settings_of c.args.lines.now) items c.requires.platform c.in_ok-machine.ensures.machine.sources)
