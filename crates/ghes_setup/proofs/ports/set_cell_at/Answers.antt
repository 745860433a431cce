use Rattle.std.proofs.Common.{sym, ap, subst, refl, ◌∙◌, Some}
use Rattle.std.proofs.lemmas.Option.{slice_get-get_or, slice_get_read, get_or_from_slice_get}
use Rattle.fw_port.specs.Port.{seen}
use Rattle.ghes_lines.specs.Run.{IsFresh}
use Rattle.ghes_setup.proofs.ports.set_cell_at.Goals as goal

pub set_cell-requires : goal.set_cell-requires
set_cell-requires c =
    let source = slice_get_read c.args.sources.now _ c.args.at c.index-sources-at.result refl c.requires.within c.index-sources-at.is in
    c.requires.untouched c.index-sources-at.result c.index_mut.result.now source
    (slice_get-get_or c.args.ports.now.items c.args.at _ c.requires.there ∙ ap Some (sym c.index_mut.ensures.value))

pub returns : goal.returns
returns c = record {
  port = c.set_cell.new.port;
  ports_are = refl;
  fresh = λ source there.
      subst (λ s. IsFresh s (seen c.set_cell.new.port)) (c.index-sources-at.is ∙ get_or_from_slice_get c.args.sources.now c.args.at source c.index-sources-at.result there) c.set_cell.ensures;
}
