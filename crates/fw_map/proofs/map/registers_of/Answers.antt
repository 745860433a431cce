use Rattle.std.proofs.Common.{◌++◌, option_copied, ◌∙◌, ap, subst}
use Rattle.std.specs.List.{flat_map}
use Rattle.fw_map.specs.Overlap.{Overlaps}
use Rattle.fw_map.specs.Registers.{entries_of, injection_registers, source_registers}
use Rattle.fw_map.proofs.OverlapLemmas.{overlaps_from}
use Rattle.fw_map.proofs.RegisterLemmas.{behind_own}
use Rattle.fw_map.proofs.map.registers_of.Goals as goal

pub overlap-requires : goal.overlap-requires
overlap-requires c = λ k none from below.
    behind_own c.push_sources.new.registers.items c.deref.result.now (entries_of (option_copied c.args.einj)) c.len-own.result k none
    (c.deref.ensures.value ∙ c.in_ok-push_injection.ensures) (c.len-own.ensures ∙ c.push_sources.new.registers.ok.0) from below

pub returns-in-Some-clause-refused : goal.returns-in-Some-clause-refused
returns-in-Some-clause-refused c =
    subst (λ registers. Overlaps registers c.in-Some.error)
    (c.deref.ensures.value ∙ c.in_ok-push_injection.ensures
    ∙ ap (λ own. own ++ injection_registers (entries_of (option_copied c.args.einj)))
    (c.in_ok-push_sources.ensures ∙ ap (λ front. front ++ flat_map source_registers c.args.sources.now) c.new-registers.ensures.items))
    (overlaps_from c.deref.result.now c.in-Some.error c.in-Some.ensures.some)
