-- The memory of the sources of a machine that is new.
use Rattle.std.proofs.Common.{◌≡◌, ◌<◌, ℕ, zero, suc, List, [], ◌∷◌, map, length, get_or, drop, refl, sym, ap, ◌∙◌, subst, arith, Option, Some, None}
use Rattle.std.specs.Prelude.{slice_get}
use Rattle.std.specs.Option.{option_map}
use Rattle.std.proofs.lemmas.Option.{slice_get_within, get_or_from_slice_get}
use Rattle.apei_base.specs.Firmware.{Layout, Seen}
use Rattle.apei_base.specs.declared.region.Space.TheVariants.{Memory}
use Rattle.apei_einj.specs.declared.entry.Entry.{Entry}
use Rattle.apei_hest.specs.Source.{limit_of}
use Rattle.apei_hest.specs.declared.source.Ack2.{Ack2}
use Rattle.apei_hest.specs.declared.source.Ghes.{Ghes}
use Rattle.fw_map.specs.Apart.{gas_reach, layout_of}
use Rattle.fw_map.specs.declared.run.Run.{Run}
use Rattle.fw_port.specs.Port.{seen, unused, IsUnused}
use Rattle.fw_port.specs.declared.port.SourcePort.{SourcePort}
use Rattle.fw_sim.specs.Platform.{IsPlatformOf, ports_in}
use Rattle.fw_sim.specs.declared.platform.Platform.{Platform}
use Rattle.ghes_call.specs.Receive.{IsOfSource, ReceiveSeen, register_of}
use Rattle.ghes_lines.specs.declared.machine.Source.{Source}
use Rattle.ghes_nmi.specs.Receive.{receive_of, rule_of}
use Rattle.ghes_script.specs.declared.line.Line.{Line}
use Rattle.ghes_setup.specs.Machine.{IsSourceOf, AreSourcesOf}
use Rattle.ghes_setup.specs.Ports.{IsUntouched, AreUntouched}

-- an area is as long as the limit of its source
limits_at : (found : List Ghes) (areas : List Run) (k : ℕ) (ghes : Ghes) (run : Run) → map (λ (area : Run). area.bytes) areas ≡ map limit_of found → k < length found → (get_or areas k run).bytes ≡ limit_of (get_or found k ghes)
limits_at [] areas k ghes run same below = absurd (omega (arith, below))
limits_at (g ∷ found) [] k ghes run same below = absurd (cc same)
limits_at (g ∷ found) (a ∷ areas) zero ghes run same below = ap (λ (l : List ℕ). get_or l 0 0) same
limits_at (g ∷ found) (a ∷ areas) (suc k) ghes run same below =
    limits_at found areas k ghes run (ap (λ (l : List ℕ). drop 1 l) same) (omega (arith, below))

-- the register that a source is acknowledged at is that of its table
acks_are : (ack : Option Ack2) → register_of (rule_of ack) ≡ option_map (λ (a : Ack2). gas_reach a.register) ack
acks_are None = refl
acks_are (Some ack) = refl

-- a source is received where its table says that it stands
of_table : (ghes : Ghes) (area : Run) → area.bytes ≡ limit_of ghes → IsOfSource (receive_of ghes) (layout_of ghes area)
of_table ghes area limit = record { status = refl; area = sym limit; ack = acks_are ghes.ack }

untouched : (settings : List Line) (s : ℕ) (ghes : Ghes) (area : Run) (source : Source) (port : SourcePort) → area.bytes ≡ limit_of ghes → IsSourceOf settings s ghes source → IsUnused port (layout_of ghes area) → IsUntouched source (seen port)
untouched settings s ghes area source port limit is unused_is =
    let layout_is : (seen port).layout ≡ layout_of ghes area = ap (λ (m : Seen). m.layout) unused_is.seen in
    record {
      source_is =
          subst (λ (r : ReceiveSeen). IsOfSource r (seen port).layout) (sym is.receive)
          (subst (λ (l : Layout). IsOfSource (receive_of ghes) l) (sym layout_is) (of_table ghes area limit));
      unused_is = unused_is.seen ∙ ap (λ (l : Layout). unused l) (sym layout_is);
    }

-- the memory of each source of a new machine is untouched
untouched_by : (found : List Ghes) (einj : Option (List Entry)) (platform : Platform) (settings : List Line) (sources : List Source) → (s : ℕ) (ghes : Ghes) → IsPlatformOf found einj platform → AreSourcesOf settings found sources → (source : Source) (port : SourcePort) → slice_get sources s ≡ Some source → slice_get (ports_in platform) s ≡ Some port → IsUntouched source (seen port)
untouched_by found einj platform settings sources s ghes is are source port at there =
    let inside : s < length sources = slice_get_within sources s source at in
    let within : s < length (ports_in platform) = slice_get_within (ports_in platform) s port there in
    let below : s < length found = omega (arith, inside, are.as_many) in
    let run : Run = record { space = Memory; first = 0; bytes = 0 } in
    untouched settings s (get_or found s ghes) (get_or is.map.areas.items s run) source port
    (limits_at found is.map.areas.items s ghes run is.is_map.areas.limits below)
    (subst (IsSourceOf settings s (get_or found s ghes)) (get_or_from_slice_get sources s source source at) (are.each s ghes source inside))
    (subst (λ p. IsUnused p (layout_of (get_or found s ghes) (get_or is.map.areas.items s run))) (get_or_from_slice_get (ports_in platform) s port port there) (is.ports.each s port within ghes run))

untouched_in : (found : List Ghes) (einj : Option (List Entry)) (platform : Platform) (settings : List Line) (sources : List Source) → IsPlatformOf found einj platform → AreSourcesOf settings found sources → (s : ℕ) (source : Source) (port : SourcePort) → slice_get sources s ≡ Some source → slice_get (ports_in platform) s ≡ Some port → IsUntouched source (seen port)
untouched_in [] einj platform settings sources is are s source port at there =
    absurd (omega (arith, slice_get_within sources s source at, are.as_many))
untouched_in (ghes ∷ found) einj platform settings sources is are s source port at there =
    untouched_by (ghes ∷ found) einj platform settings sources s ghes is are source port at there

pub all_untouched : (found : List Ghes) (einj : Option (List Entry)) (platform : Platform) (settings : List Line) (sources : List Source) → IsPlatformOf found einj platform → AreSourcesOf settings found sources → AreUntouched sources (ports_in platform)
all_untouched found einj platform settings sources is are = record {
  as_many = is.ports.as_many ∙ sym are.as_many;
  each = untouched_in found einj platform settings sources is are;
}
