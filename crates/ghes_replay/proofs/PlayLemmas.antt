-- A run of the lines of a script on its machine, told as a replay.
use Rattle.std.proofs.Common.{◌≡◌, ◌≤◌, ◌<◌, ℕ, zero, suc, List, [], ◌∷◌, map, length, Option, Some, None, Result, Ok, Err, IfOk, IfErr, sym, ap, subst, ◌∙◌, arith}
use Rattle.std.specs.Prelude.{slice_get, unwrap_or}
use Rattle.std.specs.List.{AllByRecursion}
use Rattle.apei_hest.specs.Refusal.{enabled}
use Rattle.apei_hest.specs.declared.source.Source.{Source as Structure}
use Rattle.apei_einj.specs.declared.entry.Entry.{Entry}
use Rattle.apei_hest.specs.declared.source.Ghes.{Ghes}
use Rattle.fw_map.specs.Map.{IsRefusedWith}
use Rattle.fw_map.specs.declared.error.FwError.{FwError}
use Rattle.fw_map.specs.declared.error.FwError.TheVariants as errors
use Rattle.fw_port.specs.Port.{seen, faults_of}
use Rattle.fw_port.specs.declared.port.SourcePort.{SourcePort}
use Rattle.fw_sim.specs.Platform.{IsPlatformOf, machine_in}
use Rattle.fw_sim.specs.declared.platform.Platform.{Platform}
use Rattle.ghes_ledger.specs.Kept.{Kept}
use Rattle.ghes_lines.specs.Lines.{act_of}
use Rattle.ghes_lines.specs.Machine.{FitsSource, IsMachine, limit_of, plan_of}
use Rattle.ghes_lines.specs.Run.{IsRun, IsStopOf}
use Rattle.ghes_lines.specs.declared.error.Stop.{Stop}
use Rattle.ghes_lines.specs.declared.error.Stop.TheVariants as stops
use Rattle.ghes_lines.specs.declared.machine.Machine.{Machine}
use Rattle.ghes_lines.specs.declared.machine.Source.{Source}
use Rattle.ghes_replay.specs.declared.exit.Refusal.{Refusal}
use Rattle.ghes_replay.specs.declared.exit.Refusal.TheVariants as refusals
use Rattle.ghes_replay.specs.Done.{Output, RunsLines, TellsLines, IsToldOf}
use Rattle.ghes_replay.specs.Planned.{IsStart, machine_refusal, stop_refusal, NoMachine, NoReplay, text_of}
use Rattle.ghes_report.proofs.LawfulLemmas.{lawful_sound}
use Rattle.ghes_report.specs.Sound.{IsSound}
use Rattle.ghes_script.specs.declared.line.Line.{Line}
use Rattle.ghes_setup.specs.Injecting.{InjectingSeen, Injects, seen_of}
use Rattle.ghes_setup.specs.Rig.{IsRigOf}
use Rattle.ghes_setup.specs.declared.rig.Rig.{Rig}

-- why there is no machine, told as a refusal
pub refused_by : (found : List Ghes) (injection : Option (List Entry)) (error : FwError) → IsRefusedWith found injection error → NoMachine found injection (machine_refusal error)
refused_by found injection (errors.Overlap first second space address) refused = (λ same. absurd cc, refused)
refused_by found injection errors.Room refused = absurd refused
refused_by found injection (errors.Narrow id) refused = (λ same. absurd cc, refused)
refused_by found injection errors.OutOfMemory refused = tt

limit_at : (P : Source → Type 0) (sources : List Source) (s : ℕ) → ((source : Source) → P source → source.receive.limit ≤ 65536) → AllByRecursion P sources → limit_of (slice_get sources s) ≤ 65536
limit_at P [] s each all = omega arith
limit_at P (source ∷ sources) zero each all = each source all.0
limit_at P (source ∷ sources) (suc s) each all = limit_at P sources s each all.1

-- the blocks of a lawful ledger of a machine may be printed
pub run_sound : (machine : Machine) (lines : List Line) (first last : InjectingSeen) (ports : List SourcePort) (ledger : Kept) → IsMachine 65536 machine → IsRun seen faults_of Injects machine lines first last ports ledger → IsSound ledger
run_sound machine lines first last ports ledger sound run =
    lawful_sound (plan_of machine) (map act_of lines) ledger run.history
    (λ s. limit_at (FitsSource machine.contexts 65536) machine.sources.items s (λ source fits. fits.limit) sound.sources) run.lawful

module _ (found : List Structure) (injection : Option (List Entry)) (lines : List Line) (platform : Platform) (is_new : IsPlatformOf (enabled found) injection platform) (rig : Rig) (ready : IsRigOf (enabled found) injection (machine_in platform) lines rig) where
  -- the machine that injects starts as the tables and the settings say
  starts : IsStart (enabled found) injection lines rig.machine (seen_of rig.injecting)
  starts = record { platform = platform; new = is_new; sources = ready.ready.sources; entries = ready.entries; injector = ready.injector }

  -- why a run stops
  stop_cause : (stop : Stop) → IsStopOf seen faults_of Injects rig.machine (seen_of rig.injecting) lines stop → NoReplay (enabled found) injection lines (stop_refusal stop)
  stop_cause (stops.Full number) full = record { machine = rig.machine; machine_is = ready.machine; first = seen_of rig.injecting; start = starts; full = full }
  stop_cause stops.OutOfMemory full = tt

  pub runs_stopped : (stop : Stop) (refusal : Refusal) → refusal ≡ stop_refusal stop → IsStopOf seen faults_of Injects rig.machine (seen_of rig.injecting) lines stop → RunsLines found injection lines (Err refusal)
  runs_stopped stop refusal same full = record { told = tt; refused = subst (NoReplay (enabled found) injection lines) (sym same) (stop_cause stop full) }

  module _ (rig' : Rig) (ledger : Kept) (same : rig'.machine ≡ rig.machine) (run : IsRun seen faults_of Injects rig.machine lines (seen_of rig.injecting) (seen_of rig'.injecting) rig'.ports.items ledger) where
    -- what a run gives
    lines_told : (done : Output) → IsToldOf rig' lines ledger done → TellsLines found injection lines done
    lines_told done (ledger_is, text_is) = (
      ledger,
      ledger_is,
      record {
        machine = rig.machine;
        machine_is = ready.machine;
        first = seen_of rig.injecting;
        start = starts;
        last = seen_of rig'.injecting;
        ports = rig'.ports.items;
        run = run;
        told = text_is ∙ ap (λ (machine : Machine). text_of machine lines rig'.ports.items ledger) same;
      },
    )

    told_ok : (result : Result Output Refusal) → IfOk result (IsToldOf rig' lines ledger) → IfOk result (TellsLines found injection lines)
    told_ok (Ok done) told = lines_told done told
    told_ok (Err refusal) told = tt

    told_err : (result : Result Output Refusal) → IfErr result (λ refusal. refusal ≡ refusals.OutOfMemory) → IfErr result (NoReplay (enabled found) injection lines)
    told_err (Ok done) only = tt
    told_err (Err refusal) only = subst (NoReplay (enabled found) injection lines) (sym only) tt

    pub runs_told : (result : Result Output Refusal) → IfOk result (IsToldOf rig' lines ledger) → IfErr result (λ refusal. refusal ≡ refusals.OutOfMemory) → RunsLines found injection lines result
    runs_told result told only = record { told = told_ok result told; refused = told_err result only }
