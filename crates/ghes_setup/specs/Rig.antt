-- A machine that is ready for the first line of a script.
use Rattle.std.specs.Prelude.{◌≡◌, List, length, Option, option_map}
use Rattle.std.specs.List.{AllByRecursion}
use Rattle.apei_einj.specs.declared.entry.Entry.{Entry}
use Rattle.apei_hest.specs.declared.source.Ghes.{Ghes}
use Rattle.fw_einj.specs.Machine.{Machine as Injector, set_up}
use Rattle.fw_port.specs.Port.{seen}
use Rattle.ghes_lines.specs.Lines.{IsAllowed}
use Rattle.ghes_lines.specs.Machine.{IsMachine}
use Rattle.ghes_lines.specs.Run.{AreFresh}
use Rattle.ghes_script.specs.declared.line.Line.{Line}
use Rattle.ghes_setup.specs.Injecting.{seen_of}
use Rattle.ghes_setup.specs.Machine.{IsMachineOf}
use Rattle.ghes_setup.specs.Settings.{setup_in}
use Rattle.ghes_setup.specs.declared.rig.Rig.{Rig}

-- The machine is ready for these lines: its lines ask for nothing but what it allows, nothing has happened to the memory of its
-- sources, and injections are told for as many sources.
pub record IsReady (lines : List Line) (rig : Rig) : Type 0 where
  pub sound : IsMachine 65536 rig.machine
  pub allowed : AllByRecursion (λ line. IsAllowed rig.machine line.what) lines
  pub fresh : AreFresh seen rig.machine rig.ports.items
  pub sources : (seen_of rig.injecting).sources ≡ length rig.machine.sources.items

-- The machine of these enabled sources, of this injection table and of the settings of these lines, ready for them: the machine that
-- injects is set up as the settings say.
pub record IsRigOf (found : List Ghes) (einj : Option (List Entry)) (new : Option Injector) (lines : List Line) (rig : Rig) : Type 0 where
  pub machine : IsMachineOf found lines rig.machine
  pub ready : IsReady lines rig
  pub entries : (seen_of rig.injecting).entries ≡ einj
  pub injector : (seen_of rig.injecting).machine ≡ option_map (set_up (setup_in lines)) new
