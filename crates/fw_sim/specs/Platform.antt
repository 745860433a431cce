-- A simulated machine: its ports, and the machine that injects.
use Rattle.std.specs.Prelude.{◌≢◌, Result, Err, ◌≡◌, ◌<◌, ℕ, List, length, slice_index_or, Option, Some, None, option_map}
use Rattle.std.specs.Borrow.{LendsIf, MutBor, Fml}
use Rattle.std.specs.Vec.{with_item}
use Rattle.apei_hest.specs.declared.source.Ghes.{Ghes}
use Rattle.apei_einj.specs.declared.entry.Entry.{Entry}
use Rattle.apei_einj.specs.Injection.{Injects}
use Rattle.apei_einj.specs.declared.injected.InjectError.{InjectError}
use Rattle.apei_einj.specs.declared.injected.InjectError.TheVariants.{Fault}
use Rattle.apei_einj.specs.declared.injected.Injected.{Injected}
use Rattle.apei_einj.specs.declared.request.Request.{Request}
use Rattle.fw_einj.specs.Machine.{Machine, machine_of, IsMachineStep}
use Rattle.fw_einj.specs.New.{IsNew}
use Rattle.fw_einj.specs.declared.port.EinjPort.{EinjPort}
use Rattle.fw_map.specs.Apart.{layout_of}
use Rattle.fw_map.specs.Map.{IsMapOf}
use Rattle.fw_map.specs.declared.map.Map.{Map}
use Rattle.fw_map.specs.declared.map.Trigger.{Trigger}
use Rattle.fw_map.specs.declared.run.Run.{Run}
use Rattle.fw_port.specs.Port.{IsUnused}
use Rattle.fw_port.specs.declared.port.SourcePort.{SourcePort}
use Rattle.fw_port.specs.contracts.port.SourcePort as port_row
use Rattle.fw_sim.specs.declared.platform.Platform.{Platform}
use Rattle.fw_sim.specs.declared.platform.EinjSide.{EinjSide}
use Rattle.fw_sim.specs.contracts.platform.Platform as platform_row

-- the ports of its sources, in table order (own choice)
abbrev pub ports_in : Platform → List SourcePort
ports_in platform = platform.ports.items

-- the machine that injects, where there is an injection table (own choice)
abbrev pub injector_in : Platform → Option EinjPort
injector_in platform = platform.injector

-- the same of what is left while the ports are elsewhere (own choice)
abbrev pub side_injector : EinjSide → Option EinjPort
side_injector side = side.injector

-- this is the port of the source at a place, which has the area at that place, and nothing has happened to it (own choice)
abbrev pub IsPortAt : List Ghes → List Run → ℕ → SourcePort → Type 0
IsPortAt sources areas place port = (no_source : Ghes) (no_area : Run)
    → IsUnused port (layout_of (slice_index_or sources place no_source) (slice_index_or areas place no_area))

-- these are the ports of sources with these areas, to which nothing has happened (own choice)
pub record ArePortsOf (sources : List Ghes) (areas : List Run) (ports : List SourcePort) : Type 0 where
  pub as_many : length ports ≡ length sources
  pub each : (k : ℕ) (none : SourcePort) → k < length ports → IsPortAt sources areas k (slice_index_or ports k none)

-- the machine that injects is that of the table, whose trigger table and trigger cell stand where the map says; there is none
-- without a table (own choice)
abbrev pub IsInjectorOf : Option (List Entry) → Option Trigger → Option EinjPort → Type 0
IsInjectorOf None trigger injector = injector ≡ None
IsInjectorOf (Some entries) None injector = ⊥
IsInjectorOf (Some entries) (Some trigger) None = ⊥
IsInjectorOf (Some entries) (Some trigger) (Some port) = IsNew entries trigger.table.first trigger.cell.first (machine_of port)

-- A machine with these enabled sources and this injection table, to which nothing has happened: each source stands where the
-- map of the machine says, and so do the trigger table and the trigger cell (own choice).
pub record IsPlatformOf (sources : List Ghes) (einj : Option (List Entry)) (platform : Platform) : Type 0 where
  pub map : Map
  pub is_map : IsMapOf sources einj map
  pub ports : ArePortsOf sources map.areas.items (ports_in platform)
  pub injector : IsInjectorOf einj map.trigger (injector_in platform)

-- what the machine that injects holds, where there is one (own choice)
abbrev pub machine_in : Platform → Option Machine
machine_in platform = option_map machine_of (injector_in platform)

-- An injection by these entries, through the machine that injects: it is its steps in order, up to the first refusal, and
-- no access of it fails. There is none where there is no such machine (own choice, but for ACPI 6.5, 18.6.1).
abbrev pub IsInjectedBy : List Entry → Request → Option Machine → Option (Result Injected InjectError) → Option Machine → Type 0
IsInjectedBy entries request None answer after = (answer ≡ None) × (after ≡ None)
IsInjectedBy entries request (Some before) None after = ⊥
IsInjectedBy entries request (Some before) (Some answer) None = ⊥
IsInjectedBy entries request (Some before) (Some answer) (Some after) =
    Injects IsMachineStep entries request before answer after × (answer ≢ Err Fault)

-- the machine where one port is another (own choice)
abbrev pub with_port : Platform → ℕ → SourcePort → Platform
with_port platform source port = record platform { ports = with_item platform.ports source port }

-- the machine ends with what is left behind the port, and as it was where there is none (own choice)
abbrev pub LendsPort : MutBor Platform → ℕ → Option (MutBor SourcePort) → Fml
LendsPort platform source port = LendsIf platform_row.the_row port_row.the_row platform port (with_port platform.now source) platform.now
