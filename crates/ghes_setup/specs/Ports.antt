-- The memory of the sources of a machine before the first line of a script.
use Rattle.std.specs.Prelude.{◌≡◌, ℕ, List, length, slice_get, slice_set, Some}
use Rattle.apei_base.specs.Firmware.{Seen}
use Rattle.fw_port.specs.Port.{seen, unused}
use Rattle.fw_port.specs.declared.port.SourcePort.{SourcePort}
use Rattle.ghes_call.specs.Receive.{IsOfSource}
use Rattle.ghes_lines.specs.Run.{IsFresh}
use Rattle.ghes_lines.specs.declared.machine.Source.{Source}
use Rattle.ghes_nmi.specs.Receive.{receive_seen}

-- the memory of a source that nothing has happened to, and whose read ack register is not set yet (own choice)
pub record IsUntouched (source : Source) (port : Seen) : Type 0 where
  pub source_is : IsOfSource (receive_seen source.receive) port.layout
  pub unused_is : port ≡ unused port.layout

-- the memory of each source is there, and is so (own choice)
pub record AreUntouched (sources : List Source) (ports : List SourcePort) : Type 0 where
  pub as_many : length ports ≡ length sources
  pub each : (s : ℕ) (source : Source) (port : SourcePort) → slice_get sources s ≡ Some source → slice_get ports s ≡ Some port → IsUntouched source (seen port)

-- the read ack register of one source is set, where there is one, and nothing else changes (own choice)
pub record IsSetAt (sources : List Source) (s : ℕ) (ports ports' : List SourcePort) : Type 0 where
  pub port : SourcePort
  pub ports_are : ports' ≡ slice_set ports s port
  pub fresh : (source : Source) → slice_get sources s ≡ Some source → IsFresh source (seen port)
