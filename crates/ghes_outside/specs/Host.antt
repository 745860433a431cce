-- What the adapters to the machine tell: how often they failed, and nothing else.
use Rattle.std.specs.Prelude.{ℕ, None}
use Rattle.ghes_outside.specs.Outside.{FilesSeen, SinkSeen}
use Rattle.ghes_outside.specs.declared.host_files.HostFiles.{HostFiles}
use Rattle.ghes_outside.specs.declared.host_sink.HostSink.{HostSink}

module _ {R : Type 0} where
  -- how often a load of a file of the machine has failed (own choice)
  abbrev pub load_faults : HostFiles R → ℕ
  load_faults files = files.faults

  -- how often a put to the standard output has failed (own choice)
  abbrev pub put_faults : HostSink R → ℕ
  put_faults sink = sink.faults

  -- the files of a machine tell no contents and no names (own choice)
  abbrev pub files_of_host : HostFiles R → FilesSeen
  files_of_host files = record { contents = λ name. None; failed = None; faults = files.faults }

  -- the standard output tells no bytes (own choice)
  abbrev pub sink_of_host : HostSink R → SinkSeen
  sink_of_host sink = record { written = None; faults = sink.faults }
