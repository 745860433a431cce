use Rattle.std.proofs.Common.{ap, ◌∙◌, sym}
use Rattle.fw_einj.specs.Class.{guid_bytes}
use Rattle.fw_einj.proofs.GuidLemmas.{guid_bytes-processor, guid_bytes-memory, guid_bytes-pcie, guid_bytes-platform}
use Rattle.fw_einj.proofs.class.Class.guid.Goals as goal

pub returns-in-Processor : goal.returns-in-Processor
returns-in-Processor c = guid_bytes-processor ∙ ap guid_bytes (sym c.in-Processor.is)

pub returns-in-Memory : goal.returns-in-Memory
returns-in-Memory c = guid_bytes-memory ∙ ap guid_bytes (sym c.in-Memory.is)

pub returns-in-Pcie : goal.returns-in-Pcie
returns-in-Pcie c = guid_bytes-pcie ∙ ap guid_bytes (sym c.in-Pcie.is)

pub returns-in-Platform : goal.returns-in-Platform
returns-in-Platform c = guid_bytes-platform ∙ ap guid_bytes (sym c.in-Platform.is)
