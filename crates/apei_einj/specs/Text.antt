-- The words for a refused EINJ, each but the last after its number, and for a refused injection.
use Rattle.std.specs.Prelude.{ℕ, List, ◌++◌, codes}
use Rattle.std.specs.Fmt.{decimal}
use Rattle.apei_base.specs.Text.{sdt_error_text, gas_error_text}
use Rattle.apei_einj.specs.declared.error.EinjError.{EinjError}
use Rattle.apei_einj.specs.declared.error.EinjError.TheVariants.{Table, HeaderSize, CountMismatch, Instruction, Register, Missing, OutOfMemory}
use Rattle.apei_einj.specs.declared.injected.InjectError.{InjectError}
use Rattle.apei_einj.specs.declared.injected.InjectError.TheVariants as errors

-- the words for a refused EINJ (own choice)
abbrev pub einj_error_text : EinjError → List ℕ
einj_error_text (Table why) = codes "1 table: " ++ sdt_error_text why
einj_error_text HeaderSize = codes "2 header size"
einj_error_text (CountMismatch said found) = codes "3 count says " ++ decimal said ++ codes ", found " ++ decimal found
einj_error_text (Instruction at) = codes "4 instruction at " ++ decimal at
einj_error_text (Register at why) = codes "5 register at " ++ decimal at ++ codes ": " ++ gas_error_text why
einj_error_text (Missing action) = codes "6 missing action " ++ decimal action
einj_error_text OutOfMemory = codes "out of memory"

-- the words for an injection that was refused or cut off (own choice)
abbrev pub inject_error_text : InjectError → List ℕ
inject_error_text errors.NotAvailable = codes "not available"
inject_error_text errors.Busy = codes "busy"
inject_error_text (errors.Status value) = codes "status " ++ decimal value
inject_error_text (errors.Trigger reason) = codes "trigger " ++ decimal reason
inject_error_text errors.Fault = codes "fault"
inject_error_text errors.NoAddress = codes "no address"
