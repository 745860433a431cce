-- The words for refusals of tables and generic addresses, each after its place in the order of the tests.
use Rattle.std.specs.Prelude.{ℕ, List, codes}
use Rattle.apei_base.specs.declared.sdt.SdtError.{SdtError}
use Rattle.apei_base.specs.declared.sdt.SdtError.TheVariants as sdt
use Rattle.apei_base.specs.declared.gas.GasError.{GasError}
use Rattle.apei_base.specs.declared.gas.GasError.TheVariants as gas

-- the words for a refused table (own choice)
abbrev pub sdt_error_text : SdtError → List ℕ
sdt_error_text sdt.Short = codes "1 short"
sdt_error_text sdt.Signature = codes "2 signature"
sdt_error_text sdt.Length = codes "3 length"
sdt_error_text sdt.Checksum = codes "4 checksum"

-- the words for a refused generic address (own choice)
abbrev pub gas_error_text : GasError → List ℕ
gas_error_text gas.Space = codes "1 space"
gas_error_text gas.AccessSize = codes "2 access size"
gas_error_text gas.TooWide = codes "3 too wide"
gas_error_text gas.PortWidth = codes "4 port width"
gas_error_text gas.PastEnd = codes "5 past end"
