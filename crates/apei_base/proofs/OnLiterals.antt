-- The definitions computed on known values, so that they are held against the standard's own bytes.
use Rattle.std.proofs.Common.{◌≡◌, ℕ, ◌-◌, ◌^◌, take, codes, Some, None, refl}
use Rattle.apei_base.specs.Region.{access_width, gas_refusal}
use Rattle.apei_base.specs.Table.{sdt_refusal, stated_length}
use Rattle.apei_base.specs.declared.gas.Gas.{Gas}
use Rattle.apei_base.specs.declared.gas.GasError.TheVariants as gas_errors
use Rattle.apei_base.specs.declared.sdt.SdtError.TheVariants as sdt_errors
use Rattle.apei_base.proofs.Samples.{one_source, one_source_with}

-- a generic address: space, bit width, bit offset, access size code, address
abbrev gas : ℕ → ℕ → ℕ → ℕ → ℕ → Gas
gas space bit_width bit_offset access address =
    record { space = space; bit_width = bit_width; bit_offset = bit_offset; access = access; address = address }

-- a field of 64 bits without an access size code is read whole
pub access_width-no_code : access_width (gas 0 64 0 0 0x7f000000) ≡ 64
access_width-no_code = refl

-- an aligned register of 64 bits is read whole, though its code says bytes
pub access_width-whole_64 : access_width (gas 0 64 0 1 0x7f000000) ≡ 64
access_width-whole_64 = refl

-- an aligned register of 32 bits is read whole, though its code says bytes
pub access_width-whole_32 : access_width (gas 0 32 0 1 0x1004) ≡ 32
access_width-whole_32 = refl

-- a wider code stays
pub access_width-wider_code : access_width (gas 0 32 0 4 0x1004) ≡ 64
access_width-wider_code = refl

-- the address of the sample is accepted
pub gas_refusal-sample : gas_refusal (gas 0 64 0 4 0x7f000000) ≡ None
gas_refusal-sample = refl

-- a register that is not aligned keeps its narrow width, and does not fit it
pub gas_refusal-unaligned : gas_refusal (gas 0 64 0 1 0x7f000004) ≡ Some gas_errors.TooWide
gas_refusal-unaligned = refl

-- bits 1 to 64 do not fit an access of 64
pub gas_refusal-offset : gas_refusal (gas 0 64 1 0 0x7f000000) ≡ Some gas_errors.TooWide
gas_refusal-offset = refl

-- a port of 64 bits
pub gas_refusal-wide_port : gas_refusal (gas 1 64 0 4 0xb0) ≡ Some gas_errors.PortWidth
gas_refusal-wide_port = refl

-- space 2 is the configuration space of PCI
pub gas_refusal-space : gas_refusal (gas 2 8 0 1 0) ≡ Some gas_errors.Space
gas_refusal-space = refl

-- there is no access size code 5
pub gas_refusal-access_size : gas_refusal (gas 0 8 0 5 0) ≡ Some gas_errors.AccessSize
gas_refusal-access_size = refl

-- eight bytes do not fit above the last address but three
pub gas_refusal-past_end : gas_refusal (gas 0 64 0 4 (2 ^ 64 - 4)) ≡ Some gas_errors.PastEnd
gas_refusal-past_end = refl

-- eight bytes that end with the last address are accepted
pub gas_refusal-at_end : gas_refusal (gas 0 64 0 4 (2 ^ 64 - 8)) ≡ None
gas_refusal-at_end = refl

-- the sample states its length
pub stated_length-sample : stated_length one_source ≡ 104
stated_length-sample = refl

-- the sample is a table
pub sdt_refusal-sample : sdt_refusal (codes "HEST") one_source ≡ None
sdt_refusal-sample = refl

-- it is no table of another signature
pub sdt_refusal-signature : sdt_refusal (codes "HESU") one_source ≡ Some sdt_errors.Signature
sdt_refusal-signature = refl

-- one byte fewer
pub sdt_refusal-length : sdt_refusal (codes "HEST") (take 103 one_source) ≡ Some sdt_errors.Length
sdt_refusal-length = refl

-- a checksum one too large
pub sdt_refusal-checksum : sdt_refusal (codes "HEST") (one_source_with 0x41 4) ≡ Some sdt_errors.Checksum
sdt_refusal-checksum = refl

-- the header cut short
pub sdt_refusal-short : sdt_refusal (codes "HEST") (take 35 one_source) ≡ Some sdt_errors.Short
sdt_refusal-short = refl
