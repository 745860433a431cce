-- The block of an injected error is well formed, and has the severity of its type.
use Rattle.std.proofs.Common.{◌≡◌, ◌≤◌, ◌+◌, ℕ, Bool, true, false, cond, List, [], ◌∷◌, ◌++◌, length, replicate, refl, sym, ◌∙◌, None, arith}
use Rattle.byteorder.specs.Endian.{little_bytes}
use Rattle.apei_base.specs.Number.{number_at}
use Rattle.cper_block.specs.Header.{header_of}
use Rattle.cper_block.specs.Reason.{reason_of}
use Rattle.cper_block.specs.Severity.{severity_of}
use Rattle.cper_block.specs.declared.severity.Severity.TheVariants as severities
use Rattle.fw_einj.specs.Block.{block_of}
use Rattle.fw_einj.specs.Class.{class_of, is_correctable, is_fatal_type, type_severity, guid_bytes}
use Rattle.fw_einj.specs.Section.{section_by, section_length}
use Rattle.fw_einj.specs.declared.class.Class.{Class}
use Rattle.fw_einj.specs.declared.class.Class.TheVariants.{Processor, Memory, Pcie, Platform}
use Rattle.fw_einj.specs.declared.injection.Injection.{Injection}

-- the block of an error of a class that is correctable or not, and fatal or not
abbrev block_with : Class → Bool → Bool → Injection → List ℕ
block_with of correctable fatal injection =
    (little_bytes 4 (cond correctable 0x12 0x11) ++ (replicate 8 0 ++ (little_bytes 4 (64 + section_length of)
    ++ little_bytes 4 (cond correctable 2 (cond fatal 1 0)))))
    ++ ((guid_bytes of ++ (little_bytes 4 (cond correctable 2 (cond fatal 1 0)) ++ (little_bytes 2 0x0201 ++ (0 ∷ 0 ∷ []
    ++ (little_bytes 4 (section_length of) ++ replicate 36 0)))))
    ++ section_by of injection)

-- it is well formed
reason-none : (of : Class) (correctable fatal : Bool) (injection : Injection) → reason_of (block_with of correctable fatal injection) 65536 ≡ None
unfolding reason_of section_by
reason-none Processor true fatal injection = refl
reason-none Processor false true injection = refl
reason-none Processor false false injection = refl
reason-none Memory true fatal injection = refl
reason-none Memory false true injection = refl
reason-none Memory false false injection = refl
reason-none Pcie true fatal injection = refl
reason-none Pcie false true injection = refl
reason-none Pcie false false injection = refl
reason-none Platform true fatal injection = refl
reason-none Platform false true injection = refl
reason-none Platform false false injection = refl

pub block_reason-none : (injection : Injection) → reason_of (block_of injection) 65536 ≡ None
unfolding block_of
block_reason-none injection = reason-none (class_of injection.error) (is_correctable injection.error) (is_fatal_type injection.error) injection

-- the severity in its header
severity-with : (of : Class) (correctable fatal : Bool) (injection : Injection)
    → severity_of (header_of (block_with of correctable fatal injection)).severity
    ≡ cond correctable severities.Corrected (cond fatal severities.Fatal severities.Recoverable)
severity-with of true fatal injection = refl
severity-with of false true injection = refl
severity-with of false false injection = refl

pub block_severity : (injection : Injection) → severity_of (header_of (block_of injection)).severity ≡ type_severity injection.error
unfolding block_of
block_severity injection = severity-with (class_of injection.error) (is_correctable injection.error) (is_fatal_type injection.error) injection

-- its block status
status-with : (of : Class) (correctable fatal : Bool) (injection : Injection) → number_at 0 4 (block_with of correctable fatal injection) ≡ cond correctable 0x12 0x11
status-with of true fatal injection = refl
status-with of false fatal injection = refl

either-some : (b : Bool) → cond {A = ℕ} b 0x12 0x11 ≡ 0 → ⊥
either-some true e = absurd (cc e)
either-some false e = absurd (cc e)

pub block_status-some : (injection : Injection) → number_at 0 4 (block_of injection) ≡ 0 → ⊥
unfolding block_of
block_status-some injection none =
    either-some (is_correctable injection.error)
    (sym (status-with (class_of injection.error) (is_correctable injection.error) (is_fatal_type injection.error) injection) ∙ none)

-- how long it is
length-with : (of : Class) (correctable fatal : Bool) (injection : Injection) → length (block_with of correctable fatal injection) ≡ 84 + section_length of
unfolding section_by
length-with Processor correctable fatal injection = refl
length-with Memory correctable fatal injection = refl
length-with Pcie correctable fatal injection = refl
length-with Platform correctable fatal injection = refl

section-short : (of : Class) → section_length of ≤ 208
section-short Processor = omega arith
section-short Memory = omega arith
section-short Pcie = omega arith
section-short Platform = omega arith

pub length-block : (injection : Injection) → length (block_of injection) ≡ 84 + section_length (class_of injection.error)
unfolding block_of
length-block injection = length-with (class_of injection.error) (is_correctable injection.error) (is_fatal_type injection.error) injection

pub block-short : (injection : Injection) → length (block_of injection) ≤ 292
block-short injection =
    let short = section-short (class_of injection.error) in
    let is = length-block injection in
    omega arith
