-- The severity of an error (ACPI 6.5, 18.3.2.7.1).
use Rattle.std.specs.Prelude.{ℕ, ◌==◌, if◌then◌else◌, Bool, true, false, List, codes}
use Rattle.cper_block.specs.declared.severity.Severity.{Severity}
use Rattle.cper_block.specs.declared.severity.Severity.TheVariants.{Recoverable, Fatal, Corrected, Informational}

-- the severity of a code; a code above 3 is fatal (ACPI 6.5, 18.3.2.7.1; above 3: own choice)
abbrev pub severity_of : ℕ → Severity
severity_of code =
    if code == 0 then Recoverable
    else if code == 2 then Corrected
    else if code == 3 then Informational
    else Fatal

-- whether a severity is the fatal one (ACPI 6.5, 18.3.2.7.1)
abbrev pub is_fatal_severity : Severity → Bool
is_fatal_severity Fatal = true
is_fatal_severity Recoverable = false
is_fatal_severity Corrected = false
is_fatal_severity Informational = false

-- the word for a severity (own choice)
abbrev pub severity_text : Severity → List ℕ
severity_text Recoverable = codes "recoverable"
severity_text Fatal = codes "fatal"
severity_text Corrected = codes "corrected"
severity_text Informational = codes "none"
