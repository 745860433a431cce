-- The lines of injections (own choice).
use Rattle.std.specs.Prelude.{ℕ, List, ◌++◌, codes}
use Rattle.std.specs.Fmt.{decimal}
use Rattle.std.specs.Int.{bytes_high_first}
use Rattle.hex.specs.Hex.{encode_lower}
use Rattle.ghes_ledger.specs.declared.ledger.InjectionEnd.{InjectionEnd}
use Rattle.ghes_ledger.specs.declared.ledger.InjectionEnd.TheVariants.{Made, NotAvailable, Busy, Status, Trigger, NoAddress}
use Rattle.ghes_report.specs.Lines.{id_at}

-- the block that firmware made, by the id of its source and its number
unfoldable pub made_text : ℕ → ℕ → List ℕ
made_text id seq = codes "source " ++ decimal id ++ codes " block " ++ decimal seq

-- how an injection ended
abbrev pub end_text : List ℕ → InjectionEnd → List ℕ
end_text ids (Made source seq) = made_text (id_at ids source) seq
end_text ids NotAvailable = codes "not available"
end_text ids Busy = codes "busy"
end_text ids (Status value) = codes "status " ++ decimal value
end_text ids (Trigger reason) = codes "trigger " ++ decimal reason
end_text ids NoAddress = codes "no address"

-- what stands before it in its line: the error type, in eight digits
unfoldable pub inject_head : ℕ → List ℕ
inject_head error = codes "inject 0x" ++ encode_lower (bytes_high_first 4 error) ++ codes ": "

-- the line of an injection of an error type
unfoldable pub injection_line : List ℕ → ℕ → InjectionEnd → List ℕ
injection_line ids error end = inject_head error ++ end_text ids end ++ codes "\n"
