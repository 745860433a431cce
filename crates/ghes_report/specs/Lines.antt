-- The lines of calls and of taken blocks, as functions of the ids of the sources and the reports (own choice).
use Rattle.std.specs.Prelude.{ℕ, ◌-◌, List, [], ◌∷◌, ◌++◌, take, drop, slice_get, codes, Option, Some, None}
use Rattle.std.specs.Fmt.{decimal}
use Rattle.cper_block.specs.Text.{malformed_text}
use Rattle.ghes_call.specs.declared.call.AckState.{AckState}
use Rattle.ghes_call.specs.declared.call.AckState.TheVariants.{Failed}
use Rattle.ghes_call.specs.declared.call.Call.{Call}
use Rattle.ghes_call.specs.declared.call.Outcome.{Outcome}
use Rattle.ghes_call.specs.declared.call.Outcome.TheVariants.{Nothing, Queued, Malformed, Duplicate, Fatal, NoSlot, Fault, Stopped}
use Rattle.ghes_ledger.specs.declared.ledger.Report.{Report}
use Rattle.ghes_ledger.specs.declared.ledger.Reported.{Reported}
use Rattle.ghes_ledger.specs.declared.ledger.Reported.TheVariants.{New, Repeat}
use Rattle.ghes_ledger.specs.declared.ledger.Taken.{Taken}
use Rattle.ghes_ledger.specs.declared.ledger.Taken.TheVariants.{Delivered, Dropped}
use Rattle.ghes_report.specs.declared.lines.Told.{Told}
use Rattle.cper_text.specs.Report.{report_text, drop_text}

-- the id of the source at a position, and 0 where there is none
abbrev pub id_or : Option ℕ → ℕ
id_or None = 0
id_or (Some id) = id

abbrev pub id_at : List ℕ → ℕ → ℕ
id_at ids source = id_or (slice_get ids source)

-- The block that a report told, by the id of its source and its number: report r is element r - 1. Where there is none: 0 and 0.
abbrev pub told_by : List ℕ → Option Report → Told
told_by ids None = record { id = 0; seq = 0 }
told_by ids (Some report) = record { id = id_at ids report.source; seq = report.seq }

abbrev pub told_in : List ℕ → List Report → ℕ → Told
told_in ids reports number = told_by ids (slice_get reports (number - 1))

-- the report of a duplicate
abbrev pub told_of : List ℕ → List Report → Outcome → Told
told_of ids reports (Duplicate number report) = told_in ids reports report
told_of ids reports _ = record { id = 0; seq = 0 }

-- the block that a report told
unfoldable pub told_text : Told → List ℕ
told_text told = codes "source " ++ decimal told.id ++ codes " block " ++ decimal told.seq

-- how a call ended; a duplicate names the block that its report told
abbrev pub outcome_text : Told → Outcome → List ℕ
outcome_text told Nothing = codes "nothing"
outcome_text told (Queued number) = codes "queued " ++ decimal number
outcome_text told (Malformed number reason) = codes "malformed " ++ decimal number ++ codes ": " ++ malformed_text reason
outcome_text told (Duplicate number report) = codes "duplicate " ++ decimal number ++ codes " of " ++ told_text told
outcome_text told (Fatal number) = codes "fatal " ++ decimal number
outcome_text told NoSlot = codes "no slot"
outcome_text told Fault = codes "fault"
outcome_text told Stopped = codes "stopped"

-- an acknowledgement that failed is told
abbrev pub ack_text : AckState → List ℕ
ack_text Failed = codes ", ack failed"
ack_text _ = []

-- the line of a call, by the id of its source, how it ended, and what is told of its acknowledgement
unfoldable pub call_line : ℕ → List ℕ → List ℕ → List ℕ
call_line id outcome ack = codes "nmi " ++ decimal id ++ codes ": " ++ outcome ++ ack ++ codes "\n"

-- the line of a call
abbrev pub call_text : List ℕ → List Report → Call → List ℕ
call_text ids reports call =
    call_line (id_at ids call.source) (outcome_text (told_of ids reports call.reply.outcome) call.reply.outcome) (ack_text call.reply.ack)

-- the line of a repeat: the block, and the block that its report told
unfoldable pub repeat_line : ℕ → ℕ → Told → List ℕ
repeat_line id seq told = codes "repeat source " ++ decimal id ++ codes " block " ++ decimal seq ++ codes " of " ++ told_text told ++ codes "\n"

-- the lines of a delivered block, as it was told
abbrev pub delivered_text : List ℕ → List Report → ℕ → ℕ → List ℕ → Reported → List ℕ
delivered_text ids reports id seq bytes (New number) = report_text id seq bytes
delivered_text ids reports id seq bytes (Repeat number) = repeat_line id seq (told_in ids reports number)

-- the lines of a taken block
abbrev pub taken_text : List ℕ → List Report → Taken → List ℕ
taken_text ids reports (Delivered source seq bytes reported) = delivered_text ids reports (id_at ids source) seq bytes reported
taken_text ids reports (Dropped source seq bytes reason) = drop_text (id_at ids source) seq reason bytes

-- what stands in a list from one count to another
abbrev pub between : {A : Type 0} → ℕ → ℕ → List A → List A
between from to xs = take (to - from) (drop from xs)
