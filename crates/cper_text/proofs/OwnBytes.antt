-- The lines of a block are read from its own bytes.
use Rattle.std.proofs.Common.{◌≡◌, ◌≤◌, ◌+◌, ℕ, List, ◌++◌, length, take, drop, ap, ◌∙◌, arith, None}
use Rattle.std.proofs.lemmas.List.{length-drop, drop-append-le, take-append-le}
use Rattle.apei_base.specs.Number.{number_at}
use Rattle.cper_block.specs.Header.{header_of}
use Rattle.cper_block.specs.Cut.{entries_of}
use Rattle.cper_block.specs.Block.{data_of, Judges}
use Rattle.cper_block.specs.Severity.{severity_of}
use Rattle.cper_block.proofs.EntryLemmas.{number_at-append}
use Rattle.cper_block.proofs.PartLemmas.{holds_data}
use Rattle.cper_text.specs.Entry.{entries_text}
use Rattle.cper_text.specs.Body.{severity_line, raw_line, block_text}

-- the entries of a block that holds them
data_of-append : (block behind : List ℕ) → 20 + (header_of block).length ≤ length block → data_of (block ++ behind) ≡ data_of block
data_of-append block behind long =
    let n = (header_of block).length in
    ap (λ m. take m (drop 20 (block ++ behind))) (number_at-append 12 4 block behind (omega arith))
    ∙ ap (λ xs. take n xs) (drop-append-le 20 block behind (omega arith))
    ∙ take-append-le n (drop 20 block) behind (omega (arith, length-drop 20 block))

pub block_text-append : (block behind : List ℕ) (limit : ℕ) → Judges block limit None → block_text (block ++ behind) ≡ block_text block
unfolding block_text
block_text-append block behind limit j =
    let long = holds_data block limit j in
    let all = block ++ behind in
    let lines : ℕ → List ℕ → ℕ → List ℕ = λ severity entries raw.
    severity_line (severity_of severity) ++ entries_text 0 (entries_of entries) ++ raw_line raw in
    ap (λ severity. lines severity (data_of all) (number_at 8 4 all)) (number_at-append 16 4 block behind (omega arith))
    ∙ ap (λ entries. lines (number_at 16 4 block) entries (number_at 8 4 all)) (data_of-append block behind long)
    ∙ ap (λ raw. lines (number_at 16 4 block) (data_of block) raw) (number_at-append 8 4 block behind (omega arith))
