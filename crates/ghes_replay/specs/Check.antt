-- The listing of a table and an injection table (own choice).
use Rattle.std.specs.Prelude.{ℕ, Bool, true, false, is_some, List, ◌++◌, length, codes, Option, Some, None}
use Rattle.std.specs.List.{flat_map}
use Rattle.std.specs.Fmt.{decimal}
use Rattle.apei_einj.specs.declared.entry.Entry.{Entry}
use Rattle.apei_hest.specs.declared.source.Ghes.{Ghes}
use Rattle.apei_hest.specs.declared.source.Source.{Source}
use Rattle.apei_hest.specs.declared.source.Source.TheVariants as sources

-- the version of a generic source, and whether it is enabled
abbrev pub form_text : Bool → Bool → List ℕ
form_text false false = codes "ghes disabled"
form_text false true = codes "ghes enabled"
form_text true false = codes "ghesv2 disabled"
form_text true true = codes "ghesv2 enabled"

-- the line of a generic source, by the words for its form
unfoldable pub ghes_line : List ℕ → Ghes → List ℕ
ghes_line form ghes =
    decimal ghes.id ++ codes " at " ++ decimal ghes.at ++ codes ": " ++ form ++ codes ", notification " ++ decimal ghes.notify.kind
    ++ codes ", block length " ++ decimal ghes.block_length ++ codes "\n"

-- the line of a structure whose contents are not read
unfoldable pub skipped_line : ℕ → ℕ → ℕ → ℕ → List ℕ
skipped_line kind id at length =
    decimal id ++ codes " at " ++ decimal at ++ codes ": type " ++ decimal kind ++ codes ", length " ++ decimal length ++ codes "\n"

-- the line of a source
abbrev pub source_text : Source → List ℕ
source_text (sources.Skipped kind id at length) = skipped_line kind id at length
source_text (sources.Ghes ghes) = ghes_line (form_text (is_some ghes.ack) ghes.enabled) ghes

-- the line of a table, by how many sources it has
unfoldable pub hest_count_line : ℕ → List ℕ
hest_count_line count = codes "hest: " ++ decimal count ++ codes " sources\n"

-- the line of an injection table, by how many entries it has
unfoldable pub einj_count_line : ℕ → List ℕ
einj_count_line count = codes "einj: " ++ decimal count ++ codes " entries\n"

-- the line of an injection table, by its entries, or that there is none
abbrev pub injection_line : Option (List Entry) → List ℕ
injection_line None = codes "einj: none\n"
injection_line (Some entries) = einj_count_line (length entries)

-- The listing of a table: how many sources it has, a line for each, and the line of the injection table.
abbrev pub check_text : List Source → Option (List Entry) → List ℕ
check_text found injection =
    hest_count_line (length found) ++ (flat_map source_text found ++ injection_line injection)
