-- What is told of a file decides what is loaded from it.
use Rattle.std.proofs.Common.{◌≡◌, ◌<◌, ℕ, List, length, Option, Some, None, Result, Ok, Err, refl, sym, ap, subst, ◌∙◌, arith}
use Rattle.apei_einj.specs.Table.{einj_entries, einj_refusal}
use Rattle.apei_einj.specs.declared.entry.Entry.{Entry}
use Rattle.apei_einj.specs.declared.error.EinjError.{EinjError}
use Rattle.apei_hest.specs.Hest.{Judges}
use Rattle.apei_hest.specs.declared.error.HestError.{HestError}
use Rattle.apei_hest.specs.declared.source.Source.{Source}
use Rattle.apei_hest.proofs.LawLemmas.{one_judgement}
use Rattle.ghes_outside.specs.Outside.{Agrees, IsLonger, FilesSeen}
use Rattle.ghes_replay.specs.declared.exit.InputFile.{InputFile}
use Rattle.ghes_replay.specs.declared.exit.InputFile.TheVariants as files
use Rattle.ghes_replay.specs.Loading.{HasHest, HasTables, HasInjection}
use Rattle.ghes_replay.specs.Seen.{IsLoaded, limit_for}
use Rattle.ghes_replay.specs.Task.{IsEinjName}
use Rattle.ghes_replay.specs.Told.{IsTold, TellsHest, TellsInjection, TellsTables, RefusesHest, RefusesEinj}
use Rattle.ghes_script.specs.Script.{BadLine, IsScript, IsRefusedAt}
use Rattle.ghes_script.specs.Setup.{Setup}
use Rattle.ghes_script.specs.declared.line.Line.{Line}
use Rattle.ghes_script.proofs.OneReading.{not_both, same_lines}

-- what was loaded is what is told
pub same_bytes : (seen : FilesSeen) (file : InputFile) (name bytes told : List ℕ) → IsLoaded seen file name bytes → IsTold seen file name told → bytes ≡ told
same_bytes seen file name bytes told l t =
    let P : Option (List ℕ) → Type 0 = λ o. Agrees o bytes in
    subst P t.told l.told

-- what is told within a limit is not longer
pub not_longer : (seen : FilesSeen) (file : InputFile) (name told : List ℕ) → IsTold seen file name told → IsLonger (seen.contents name) (limit_for file) → ⊥
not_longer seen file name told t longer =
    let P : Option (List ℕ) → Type 0 = λ o. IsLonger o (limit_for file) in
    let more : limit_for file < length told = subst P t.told longer in
    let within = t.within in
    omega arith

-- a loaded and a told table of one name are judged alike
judged_alike : (seen : FilesSeen) (name bytes told : List ℕ) (first second : Result (List Source) HestError) → IsLoaded seen files.Hest name bytes → IsTold seen files.Hest name told → Judges bytes first → Judges told second → first ≡ second
judged_alike seen name bytes told first second l t j k =
    let P : List ℕ → Type 0 = λ xs. Judges xs first in
    one_judgement told first second (subst P (same_bytes seen files.Hest name bytes told l t) j) k

abbrev ok_of : List Source → Result (List Source) HestError
ok_of found = Ok found

ok_once : (found found' : List Source) → ok_of found ≡ ok_of found' → found ≡ found'
ok_once found found' e = cc

pub hest_once : (seen : FilesSeen) (name : List ℕ) (found found' : List Source) → HasHest seen name found → TellsHest seen name found' → found ≡ found'
hest_once seen name found found' (bytes, l, j) (told, t, k) = ok_once found found' (judged_alike seen name bytes told (Ok found) (Ok found') l t j k)

pub hest_not_refused : (seen : FilesSeen) (name : List ℕ) (found : List Source) → HasHest seen name found → RefusesHest seen name → ⊥
hest_not_refused seen name found (bytes, l, j) (told, t, error, k) =
    let both = judged_alike seen name bytes told (Ok found) (Err error) l t j k in cc

pub hest_not_accepted : (seen : FilesSeen) (name : List ℕ) (bytes : List ℕ) (error : HestError) (found : List Source) → IsLoaded seen files.Hest name bytes → Judges bytes (Err error) → TellsHest seen name found → ⊥
hest_not_accepted seen name bytes error found l j (told, t, k) =
    let both = judged_alike seen name bytes told (Err error) (Ok found) l t j k in cc

-- the entries that a word names
once_named : (seen : FilesSeen) (name : List ℕ) (injection injection' : Option (List Entry)) → HasInjection seen name injection → TellsInjection seen name injection' → injection ≡ injection'
once_named seen name None None none none' = refl
once_named seen name None (Some entries') none tells = absurd (tells.0 none)
once_named seen name (Some entries) None has none = absurd (has.0 none)
once_named seen name (Some entries) (Some entries') (named, (bytes, l, (accepted, is))) (named', told, t, (accepted', is')) =
    ap Some (is ∙ ap einj_entries (same_bytes seen files.Einj name bytes told l t) ∙ sym is')

-- the sources and the entries of two tables
pub found_once : (seen : FilesSeen) (hest einj : List ℕ) (found found' : List Source) (injection injection' : Option (List Entry)) → HasTables seen hest einj found injection → TellsTables seen hest einj found' injection' → found ≡ found'
found_once seen hest einj found found' injection injection' has tells = hest_once seen hest found found' has.table tells.table

pub named_once : (seen : FilesSeen) (hest einj : List ℕ) (found found' : List Source) (injection injection' : Option (List Entry)) → HasTables seen hest einj found injection → TellsTables seen hest einj found' injection' → injection ≡ injection'
named_once seen hest einj found found' injection injection' has tells = once_named seen einj injection injection' has.named tells.named

-- a told script is not both accepted and refused
pub not_refused_at : (seen : FilesSeen) (script : List ℕ) (setup : Setup) (bytes told : List ℕ) (lines : List Line) (at : BadLine) → IsLoaded seen files.Script script bytes → IsTold seen files.Script script told → IsRefusedAt setup bytes at → IsScript setup told lines → ⊥
not_refused_at seen script setup bytes told lines at l t refused spelled =
    let T : List ℕ → Type 0 = λ xs. IsScript setup xs lines in
    not_both setup bytes lines at (subst T (sym (same_bytes seen files.Script script bytes told l t)) spelled) refused

-- the lines of a script that was loaded are those that are told
pub not_read_at : (seen : FilesSeen) (script : List ℕ) (setup : Setup) (bytes told : List ℕ) (lines : List Line) (at : BadLine) → IsLoaded seen files.Script script bytes → IsTold seen files.Script script told → IsScript setup bytes lines → IsRefusedAt setup told at → ⊥
not_read_at seen script setup bytes told lines at l t spelled refused =
    let T : List ℕ → Type 0 = λ xs. IsScript setup xs lines in
    not_both setup told lines at (subst T (same_bytes seen files.Script script bytes told l t) spelled) refused

pub same_lines_told : (seen : FilesSeen) (script : List ℕ) (setup : Setup) (bytes told : List ℕ) (lines lines' : List Line) → IsLoaded seen files.Script script bytes → IsTold seen files.Script script told → IsScript setup bytes lines → IsScript setup told lines' → lines ≡ lines'
same_lines_told seen script setup bytes told lines lines' l t one other =
    let T : List ℕ → Type 0 = λ xs. IsScript setup xs lines in
    same_lines setup told lines lines' (subst T (same_bytes seen files.Script script bytes told l t) one) other

-- an injection table that was loaded is accepted, and a told one of that name is not refused
pub einj_not_refused : (seen : FilesSeen) (name : List ℕ) (injection : Option (List Entry)) → HasInjection seen name injection → RefusesEinj seen name → ⊥
einj_not_refused seen name None none refuses = refuses.0 none
einj_not_refused seen name (Some entries) (named, (bytes, l, (accepted, is))) (named', told, t, error, refused) =
    let both = sym accepted ∙ ap einj_refusal (same_bytes seen files.Einj name bytes told l t) ∙ refused in cc

-- an injection table that was loaded is refused, and a told one of that name is not accepted
pub einj_not_accepted : (seen : FilesSeen) (name bytes : List ℕ) (error : EinjError) (injection : Option (List Entry)) → IsEinjName name → IsLoaded seen files.Einj name bytes → einj_refusal bytes ≡ Some error → TellsInjection seen name injection → ⊥
einj_not_accepted seen name bytes error None named l refused none = named none
einj_not_accepted seen name bytes error (Some entries) named l refused (is_name, told, t, (accepted, is)) =
    let both = sym refused ∙ ap einj_refusal (same_bytes seen files.Einj name bytes told l t) ∙ accepted in cc
