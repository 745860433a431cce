-- A well-formed block by its parts, its entries by the cut, and one judgement.
use Rattle.std.proofs.Common.{◌≡◌, ◌≤◌, ℕ, zero, suc, true, false, cond, List, [], ◌∷◌, ◌++◌, map, length, take, drop, refl, sym, ap, ◌∙◌, arith, append_assoc, Option, Some, None}
use Rattle.std.specs.List.{flat_map, AllByRecursion}
use Rattle.std.proofs.lemmas.Bool.{false≢true}
use Rattle.std.proofs.lemmas.List.{length-append, take_at, drop_at}
use Rattle.cper_block.specs.declared.malformed.Malformed.{Malformed}
use Rattle.cper_block.specs.Entry.{entry_length, fields_of}
use Rattle.cper_block.specs.Cut.{IsEntry, Cuts, begins_entry, rest_reason, Walks, entries_in, entries_of}
use Rattle.cper_block.specs.Block.{data_of, front_reason, JudgedBy, Judges}
use Rattle.cper_block.proofs.EntryLemmas.{entry_length-append}
use Rattle.cper_block.proofs.CutLemmas.{entries_step, begins_long}

-- bytes that begin with an entry
entry_first : (entry rest : List ℕ) → IsEntry entry → (entry_length (entry ++ rest) ≡ length entry) × (begins_entry (entry ++ rest) ≡ true)
entry_first entry rest e =
    let stated : entry_length (entry ++ rest) ≡ length entry = entry_length-append entry rest e.header ∙ sym e.stated in
    let size = length-append entry rest in
    (stated, begins_long (entry ++ rest) (omega (arith, e.header)) (omega arith))

-- no entry begins a rest, so it has none
none_in_rest : (n : ℕ) (rest : List ℕ) → begins_entry rest ≡ false → entries_in n rest ≡ []
none_in_rest zero rest none = refl
none_in_rest (suc n) rest none = ap (λ b. cond b (fields_of (take (entry_length rest) rest) ∷ entries_in n (drop (entry_length rest) rest)) []) none

-- the entries of data that is cut
entries_of_joined : (entries : List (List ℕ)) (rest : List ℕ) → AllByRecursion IsEntry entries → begins_entry rest ≡ false → entries_of (flat_map (λ (entry : List ℕ). entry) entries ++ rest) ≡ map fields_of entries
entries_of_joined [] rest all none = none_in_rest (length rest) rest none
entries_of_joined (entry ∷ entries) rest all none =
    let later = flat_map (λ (e : List ℕ). e) entries ++ rest in
    let first = entry_first entry later all.0 in
    let grouped : (entry ++ flat_map (λ (e : List ℕ). e) entries) ++ rest ≡ entry ++ later = append_assoc entry (flat_map (λ (e : List ℕ). e) entries) rest in
    let size = length-append entry later in
    let long : 64 ≤ length (entry ++ later) = omega (arith, all.0.header) in
    ap entries_of grouped ∙ entries_step (entry ++ later) first.1 long
    ∙ ap (λ n. fields_of (take n (entry ++ later)) ∷ entries_of (drop n (entry ++ later))) first.0
    ∙ ap (λ xs. fields_of xs ∷ entries_of (drop (length entry) (entry ++ later))) (take_at entry later (length entry) refl)
    ∙ ap (λ xs. fields_of entry ∷ entries_of xs) (drop_at entry later (length entry) refl)
    ∙ ap (λ xs. fields_of entry ∷ xs) (entries_of_joined entries rest all.1 none)

pub entries_are : (bytes rest : List ℕ) (entries : List (List ℕ)) → Cuts bytes entries rest → begins_entry rest ≡ false → entries_of bytes ≡ map fields_of entries
entries_are bytes rest entries c none = ap entries_of c.whole ∙ entries_of_joined entries rest c.each none

-- two cuts of one text leave as many entries and the same rest
cut_once : (entries others : List (List ℕ)) (rest rest' : List ℕ) → AllByRecursion IsEntry entries → AllByRecursion IsEntry others → begins_entry rest ≡ false → begins_entry rest' ≡ false → flat_map (λ (e : List ℕ). e) entries ++ rest ≡ flat_map (λ (e : List ℕ). e) others ++ rest' → (length entries ≡ length others) × (rest ≡ rest')
cut_once [] [] rest rest' all all' none none' e = (refl, e)
cut_once [] (other ∷ others) rest rest' all all' none none' e =
    let later = flat_map (λ (x : List ℕ). x) others ++ rest' in
    let grouped = append_assoc other (flat_map (λ (x : List ℕ). x) others) rest' in
    absurd (false≢true (sym none ∙ ap begins_entry (e ∙ grouped) ∙ (entry_first other later all'.0).1))
cut_once (entry ∷ entries) [] rest rest' all all' none none' e =
    let later = flat_map (λ (x : List ℕ). x) entries ++ rest in
    let grouped = append_assoc entry (flat_map (λ (x : List ℕ). x) entries) rest in
    absurd (false≢true (sym none' ∙ ap begins_entry (sym e ∙ grouped) ∙ (entry_first entry later all.0).1))
cut_once (entry ∷ entries) (other ∷ others) rest rest' all all' none none' e =
    let later = flat_map (λ (x : List ℕ). x) entries ++ rest in
    let later' = flat_map (λ (x : List ℕ). x) others ++ rest' in
    let both : entry ++ later ≡ other ++ later' =
    sym (append_assoc entry (flat_map (λ (x : List ℕ). x) entries) rest) ∙ e ∙ append_assoc other (flat_map (λ (x : List ℕ). x) others) rest' in
    let size : length entry ≡ length other = sym (entry_first entry later all.0).0 ∙ ap entry_length both ∙ (entry_first other later' all'.0).0 in
    let tails : later ≡ later' = sym (drop_at entry later (length entry) refl) ∙ ap (drop (length entry)) both ∙ drop_at other later' (length entry) (sym size) in
    let more = cut_once entries others rest rest' all.1 all'.1 none none' tails in
    (ap suc more.0, more.1)

walks_once : (bytes : List ℕ) (first second : Option Malformed) → Walks bytes first → Walks bytes second → first ≡ second
walks_once bytes first second (entries, rest, cuts, none, is) (others, rest', cuts', none', is') =
    let same = cut_once entries others rest rest' cuts.each cuts'.each none none' (sym cuts.whole ∙ cuts'.whole) in
    is ∙ ap (λ n. rest_reason n rest) same.0 ∙ ap (rest_reason (length others)) same.1 ∙ sym is'

judged_once : (reason : Option Malformed) (bytes : List ℕ) (first second : Option Malformed) → JudgedBy reason bytes first → JudgedBy reason bytes second → first ≡ second
judged_once (Some reason) bytes first second j k = j ∙ sym k
judged_once None bytes first second j k = walks_once bytes first second j k

pub one_judgement : (bytes : List ℕ) (limit : ℕ) (first second : Option Malformed) → Judges bytes limit first → Judges bytes limit second → first ≡ second
one_judgement bytes limit first second j k = judged_once (front_reason bytes limit) (data_of bytes) first second j k
