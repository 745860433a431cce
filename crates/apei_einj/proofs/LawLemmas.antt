-- An accepted table is its header and its entries, and these can be run.
use Rattle.std.proofs.Common.{◌≡◌, ◌≤◌, ◌⊎◌, inl, inr, ℕ, zero, suc, ◌*◌, ◌/◌, ◌==◌, ◌&&◌, nat_lt, nat_le, Bool, true, false, cond, not, List, [], ◌∷◌, ◌++◌, length, take, drop, codes, refl, sym, ap, ◌∙◌, arith, append_assoc, Option, Some, None, is_none}
use Rattle.std.specs.Option.{option_or, option_map, IsSome}
use Rattle.std.specs.List.{filter, AllByRecursion}
use Rattle.std.proofs.lemmas.Bool.{eqb-true}
use Rattle.std.proofs.lemmas.Bool.Decides.{nat_tests}
use Rattle.std.proofs.lemmas.List.{length-take-le, length-drop, take-append-drop, nil_from_length}
use Rattle.apei_base.specs.Cut.{joined, CutsInto}
use Rattle.apei_base.proofs.TableLemmas.{table_of}
use Rattle.apei_base.specs.Table.{sdt_refusal}
use Rattle.apei_base.specs.declared.sdt.SdtError.{SdtError}
use Rattle.apei_einj.specs.Anchor.{anchor_of}
use Rattle.apei_einj.specs.Entry.{pieces_of, entries_from, is_injection}
use Rattle.apei_einj.specs.Refusal.{entry_refusal, first_refusal, lacks, is_missing, first_missing, missing_refusal}
use Rattle.apei_einj.specs.Sound.{IsEinj, HasAnchors}
use Rattle.apei_einj.specs.Table.{stated_count, has_header_size, header_refusal, count_refusal, einj_entries, einj_refusal, IsRunnable}
use Rattle.apei_einj.specs.declared.entry.Entry.{Entry}
use Rattle.apei_einj.specs.declared.error.EinjError.{EinjError}
use Rattle.apei_einj.specs.declared.error.EinjError.TheVariants.{Table, HeaderSize, CountMismatch, Missing}

-- where no refusal comes, its test is false and no later one comes
not_met : {E : Type 0} (b : Bool) (error : E) (later : Option E) → cond b (Some error) later ≡ None → (b ≡ false) × (later ≡ None)
not_met true error later e = absurd (cc e)
not_met false error later e = (refl, e)

-- where a refusal comes unless a test holds, it holds
met : {E : Type 0} (b : Bool) (error : E) → cond b None (Some error) ≡ None → b ≡ true
met true error e = refl
met false error e = absurd (cc e)

-- no refusal of two
neither : (first later : Option EinjError) → option_or first later ≡ None → (first ≡ None) × (later ≡ None)
neither None later e = (refl, e)
neither (Some error) later e = absurd (cc e)

table_accepted : (why : Option SdtError) → option_map Table why ≡ None → why ≡ None
table_accepted None e = refl
table_accepted (Some why) e = absurd (cc e)

not_false : (b : Bool) → not b ≡ false → b ≡ true
not_false true e = refl
not_false false e = absurd (cc e)

both_true : (a b : Bool) → (a && b) ≡ true → (a ≡ true) × (b ≡ true)
both_true true true e = (refl, refl)
both_true true false e = absurd (cc e)
both_true false b e = absurd (cc e)

above : (n m : ℕ) → nat_lt n m ≡ false → m ≤ n
above n m e = grind (arith, nat_tests)

at_most : (n m : ℕ) → nat_le n m ≡ true → n ≤ m
at_most n m e = grind (arith, nat_tests)

-- what is not refused in an accepted table
record Accepted (bytes : List ℕ) : Type 0 where
  table : sdt_refusal (codes "EINJ") bytes ≡ None
  header : header_refusal bytes ≡ None
  count : count_refusal bytes ≡ None
  entries : first_refusal (einj_entries bytes) ≡ None
  missing : missing_refusal (einj_entries bytes) ≡ None

accepted : (bytes : List ℕ) → einj_refusal bytes ≡ None → Accepted bytes
unfolding einj_refusal
accepted bytes e =
    let table = neither (option_map Table (sdt_refusal (codes "EINJ") bytes)) _ e in
    let header = neither (header_refusal bytes) _ table.1 in
    let count = neither (count_refusal bytes) _ header.1 in
    let entries = neither (first_refusal (einj_entries bytes)) _ count.1 in
    record {
      table = table_accepted (sdt_refusal (codes "EINJ") bytes) table.0;
      header = header.0;
      count = count.0;
      entries = entries.0;
      missing = entries.1;
    }

-- bytes are cut into pieces of 32 where they are so many
pieces_cut : (n : ℕ) (bytes : List ℕ) → 32 * n ≡ length bytes → CutsInto (λ piece. length piece ≡ 32) bytes (pieces_of n bytes) []
unfolding pieces_of
pieces_cut zero bytes e = record { whole = nil_from_length bytes (omega arith); each = tt }
pieces_cut (suc n) bytes e =
    let behind = length-drop 32 bytes in
    let later = pieces_cut n (drop 32 bytes) (omega arith) in
    record {
      whole =
          sym (take-append-drop 32 bytes) ∙ ap (λ xs. take 32 bytes ++ xs) later.whole
          ∙ sym (append_assoc (take 32 bytes) (joined (pieces_of n (drop 32 bytes))) []);
      each = (length-take-le 32 bytes (omega arith), later.each);
    }

-- there are so many
pieces_many : (n : ℕ) (bytes : List ℕ) → length (pieces_of n bytes) ≡ n
unfolding pieces_of
pieces_many zero bytes = refl
pieces_many (suc n) bytes = ap suc (pieces_many n (drop 32 bytes))

-- an accepted table
pub einj_of : (bytes : List ℕ) → einj_refusal bytes ≡ None → IsEinj bytes
einj_of bytes e =
    let a = accepted bytes e in
    let header = both_true (nat_le 48 (length bytes)) (has_header_size bytes) (met (nat_le 48 (length bytes) && has_header_size bytes) HeaderSize a.header) in
    let count = met (32 * stated_count bytes == length (drop 48 bytes)) (CountMismatch (stated_count bytes) (length (drop 48 bytes) / 32)) a.count in
    record {
      table = table_of (codes "EINJ") bytes a.table;
      whole = at_most 48 (length bytes) header.0;
      sized = header.1;
      cut = pieces_cut (stated_count bytes) (drop 48 bytes) (eqb-true (32 * stated_count bytes) (length (drop 48 bytes)) count);
      as_many = pieces_many (stated_count bytes) (drop 48 bytes);
    }

-- one entry that is not refused where it is kept, before others
runnable_one : (entry : Entry) (later : List Entry) (kept : Bool) → is_injection entry ≡ kept → first_refusal (cond kept (entry ∷ later) later) ≡ None → (first_refusal later ≡ None → AllByRecursion IsRunnable later) → AllByRecursion IsRunnable (cond kept (entry ∷ later) later)
unfolding first_refusal
runnable_one entry later true is e more =
    let parts = neither (entry_refusal entry) (first_refusal later) e in
    ((is, parts.0), more parts.1)
runnable_one entry later false is e more = more e

-- entries that are kept and not refused can be run
runnable_kept : (entries : List Entry) → first_refusal (filter is_injection entries) ≡ None → AllByRecursion IsRunnable (filter is_injection entries)
runnable_kept [] e = tt
runnable_kept (entry ∷ entries) e = runnable_one entry (filter is_injection entries) (is_injection entry) refl e (runnable_kept entries)

-- the entries of an accepted table
pub runnable_of : (bytes : List ℕ) → einj_refusal bytes ≡ None → AllByRecursion IsRunnable (einj_entries bytes)
unfolding einj_entries
runnable_of bytes e = runnable_kept (entries_from 48 (pieces_of (stated_count bytes) (drop 48 bytes))) (accepted bytes e).entries

-- an anchor that is not missing
has_anchor : (found : Option Entry) → is_none found ≡ false → IsSome found
has_anchor (Some entry) e = refl
has_anchor None e = absurd (cc e)

has_either : (first second : Option Entry) → (is_none first && is_none second) ≡ false → IsSome first ⊎ IsSome second
has_either (Some entry) second e = inl refl
has_either None (Some entry) e = inr refl
has_either None None e = absurd (cc e)

and_true : (b : Bool) → (b && true) ≡ false → b ≡ false
and_true true e = e
and_true false e = refl

-- no needed action is missing
pub anchors_of : (entries : List Entry) → missing_refusal entries ≡ None → HasAnchors entries
unfolding first_missing
anchors_of entries e =
    let one = not_met (is_missing 1 entries) (Missing 1) _ e in
    let two = not_met (is_missing 2 entries) (Missing 2) _ one.1 in
    let three = not_met (is_missing 3 entries) (Missing 3) _ two.1 in
    let five = not_met (is_missing 5 entries) (Missing 5) _ three.1 in
    let six = not_met (is_missing 6 entries) (Missing 6) _ five.1 in
    let seven = not_met (is_missing 7 entries) (Missing 7) _ six.1 in
    record {
      get_trigger = has_anchor (anchor_of 1 entries) (and_true (lacks 1 entries) one.0);
      set_type = has_either (anchor_of 2 entries) (anchor_of 8 entries) two.0;
      get_type = has_anchor (anchor_of 3 entries) (and_true (lacks 3 entries) three.0);
      execute = has_anchor (anchor_of 5 entries) (and_true (lacks 5 entries) five.0);
      check_busy = has_anchor (anchor_of 6 entries) (and_true (lacks 6 entries) six.0);
      get_status = has_anchor (anchor_of 7 entries) (and_true (lacks 7 entries) seven.0);
    }

-- the anchors of an accepted table
pub anchored_of : (bytes : List ℕ) → einj_refusal bytes ≡ None → HasAnchors (einj_entries bytes)
anchored_of bytes e = anchors_of (einj_entries bytes) (accepted bytes e).missing
