-- A line that raises a block, and a line that injects an error, have a spelling.
use Rattle.std.proofs.Common.{◌≡◌, ◌≢◌, ◌<◌, ◌≤◌, ◌-◌, ◌*◌, ◌^◌, ℕ, Bool, true, false, cond, ◌&&◌, not, eqb, leb, codes, List, [], ◌∷◌, length, Some, None, Result, Ok, Err, refl, ap, ◌∙◌, arith}
use Rattle.std.specs.Prelude.{is_some}
use Rattle.std.specs.List.{AllByRecursion}
use Rattle.std.proofs.lemmas.Bool.{le-leb, leb-true, ne_eqb}
use Rattle.std.proofs.lemmas.List.Elements.{recursion_from_All}
use Rattle.byteorder.specs.Endian.{little_number}
use Rattle.hex.specs.Hex.{IsBytes, encode_lower, is_hex_digit}
use Rattle.hex.proofs.HexLemmas.{decode_of-encode_lower, decode_of-ok}
use Rattle.apei_einj.specs.Request.{is_error_type}
use Rattle.apei_einj.specs.declared.request.Place.{Place}
use Rattle.apei_einj.specs.declared.request.Place.TheVariants as places
use Rattle.apei_einj.specs.declared.request.Request.{Request}
use Rattle.ghes_script.specs.Asked.{or_hex, is_block, block_of, raised, raise, place_form, memory_place, processor_place, pcie_place, place_of, table_form, error_of, injection, inject, asked_by, asked}
use Rattle.ghes_script.specs.Name.{setting_of, command_of}
use Rattle.ghes_script.specs.Number.{◌>>=◌, number}
use Rattle.ghes_script.specs.Setup.{Setup, source_of}
use Rattle.ghes_script.specs.Sound.{IsRaised, FitsPlace}
use Rattle.ghes_script.specs.Spelling.{MayCome, HasSpelling}
use Rattle.ghes_script.specs.declared.error.ScriptKind.{ScriptKind}
use Rattle.ghes_script.specs.declared.error.ScriptKind.TheVariants.{Range, Source, NoInjection}
use Rattle.ghes_script.specs.declared.line.What.{What}
use Rattle.ghes_script.specs.declared.line.What.TheVariants as asks
use Rattle.ghes_script.specs.declared.sofar.Sofar.{Sofar}
use Rattle.ghes_script.proofs.InjectLemmas.{injection_of}
use Rattle.ghes_script.proofs.SpellForms.{spelled, named_by, short_form}
use Rattle.ghes_script.proofs.SpellLemmas.{Plain, IsWord, size, Spells, number_word, below_word, source_word}

parts : (a b : Bool) → (a && b) ≡ true → (a ≡ true) × (b ≡ true)
parts true b e = (refl, e)
parts false b e = absurd (let no : false ≡ true = e in cc)

both : (a b : Bool) → a ≡ true → b ≡ true → (a && b) ≡ true
both a b e f = ap (λ x. x && b) e ∙ f

-- a hexadecimal digit can stand in a word
plain_digit : (c : ℕ) → is_hex_digit c ≡ true → (33 ≤ c) × (c ≤ 126)
plain_digit c e = by_test (leb 65 c && leb c 70) (leb 97 c && leb c 102) (leb 48 c && leb c 57) refl refl refl e where
  within : (low high : ℕ) → 33 ≤ low → high ≤ 126 → (leb low c && leb c high) ≡ true → (33 ≤ c) × (c ≤ 126)
  within low high least most e =
      let bounds = parts (leb low c) (leb c high) e in
      let from : low ≤ c = leb-true low c bounds.0 in
      let to : c ≤ high = leb-true c high bounds.1 in
      (omega arith, omega arith)

  by_test : (x y z : Bool) → (leb 65 c && leb c 70) ≡ x → (leb 97 c && leb c 102) ≡ y → (leb 48 c && leb c 57) ≡ z → is_some (cond x (Some (c - 55)) (cond y (Some (c - 87)) (cond z (Some (c - 48)) None))) ≡ true → (33 ≤ c) × (c ≤ 126)
  by_test true y z p q r e = within 65 70 (omega arith) (omega arith) p
  by_test false true z p q r e = within 97 102 (omega arith) (omega arith) q
  by_test false false true p q r e = within 48 57 (omega arith) (omega arith) r
  by_test false false false p q r e = absurd (let no : false ≡ true = e in cc)

pub plain_digits : (word : List ℕ) → AllByRecursion (λ c. is_hex_digit c ≡ true) word → Plain word
plain_digits [] all = tt
plain_digits (c ∷ cs) all = let bounds = plain_digit c all.0 in (bounds, plain_digits cs all.1)

-- the word of a block
record SpellsBlock (block : List ℕ) : Type 0 where
  word : List ℕ
  is : IsWord word
  short : length word ≤ 131072
  reads : block_of word ≡ Ok block

block_word : (block : List ℕ) → IsBytes block → IsRaised block → SpellsBlock block
unfolding block_of
block_word block bytes is =
    let word : List ℕ = encode_lower block in
    let decoded = decode_of-encode_lower block bytes in
    let ok = decode_of-ok word block decoded in
    let size : length word ≡ 2 * length block = ok.2 in
    let least : 20 ≤ length block = is.least in
    let most : length block ≤ 65536 = is.most in
    let good : is_block block ≡ true = both (leb 20 (length block)) (leb (length block) 65536 && not (eqb (little_number 4 block) 0)) (le-leb 20 (length block) least)
    (both (leb (length block) 65536) (not (eqb (little_number 4 block) 0)) (le-leb (length block) 65536 most) (ap not (ne_eqb (little_number 4 block) 0 is.status))) in
    record {
      word = word;
      is = record { some = omega arith; plain = plain_digits word (recursion_from_All (λ c. is_hex_digit c ≡ true) word ok.1) };
      short = omega arith;
      reads = ap (λ r. or_hex r >>= λ block. cond (is_block block) (Ok block) (Err Range)) decoded ∙ ap (λ b. cond b (Ok block) (Err Range)) good;
    }

-- the source and the word of a block are read
pub reads_raised : (setup : Setup) (word text : List ℕ) (source : ℕ) → source_of setup word ≡ Ok source → raised setup (word ∷ text ∷ []) ≡ Ok (source, text)
unfolding raised
reads_raised setup word text source e =
    let pair : ℕ → Result (ℕ × List ℕ) ScriptKind = λ s. Ok (s, text) in
    ap (λ r. r >>= pair) e

raises : (setup : Setup) (sofar : Sofar) (source : ℕ) (block : List ℕ) → MayCome setup sofar (asks.Raise source block) → HasSpelling setup sofar (asks.Raise source block)
unfolding asked command_of setting_of asked_by raise
raises setup sofar source block may =
    let named = named_by (codes "raise") refl in
    let w = source_word setup source may.apart may.small may.allowed.0 in
    let v = block_word block may.fits may.allowed.1 in
    let next : ℕ × List ℕ → Result What ScriptKind = λ found. block_of found.1 >>= λ block. Ok (asks.Raise found.0 block) in
    spelled setup sofar (asks.Raise source block) (codes "raise") (w.word ∷ v.word ∷ []) (named.is, (w.is, (v.is, tt))) (omega (arith, named.short, w.short, v.short)) named.no_comment
    (ap (λ r. r >>= next) (reads_raised setup w.word v.word source w.reads) ∙ ap (λ r. r >>= λ block. Ok (asks.Raise source block)) v.reads)
    may.ordered

-- the word of an error type
error_word : (setup : Setup) (error : ℕ) → 0 < length setup.names → is_error_type error ≡ true → error < 2 ^ 32 → Spells ℕ (error_of setup) error
unfolding error_of
error_word setup error some is small =
    let w = number_word error (omega arith) in
    let none : length setup.names ≢ 0 = λ e. omega (arith, e) in
    record {
      word = w.word;
      is = w.is;
      short = w.short;
      reads = ap (λ r. r >>= λ error. cond (eqb (length setup.names) 0) (Err Source) (cond (is_error_type error) (Ok error) (Err Range))) w.reads
          ∙ ap (λ b. cond b (Err Source) (cond (is_error_type error) (Ok error) (Err Range))) (ne_eqb (length setup.names) 0 none)
          ∙ ap (λ b. cond b (Ok error) (Err Range)) is;
    }

-- the words of a place
record SpellsPlace (place : Place) : Type 0 where
  words : List (List ℕ)
  are : AllByRecursion IsWord words
  short : size words ≤ 100
  formed : place_form words ≡ Ok tt
  reads : place_of words ≡ Ok place

place_words : (place : Place) → FitsPlace place → SpellsPlace place
unfolding place_form place_of memory_place processor_place pcie_place
place_words places.Nowhere fits = record { words = []; are = tt; short = omega arith; formed = refl; reads = refl }
place_words (places.Memory address mask) fits =
    let named = named_by (codes "memory") refl in
    let w = number_word address fits.0 in
    let v = number_word mask fits.1 in
    record {
      words = codes "memory" ∷ w.word ∷ v.word ∷ [];
      are = (named.is, (w.is, (v.is, tt)));
      short = omega (arith, named.short, w.short, v.short);
      formed = refl;
      reads = ap (λ r. r >>= λ address. number v.word >>= λ mask. Ok (places.Memory address mask)) w.reads ∙ ap (λ r. r >>= λ mask. Ok (places.Memory address mask)) v.reads;
    }
place_words (places.Processor id) fits =
    let named = named_by (codes "processor") refl in
    let below : id < 2 ^ 32 = fits in
    let w = below_word (2 ^ 32) id below (omega arith) in
    record {
      words = codes "processor" ∷ w.word ∷ [];
      are = (named.is, (w.is, tt));
      short = omega (arith, named.short, w.short);
      formed = refl;
      reads = ap (λ r. r >>= λ id. Ok (places.Processor id)) w.reads;
    }
place_words (places.Pcie function) fits =
    let named = named_by (codes "pcie") refl in
    let below : function < 2 ^ 32 = fits in
    let w = below_word (2 ^ 32) function below (omega arith) in
    record {
      words = codes "pcie" ∷ w.word ∷ [];
      are = (named.is, (w.is, tt));
      short = omega (arith, named.short, w.short);
      formed = refl;
      reads = ap (λ r. r >>= λ function. Ok (places.Pcie function)) w.reads;
    }

injects : (setup : Setup) (sofar : Sofar) (request : Request) → MayCome setup sofar (asks.Inject request) → HasSpelling setup sofar (asks.Inject request)
unfolding asked command_of setting_of asked_by inject
injects setup sofar request may =
    let named = named_by (codes "inject") refl in
    let w = error_word setup request.error may.allowed.1 request.error_is may.fits in
    let place = place_words request.place may.allowed.2 in
    spelled setup sofar (asks.Inject request) (codes "inject") (w.word ∷ place.words) (named.is, (w.is, place.are)) (omega (arith, named.short, w.short, place.short)) named.no_comment
    (
    ap (λ r. r >>= λ form. table_form setup >>= λ table. error_of setup w.word >>= λ error. place_of place.words >>= λ place. injection error place) place.formed
    ∙ ap (λ b. cond b (Ok tt) (Err NoInjection) >>= λ table. error_of setup w.word >>= λ error. place_of place.words >>= λ place. injection error place) may.allowed.0
    ∙ ap (λ r. r >>= λ error. place_of place.words >>= λ place. injection error place) w.reads
    ∙ ap (λ r. r >>= λ place. injection request.error place) place.reads
    ∙ injection_of request.error request.place request.error_is
    )
    may.ordered

-- what may come has a spelling
pub spells : (setup : Setup) (sofar : Sofar) (what : What) → MayCome setup sofar what → HasSpelling setup sofar what
spells setup sofar what may = short_form setup sofar what may (raises setup sofar) (injects setup sofar)
