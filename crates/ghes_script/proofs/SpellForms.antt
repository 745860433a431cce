-- What may come has a spelling, form by form.
use Rattle.std.proofs.Common.{◌≡◌, ◌<◌, ◌≤◌, ◌^◌, ℕ, Bool, true, false, cond, ◌&&◌, ltb, leb, not, codes, List, [], ◌∷◌, length, Result, Ok, refl, sym, ap, ◌∙◌, arith}
use Rattle.std.specs.List.{AllByRecursion, list_all}
use Rattle.std.proofs.lemmas.Bool.{le-ltb, leb-true, ltb-true}
use Rattle.apei_einj.specs.declared.request.Request.{Request}
use Rattle.ghes_script.specs.Answer.{is_printable, is_comment, in_order, words_answer, answer_of}
use Rattle.ghes_script.specs.Asked.{slots, contexts, serve, ackcell, available, busy, status, route, clock, nmi, work, run, peek, fail, asked_by, asked}
use Rattle.ghes_script.specs.Name.{setting_of, command_of, class_of}
use Rattle.ghes_script.specs.Number.{or_kind, ◌>>=◌, number, number_within, number_below}
use Rattle.ghes_script.specs.Setup.{Setup, source_of, acked_source_of}
use Rattle.ghes_script.specs.Sofar.{is_in_order}
use Rattle.ghes_script.specs.Spelling.{MayCome, HasSpelling}
use Rattle.ghes_script.specs.Words.{words_of}
use Rattle.ghes_script.specs.declared.answer.Answer.TheVariants.{Skipped, Asks, Bad}
use Rattle.ghes_script.specs.declared.error.ScriptKind.{ScriptKind}
use Rattle.ghes_script.specs.declared.error.ScriptKind.TheVariants.{Order, Unprintable, TooLong, Range}
use Rattle.ghes_script.specs.declared.line.Class.{Class}
use Rattle.ghes_script.specs.declared.line.Class.TheVariants as classes
use Rattle.ghes_script.specs.declared.line.What.{What}
use Rattle.ghes_script.specs.declared.line.What.TheVariants as asks
use Rattle.ghes_script.specs.declared.sofar.Sofar.{Sofar}
use Rattle.ghes_script.proofs.SpellLemmas.{Plain, IsWord, joined, size, length-joined, words_of-joined, printable-joined, Spells, number_word, within_word, below_word, source_word, acked_word}

-- words that are read as what they ask for, joined
pub spelled : (setup : Setup) (sofar : Sofar) (what : What) (name : List ℕ) (args : List (List ℕ)) → AllByRecursion IsWord (name ∷ args) → size (name ∷ args) ≤ 132000 → is_comment name ≡ false → asked setup sofar name args ≡ Ok what → is_in_order sofar what ≡ true → HasSpelling setup sofar what
unfolding answer_of
spelled setup sofar what name args words fits plain asks_it ordered =
    let text : List ℕ = joined (name ∷ args) in
    let same : length text ≡ size (name ∷ args) = length-joined (name ∷ args) in
    let short : length text ≤ 132000 = omega arith in
    record {
      text = text;
      reads = ap (λ b. cond b (Bad TooLong) (cond (list_all is_printable text) (words_answer setup sofar (words_of text)) (Bad Unprintable))) (le-ltb 132000 (length text) short)
          ∙ ap (λ b. cond b (words_answer setup sofar (words_of text)) (Bad Unprintable)) (printable-joined (name ∷ args) words)
          ∙ ap (words_answer setup sofar) (words_of-joined (name ∷ args) words)
          ∙ ap (λ b. cond b Skipped (in_order sofar (asked setup sofar name args))) plain
          ∙ ap (in_order sofar) asks_it
          ∙ ap (λ b. cond b (Asks what) (Bad Order)) ordered;
    }

-- a word that is written out
abbrev pub is_name : List ℕ → Bool
is_name word = (list_all (λ b. leb 33 b && leb b 126) word && (ltb 0 (length word) && leb (length word) 20)) && not (is_comment word)

parts : (a b : Bool) → (a && b) ≡ true → (a ≡ true) × (b ≡ true)
parts true b e = (refl, e)
parts false b e = absurd (let no : false ≡ true = e in cc)

plain_by : (word : List ℕ) → list_all (λ b. leb 33 b && leb b 126) word ≡ true → Plain word
plain_by [] e = tt
plain_by (x ∷ xs) e =
    let first = parts (leb 33 x && leb x 126) (list_all (λ b. leb 33 b && leb b 126) xs) e in
    let bounds = parts (leb 33 x) (leb x 126) first.0 in
    ((leb-true 33 x bounds.0, leb-true x 126 bounds.1), plain_by xs first.1)

-- what is known of such a word
pub record IsName (word : List ℕ) : Type 0 where
  pub is : IsWord word
  pub short : length word ≤ 20
  pub no_comment : is_comment word ≡ false

pub named_by : (word : List ℕ) → is_name word ≡ true → IsName word
named_by word e =
    let whole = parts (list_all (λ b. leb 33 b && leb b 126) word && (ltb 0 (length word) && leb (length word) 20)) (not (is_comment word)) e in
    let front = parts (list_all (λ b. leb 33 b && leb b 126) word) (ltb 0 (length word) && leb (length word) 20) whole.0 in
    let sizes = parts (ltb 0 (length word)) (leb (length word) 20) front.1 in
    record {
      is = record { some = ltb-true 0 (length word) sizes.0; plain = plain_by word front.0 };
      short = leb-true (length word) 20 sizes.1;
      no_comment = negated (is_comment word) whole.1;
    } where
      negated : (b : Bool) → not b ≡ true → b ≡ false
      negated true e = sym e
      negated false e = refl

-- a line of one word behind its name
one : {A : Type 0} (setup : Setup) (sofar : Sofar) (what : What) (name : List ℕ) (read : List ℕ → Result A ScriptKind) (value : A) → is_name name ≡ true → (w : Spells A read value) → asked setup sofar name (w.word ∷ []) ≡ Ok what → is_in_order sofar what ≡ true → HasSpelling setup sofar what
one setup sofar what name read value is w asks_it ordered =
    let named = named_by name is in
    spelled setup sofar what name (w.word ∷ []) (named.is, (w.is, tt)) (omega (arith, named.short, w.short)) named.no_comment asks_it ordered

-- a line of two
two : {A B : Type 0} (setup : Setup) (sofar : Sofar) (what : What) (name : List ℕ) (read : List ℕ → Result A ScriptKind) (value : A) (read' : List ℕ → Result B ScriptKind) (value' : B) → is_name name ≡ true → (w : Spells A read value) (v : Spells B read' value') → asked setup sofar name (w.word ∷ v.word ∷ []) ≡ Ok what → is_in_order sofar what ≡ true → HasSpelling setup sofar what
two setup sofar what name read value read' value' is w v asks_it ordered =
    let named = named_by name is in
    spelled setup sofar what name (w.word ∷ v.word ∷ []) (named.is, (w.is, (v.is, tt))) (omega (arith, named.short, w.short, v.short)) named.no_comment asks_it ordered

-- both words of a line are read
reads_two : {A B C : Type 0} (first : Result A ScriptKind) (second : Result B ScriptKind) (make : A → B → C) (a : A) (b : B) → first ≡ Ok a → second ≡ Ok b → (first >>= λ x. second >>= λ y. Ok (make x y)) ≡ Ok (make a b)
reads_two first second make a b e f = ap (λ r. r >>= λ x. second >>= λ y. Ok (make x y)) e ∙ ap (λ r. r >>= λ y. Ok (make a y)) f

-- the word of a class
class_word : (class : Class) → Spells Class (λ word. or_kind Range (class_of word)) class
unfolding class_of
class_word classes.Processor = let named = named_by (codes "processor") refl in record { word = codes "processor"; is = named.is; short = named.short; reads = refl }
class_word classes.Memory = let named = named_by (codes "memory") refl in record { word = codes "memory"; is = named.is; short = named.short; reads = refl }
class_word classes.Pcie = let named = named_by (codes "pcie") refl in record { word = codes "pcie"; is = named.is; short = named.short; reads = refl }
class_word classes.Platform = let named = named_by (codes "platform") refl in record { word = codes "platform"; is = named.is; short = named.short; reads = refl }

-- each form but the block and the injection
pub short_form : (setup : Setup) (sofar : Sofar) (what : What) → MayCome setup sofar what → ((source : ℕ) (block : List ℕ) → MayCome setup sofar (asks.Raise source block) → HasSpelling setup sofar (asks.Raise source block)) → ((request : Request) → MayCome setup sofar (asks.Inject request) → HasSpelling setup sofar (asks.Inject request)) → HasSpelling setup sofar what
unfolding asked command_of setting_of asked_by slots contexts serve ackcell available busy status route clock nmi work run peek fail
short_form setup sofar (asks.Slots n) may raises injects =
    let most : n ≤ 64 = may.allowed.1 in
    let w = within_word 1 64 n may.allowed.0 most (omega arith) in
    one setup sofar (asks.Slots n) (codes "slots") (number_within 1 64) n refl w (ap (λ r. r >>= λ n. Ok (asks.Slots n)) w.reads) may.ordered
short_form setup sofar (asks.Contexts n) may raises injects =
    let most : n ≤ 16 = may.allowed.1 in
    let w = within_word 1 16 n may.allowed.0 most (omega arith) in
    one setup sofar (asks.Contexts n) (codes "contexts") (number_within 1 16) n refl w (ap (λ r. r >>= λ n. Ok (asks.Contexts n)) w.reads) may.ordered
short_form setup sofar (asks.Serve source context) may raises injects =
    let below : context < sofar.contexts = may.allowed.1 in
    let few : sofar.contexts < 2 ^ 8 = may.contexts in
    let w = source_word setup source may.apart may.small may.allowed.0 in
    let v = below_word sofar.contexts context below (omega arith) in
    two setup sofar (asks.Serve source context) (codes "serve") (source_of setup) source (number_below sofar.contexts) context refl w v (reads_two (source_of setup w.word) (number_below sofar.contexts v.word) asks.Serve source context w.reads v.reads) may.ordered
short_form setup sofar (asks.AckCell source value) may raises injects =
    let w = acked_word setup source may.apart may.small may.allowed.0 in
    let v = number_word value may.allowed.1 in
    two setup sofar (asks.AckCell source value) (codes "ackcell") (acked_source_of setup) source number value refl w v (reads_two (acked_source_of setup w.word) (number v.word) asks.AckCell source value w.reads v.reads) may.ordered
short_form setup sofar (asks.Available value) may raises injects =
    let below : value < 2 ^ 32 = may.allowed in
    let w = below_word (2 ^ 32) value below (omega arith) in
    one setup sofar (asks.Available value) (codes "available") (number_below (2 ^ 32)) value refl w (ap (λ r. r >>= λ n. Ok (asks.Available n)) w.reads) may.ordered
short_form setup sofar (asks.Busy n) may raises injects =
    let most : n ≤ 2000 = may.allowed in
    let w = within_word 0 2000 n (omega arith) most (omega arith) in
    one setup sofar (asks.Busy n) (codes "busy") (number_within 0 2000) n refl w (ap (λ r. r >>= λ n. Ok (asks.Busy n)) w.reads) may.ordered
short_form setup sofar (asks.Status n) may raises injects =
    let most : n ≤ 255 = may.allowed in
    let w = within_word 0 255 n (omega arith) most (omega arith) in
    one setup sofar (asks.Status n) (codes "status") (number_within 0 255) n refl w (ap (λ r. r >>= λ n. Ok (asks.Status n)) w.reads) may.ordered
short_form setup sofar (asks.Route class source) may raises injects =
    let w = class_word class in
    let v = source_word setup source may.apart may.small may.allowed in
    two setup sofar (asks.Route class source) (codes "route") (λ word. or_kind Range (class_of word)) class (source_of setup) source refl w v (reads_two (or_kind Range (class_of w.word)) (source_of setup v.word) asks.Route class source w.reads v.reads) may.ordered
short_form setup sofar (asks.Clock time) may raises injects =
    let w = number_word time may.allowed in
    one setup sofar (asks.Clock time) (codes "clock") number time refl w (ap (λ r. r >>= λ n. Ok (asks.Clock n)) w.reads) may.ordered
short_form setup sofar (asks.Raise source block) may raises injects = raises source block may
short_form setup sofar (asks.Inject request) may raises injects = injects request may
short_form setup sofar (asks.Nmi source) may raises injects =
    let w = source_word setup source may.apart may.small may.allowed in
    one setup sofar (asks.Nmi source) (codes "nmi") (source_of setup) source refl w (ap (λ r. r >>= λ n. Ok (asks.Nmi n)) w.reads) may.ordered
short_form setup sofar asks.Work may raises injects =
    let named = named_by (codes "work") refl in
    spelled setup sofar asks.Work (codes "work") [] (named.is, tt) (omega (arith, named.short)) refl refl may.ordered
short_form setup sofar (asks.Run n) may raises injects =
    let most : n ≤ 1000 = may.allowed.1 in
    let w = within_word 1 1000 n may.allowed.0 most (omega arith) in
    one setup sofar (asks.Run n) (codes "run") (number_within 1 1000) n refl w (ap (λ r. r >>= λ n. Ok (asks.Run n)) w.reads) may.ordered
short_form setup sofar (asks.Peek source) may raises injects =
    let w = acked_word setup source may.apart may.small may.allowed in
    one setup sofar (asks.Peek source) (codes "peek") (acked_source_of setup) source refl w (ap (λ r. r >>= λ n. Ok (asks.Peek n)) w.reads) may.ordered
short_form setup sofar (asks.Fail source n) may raises injects =
    let most : n ≤ 16 = may.allowed.1.1 in
    let w = source_word setup source may.apart may.small may.allowed.0 in
    let v = within_word 1 16 n may.allowed.1.0 most (omega arith) in
    two setup sofar (asks.Fail source n) (codes "fail") (source_of setup) source (number_within 1 16) n refl w v (reads_two (source_of setup w.word) (number_within 1 16 v.word) asks.Fail source n w.reads v.reads) may.ordered
