-- A block whose front has no reason is judged by its entries.
use Rattle.std.proofs.Common.{◌≡◌, ◌≤◌, ℕ, min, cond, List, length, refl, sym, ap, subst, ◌∙◌, arith, Option, Some, None}
use Rattle.std.proofs.lemmas.Bool.{le-ltb}
use Rattle.cper_block.specs.declared.header.Header.{Header}
use Rattle.cper_block.specs.declared.malformed.Malformed.{Malformed}
use Rattle.cper_block.specs.declared.malformed.Malformed.TheVariants.{TooShort}
use Rattle.cper_block.specs.Header.{header_of, block_length, header_reason}
use Rattle.cper_block.specs.Cut.{Walks}
use Rattle.cper_block.specs.Block.{data_of, front_reason, JudgedBy, Judges}
use Rattle.cper_block.proofs.PartLemmas.{sound_header}
use Rattle.cper_block.proofs.ReasonLemmas.{header_at_hand}

pub judged_by_walk : (bytes : List ℕ) (limit : ℕ) (header : Header) (at_hand : ℕ) (entries : List ℕ) (answer : Option Malformed) → 20 ≤ length bytes → header ≡ header_of bytes → at_hand ≡ min (length bytes) limit → header_reason header at_hand ≡ None → entries ≡ data_of bytes → Walks entries answer → Judges bytes limit answer
judged_by_walk bytes limit header at_hand entries answer long is_header is_at_hand no_reason is_data walks =
    let front : front_reason bytes limit ≡ None =
    ap (λ b. cond b (Some TooShort) (header_reason (header_of bytes) (min (length bytes) limit))) (le-ltb (length bytes) 20 long)
    ∙ ap (λ n. header_reason (header_of bytes) n) (sym is_at_hand) ∙ ap (λ h. header_reason h at_hand) (sym is_header) ∙ no_reason in
    let P : Option Malformed → Type 0 = λ reason. JudgedBy reason (data_of bytes) answer in
    let Q : List ℕ → Type 0 = λ xs. Walks xs answer in
    subst P (sym front) (subst Q is_data walks)

-- the bytes that a header states, where a limit accepts the header
pub judged_entries : (bytes : List ℕ) (header : Header) (entries : List ℕ) (answer : Option Malformed) → header ≡ header_of bytes → length bytes ≡ block_length header → entries ≡ data_of bytes → Walks entries answer → (limit : ℕ) → header_reason header limit ≡ None → Judges bytes limit answer
judged_entries bytes header entries answer is_header whole is_data walks limit none =
    let sound = sound_header header limit none in
    let long : 20 ≤ length bytes = omega (arith, whole, sound.long) in
    let at_hand : block_length header ≤ min (length bytes) limit = omega (arith, whole, sound.within) in
    judged_by_walk bytes limit header (min (length bytes) limit) entries answer long is_header refl
    (header_at_hand header limit (min (length bytes) limit) at_hand none) is_data walks
