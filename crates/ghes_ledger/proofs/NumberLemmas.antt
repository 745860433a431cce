-- The number of a call's block is that of the block that stands.
use Rattle.std.proofs.Common.{◌≡◌, ℕ, zero, suc, ◌+◌, cond, List, [], ◌∷◌, ◌++◌, length, drop, refl, sym, ap, ◌∙◌, arith}
use Rattle.std.specs.List.{range_with_len}
use Rattle.std.proofs.lemmas.Bool.{eq-eqb}
use Rattle.std.proofs.lemmas.List.{length-append, drop_at}
use Rattle.std.proofs.lemmas.List.Concat.{flat_map-append}
use Rattle.ghes_call.specs.declared.call.Call.{Call}
use Rattle.ghes_ledger.specs.Outcomes.{number_of}
use Rattle.ghes_ledger.specs.Queue.{number_by, numbers_of, acknowledged}
use Rattle.ghes_ledger.proofs.CallsAlike.{range-add}

head_number : (x y : ℕ) (xs ys : List ℕ) → x ∷ xs ≡ y ∷ ys → x ≡ y
head_number x y xs ys e = cc

-- a number among numbers that count from 1 is one more than those before it
middle_number : (xs : List ℕ) (m : ℕ) (ys : List ℕ) → xs ++ m ∷ ys ≡ range_with_len 1 (length (xs ++ m ∷ ys)) → m ≡ length xs + 1
middle_number xs m ys e =
    let whole : xs ++ m ∷ ys ≡ range_with_len 1 (length xs) ++ range_with_len (1 + length xs) (suc (length ys)) =
    e ∙ ap (range_with_len 1) (length-append xs (m ∷ ys)) ∙ range-add 1 (length xs) (suc (length ys)) in
    let size : length (range_with_len 1 (length xs)) ≡ length xs = length-range 1 (length xs) in
    let rest : m ∷ ys ≡ range_with_len (1 + length xs) (suc (length ys)) =
    sym (drop_at xs (m ∷ ys) (length xs) refl) ∙ ap (drop (length xs)) whole ∙ drop_at (range_with_len 1 (length xs)) (range_with_len (1 + length xs) (suc (length ys))) (length xs) size in
    let first : m ≡ 1 + length xs = head_number m (1 + length xs) ys _ rest in
    omega (arith, first)
  where
    length-range : (a n : ℕ) → length (range_with_len a n) ≡ n
    length-range a zero = refl
    length-range a (suc n) = ap suc (length-range (a + 1) n)

-- the number of a call is one more than the blocks of its source that were acknowledged before it, in this line and before
pub number_is : (all past later : List Call) (call : Call) (m : ℕ) → all ≡ past ++ call ∷ later → number_of call.reply.outcome ≡ m ∷ [] → numbers_of call.source all ≡ range_with_len 1 (acknowledged call.source all) → m ≡ acknowledged call.source past + 1
number_is all past later call m split is counts =
    let s = call.source in
    let own : number_by s call ≡ m ∷ [] = ap (λ b. cond b (number_of call.reply.outcome) []) (eq-eqb s s refl) ∙ is in
    let parts : numbers_of s all ≡ numbers_of s past ++ m ∷ numbers_of s later =
    ap (numbers_of s) split ∙ flat_map-append (number_by s) past (call ∷ later) ∙ ap (λ xs. numbers_of s past ++ (xs ++ numbers_of s later)) own in
    middle_number (numbers_of s past) m (numbers_of s later) (sym parts ∙ counts ∙ ap (λ xs. range_with_len 1 (length xs)) parts)
