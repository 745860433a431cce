-- Puts that follow one another.
use Rattle.std.proofs.Common.{◌≡◌, ℕ, List, ◌++◌, Option, Some, None, Result, Ok, Err, OnErr, sym, ap, ◌∙◌, append_assoc}
use Rattle.ghes_outside.specs.Outside.{Appends, AppendsFront}

-- one put after another
pub appends_both : (old middle new : Option (List ℕ)) (xs ys : List ℕ) → Appends old middle xs → Appends middle new ys → Appends old new (xs ++ ys)
appends_both None middle new xs ys first second = rw first at second
appends_both (Some written) middle new xs ys first second = (rw first at second) ∙ ap (λ zs. Some zs) (append_assoc written xs ys)

-- a put that took a front, after others that took all before it
pub front_of_text : (old middle new : Option (List ℕ)) (text done piece after : List ℕ) → text ≡ done ++ (piece ++ after) → Appends old middle done → AppendsFront middle new piece → AppendsFront old new text
front_of_text old middle new text done piece after cut first last = record {
  front = done ++ last.front;
  rest = last.rest ++ after;
  whole =
      cut ∙ ap (λ xs. done ++ (xs ++ after)) last.whole ∙ ap (λ xs. done ++ xs) (append_assoc last.front last.rest after)
      ∙ sym (append_assoc done last.front (last.rest ++ after));
  taken = appends_both old middle new done last.front first last.taken;
}

-- a fact holds also where a result is an error
pub on_err : {T E P : Type 0} (r : Result T E) → P → OnErr r P
on_err (Ok x) p = tt
on_err (Err e) p = p
