-- The tags of handlers that are registered one after another.
use Rattle.std.proofs.Common.{◌≡◌, ◌∙◌, ℕ, zero, suc, ◌+◌, List, [], ◌∷◌, ◌++◌, length, ap, arith, length-append}
use Rattle.std.specs.Prelude.{pos}
use Rattle.ghes_notify.specs.declared.order.Tag.{Tag}
use Rattle.ghes_notify.specs.Chain.{registered}
use Rattle.ghes_handlers.specs.Registering.{tags_from, chain_of}

tags_push : (first count : ℕ) → tags_from first (suc count) ≡ tags_from first count ++
    (record { id = first + count; priority = pos 0 }) ∷ []
tags_push first zero = ap (λ (n : ℕ). (record { id = n; priority = pos 0 }) ∷ []) (omega arith)
tags_push first (suc count) =
    let later : first + 1 + count ≡ first + suc count = omega arith in
    ap (λ (tags : List Tag). (record { id = first; priority = pos 0 }) ∷ tags)
    (tags_push (first + 1) count ∙ ap
    (λ (n : ℕ). tags_from (first + 1) count ++ (record { id = n; priority = pos 0 }) ∷ []) later)

-- one handler more
pub chain_push : {H : Type 0} (handlers : List H) (handler : H)
    → chain_of (handlers ++ handler ∷ []) ≡ registered (chain_of handlers) handler (pos 0)
chain_push handlers handler =
    let more = handlers ++ handler ∷ [] in
    let count = length handlers in
    let size : length more ≡ suc count = length-append handlers (handler ∷ []) ∙ omega arith in
    let tags : tags_from 0 (length more) ≡ tags_from 0 count ++ (record { id = count; priority = pos 0 }) ∷ [] =
    ap (tags_from 0) size ∙ tags_push 0 count ∙ ap
    (λ (n : ℕ). tags_from 0 count ++ (record { id = n; priority = pos 0 }) ∷ []) (omega arith) in
    ap (λ (ts : List Tag). record { handlers = more; tags = ts; made = length more }) tags
    ∙ ap (λ (n : ℕ). record
    { handlers = more; tags = tags_from 0 count ++ (record { id = count; priority = pos 0 }) ∷ []; made = n })
    (size ∙ omega arith)
