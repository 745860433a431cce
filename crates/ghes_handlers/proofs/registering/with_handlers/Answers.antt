use Rattle.std.proofs.Common.{◌≡◌, ◌∙◌, ◌<◌, ◌+◌, List, [], ◌∷◌, ◌++◌, length, get_or, sym, ap, arith, append_assoc, length-append}
use Rattle.std.specs.Prelude.{pos, remove}
use Rattle.ghes_notify.specs.Chain.{registered}
use Rattle.ghes_handlers.specs.Registering.{chain_of}
use Rattle.ghes_handlers.proofs.TagLemmas.{chain_push}
use Rattle.ghes_handlers.proofs.registering.with_handlers.Goals as goal

-- the first is taken out
first_removed : {H : Type 0} (items tail : List H) (first : H) → 0 < length items → first ≡ get_or items 0 first
    → tail ≡ remove items 0 → items ≡ first ∷ tail
first_removed [] tail first some is rest = absurd (omega arith)
first_removed (x ∷ items) tail first some is rest = ap (λ h. h ∷ items) (sym is) ∙ ap (λ hs. first ∷ hs) (sym rest)

pub loop-rest-preserved : goal.loop-rest-preserved
loop-rest-preserved g c =
    let inv = c.loop-rest.invariant in
    let before = c.loop-rest.chain.handlers in
    let first = c.remove-handler.result in
    let tail = c.remove-handler.new.self.items in
    let ok = c.in_default.ensures.ok in
    let all : c.register.new.self.handlers ≡ before ++ first ∷ [] = ap (λ chain. chain.handlers) ok in
    let some : 0 < length c.loop-rest.rest.items = omega (arith, c.remove-handler.ensures.len) in
    let split : c.loop-rest.rest.items ≡ first ∷ tail =
    first_removed c.loop-rest.rest.items tail first some c.remove-handler.ensures.value c.remove-handler.ensures.items in
    let count : length c.register.new.self.handlers ≡ length before + 1 = ap length all
    ∙ length-append before (first ∷ []) in
    record {
      chain = ok ∙ ap (λ chain. registered chain first (pos 0)) inv.chain ∙ sym (chain_push before first)
          ∙ ap chain_of (sym all);
      order = ap (λ hs. hs ++ tail) all ∙ append_assoc before (first ∷ []) tail ∙ ap (λ hs. before ++ hs) (sym split)
          ∙ inv.order;
      few = omega (arith, count, inv.few, c.remove-handler.ensures.len);
      room = omega (arith, count, inv.room, c.remove-handler.ensures.len, c.remove-handler.ensures.capacity);
    }
