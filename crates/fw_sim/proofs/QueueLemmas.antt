-- A block that is raised is the last of the queue of its source.
use Rattle.std.proofs.Common.{◌≡◌, ◌<◌, ℕ, cond, eqb, List, [], ◌∷◌, ◌++◌, length, get_or, set, refl, sym, ap, ◌∙◌, subst, ⊎_elim, get_or-set_same, get_or-set_other, length-set, eq-eqb, ne_eqb, if◌then◌else◌}
use Rattle.std.proofs.lemmas.Bool.{cases_eq}
use Rattle.std.proofs.lemmas.List.{append-nil}
use Rattle.std.proofs.lemmas.List.Concat.{flat_map-append}
use Rattle.fw_port.specs.Port.{seen}
use Rattle.fw_port.specs.declared.port.SourcePort.{SourcePort}
use Rattle.fw_sim.specs.Raise.{queue_of, IsRaisedAt, AreQueues}

-- the queue of a source with one raise more
queue_of-more : (raises : List (ℕ × List ℕ)) (source : ℕ) (block : List ℕ) (k : ℕ) → queue_of (raises ++ (source, block) ∷ []) k ≡ queue_of raises k ++ cond (eqb source k) (block ∷ []) []
queue_of-more raises source block k =
    let f : ℕ × List ℕ → List (List ℕ) = λ raise. if eqb raise.0 k then raise.1 ∷ [] else [] in
    flat_map-append f raises ((source, block) ∷ []) ∙ ap (λ (blocks : List (List ℕ)). queue_of raises k ++ blocks) (append-nil (cond (eqb source k) (block ∷ []) []))

-- of the source of the raise
queue_here : (raises : List (ℕ × List ℕ)) (source : ℕ) (block : List ℕ) → queue_of (raises ++ (source, block) ∷ []) source ≡ queue_of raises source ++ block ∷ []
queue_here raises source block =
    queue_of-more raises source block source ∙ ap (λ b. queue_of raises source ++ cond b (block ∷ []) []) (eq-eqb source source refl)

-- of another source
queue_else : (raises : List (ℕ × List ℕ)) (source : ℕ) (block : List ℕ) (k : ℕ) → (source ≡ k → ⊥) → queue_of (raises ++ (source, block) ∷ []) k ≡ queue_of raises k
queue_else raises source block k other =
    queue_of-more raises source block k ∙ ap (λ b. queue_of raises k ++ cond b (block ∷ []) []) (ne_eqb source k other) ∙ append-nil (queue_of raises k)

pub raise_appends : (old new : List SourcePort) (source : ℕ) (block : List ℕ) (raises : List (ℕ × List ℕ)) → AreQueues old raises → IsRaisedAt old source block new → AreQueues new (raises ++ (source, block) ∷ [])
raise_appends old new source block raises queues is k none below =
    let there : get_or new k none ≡ get_or (set old source is.port) k none = ap (λ (ports : List SourcePort). get_or ports k none) is.ports in
    ⊎_elim
    (λ same.
    let here : get_or new k none ≡ is.port =
    there ∙ ap (λ n. get_or (set old source is.port) n none) (sym same) ∙ get_or-set_same old source is.port none is.within in
    ap (λ (port : SourcePort). (seen port).made) here
    ∙ ap (λ s. s.made) (is.seen_is none)
    ∙ ap (λ (blocks : List (List ℕ)). blocks ++ block ∷ []) (queues source none is.within)
    ∙ sym (queue_here raises source block)
    ∙ ap (queue_of (raises ++ (source, block) ∷ [])) same)
    (λ other.
    let kept : get_or new k none ≡ get_or old k none = there ∙ get_or-set_other old source k is.port none (λ same. other (sym same)) in
    let small : k < length old = subst (λ n. k < n) (ap (λ (ports : List SourcePort). length ports) is.ports ∙ length-set old source is.port) below in
    ap (λ (port : SourcePort). (seen port).made) kept ∙ queues k none small ∙ sym (queue_else raises source block k other))
    (cases_eq source k)
