-- Registers of sources and entries, one after another.
use Rattle.std.proofs.Common.{◌≡◌, ◌≤◌, ◌<◌, ◌+◌, ◌-◌, ℕ, zero, suc, Bool, true, false, cond, ltb, ◌==◌, List, [], ◌∷◌, ◌++◌, length, get_or, take, Option, Some, None, refl, sym, ap, ◌∙◌, arith, length-append}
use Rattle.std.proofs.lemmas.List.{append-nil, take_more, get_or-append_right}
use Rattle.std.proofs.lemmas.List.Concat.{flat_map-append}
use Rattle.std.proofs.lemmas.List.Elements.{filter-append}
use Rattle.std.specs.List.{filter, flat_map, AllByRecursion}
use Rattle.apei_base.specs.Region.{gas_refusal}
use Rattle.apei_hest.specs.Refusal.{ghes_in, generic, enabled}
use Rattle.apei_hest.specs.declared.source.Ghes.{Ghes}
use Rattle.apei_hest.specs.declared.source.Source.{Source}
use Rattle.std.proofs.lemmas.Bool.Decides.{nat_tests}
use Rattle.apei_einj.proofs.RefusedLemmas.{gas_refusal_accepted}
use Rattle.apei_einj.specs.Refusal.{register_reason, register_refusal}
use Rattle.apei_einj.specs.Table.{IsRunnable}
use Rattle.apei_einj.specs.declared.error.EinjError.TheVariants.{Instruction}
use Rattle.apei_einj.specs.declared.entry.Entry.{Entry}
use Rattle.fw_map.specs.Overlap.{is_injection}
use Rattle.fw_map.specs.Registers.{entry_run, entry_registers, structure_of, injection_registers}
use Rattle.fw_map.specs.declared.error.Owner.TheVariants.{Injection}
use Rattle.fw_map.specs.declared.run.Register.{Register}

-- a fact of each element of a list, at a place
pub each_at : {X : Type 0} (P : X → Type 0) (xs : List X) (k : ℕ) (none : X) → k < length xs → AllByRecursion P xs → P (get_or xs k none)
each_at P [] k none below all = absurd (omega arith)
each_at P (x ∷ xs) zero none below all = all.0
each_at P (x ∷ xs) (suc k) none below all = each_at P xs k none (omega arith) all.1

-- a choice that is none, whose first is not
none_at_test : {E : Type 0} (test : Bool) (error : E) (other : Option E) → cond test (Some error) other ≡ None → test ≡ false
none_at_test true error other is = cc
none_at_test false error other is = refl

-- the enabled sources of one structure more
pub enabled_more : (sources : List Source) (k : ℕ) (none : Source) → k < length sources → enabled (take (k + 1) sources) ≡ enabled (take k sources) ++ filter (λ (ghes : Ghes). ghes.enabled) (ghes_in (get_or sources k none))
enabled_more sources k none below =
    ap enabled (take_more sources k none below)
    ∙ ap (filter (λ (ghes : Ghes). ghes.enabled)) (flat_map-append ghes_in (take k sources) (get_or sources k none ∷ []))
    ∙ filter-append (λ (ghes : Ghes). ghes.enabled) (generic (take k sources)) (ghes_in (get_or sources k none) ++ [])
    ∙ ap (λ more. enabled (take k sources) ++ filter (λ (ghes : Ghes). ghes.enabled) more) (append-nil (ghes_in (get_or sources k none)))

-- an entry that can be run names a region, unless it is a no operation
pub runnable_region : (entry : Entry) → IsRunnable entry → (entry.instruction ≡ 4 → ⊥) → gas_refusal entry.register ≡ None
runnable_region entry runs other =
    let most = none_at_test (ltb 4 entry.instruction) (Instruction entry.at) (cond (entry.instruction == 4) None (register_refusal entry.at (register_reason entry))) runs.1 in
    gas_refusal_accepted entry runs.1 (grind (arith, nat_tests))

-- the register of an entry, before others of the injection table
injection_more : (none_of : Bool) (register : Register) (more : List Register) → is_injection register.owner ≡ true → AllByRecursion (λ (one : Register). is_injection one.owner ≡ true) more
    → AllByRecursion (λ (one : Register). is_injection one.owner ≡ true) (cond none_of [] (register ∷ []) ++ more)
injection_more true register more is rest = rest
injection_more false register more is rest = (is, rest)

-- each register of an entry is of the injection table
all_injection : (structure : Option ℕ) (entries : List Entry) → AllByRecursion (λ (one : Register). is_injection one.owner ≡ true) (flat_map (entry_registers structure) entries)
all_injection structure [] = tt
all_injection structure (entry ∷ more) =
    injection_more (entry.instruction == 4) (record { owner = Injection; run = entry_run structure entry }) (flat_map (entry_registers structure) more) refl (all_injection structure more)

-- the registers behind those of the sources are of the injection table
pub behind_own : (own registers : List Register) (entries : List Entry) (n k : ℕ) (none : Register) → registers ≡ own ++ injection_registers entries → n ≡ length own → n ≤ k → k < length registers
    → is_injection (get_or registers k none).owner ≡ true
behind_own own registers entries n k none are long from below =
    let all : length registers ≡ length own + length (injection_registers entries) = ap length are ∙ length-append own (injection_registers entries) in
    ap (λ list. is_injection (get_or list k none).owner) are
    ∙ ap (λ (one : Register). is_injection one.owner) (get_or-append_right own (injection_registers entries) n k none (sym long) from)
    ∙ each_at (λ (one : Register). is_injection one.owner ≡ true) (injection_registers entries) (k - n) none (omega arith) (all_injection (structure_of entries) entries)
