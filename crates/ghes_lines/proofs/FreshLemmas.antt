-- The memories of three sources are fresh where each of them is.
use Rattle.std.proofs.Common.{◌≡◌, ℕ, zero, suc, List, [], ◌∷◌, length, sym, ap, subst, ◌∙◌, Some, unwrap_or}
use Rattle.std.specs.Prelude.{slice_get}
use Rattle.apei_base.specs.Firmware.{Seen}
use Rattle.ghes_lines.specs.Run.{IsFresh, AreFresh}
use Rattle.ghes_lines.specs.declared.machine.Machine.{Machine}
use Rattle.ghes_lines.specs.declared.machine.Source.{Source}

module _ {P : Type 0} (seen : P → Seen) (a b c : Source) (p q r : P) where
  of_both : (x y : Source) (u v : P) → Some x ≡ Some y → Some u ≡ Some v → IsFresh x (seen u) → IsFresh y (seen v)
  of_both x y u v source port is = subst (λ z. IsFresh z (seen v)) (ap (λ o. unwrap_or o x) source) (subst (λ z. IsFresh x (seen z)) (ap (λ o. unwrap_or o u) port) is)

  each_of : IsFresh a (seen p) → IsFresh b (seen q) → IsFresh c (seen r) → (s : ℕ) (source : Source) (port : P) → slice_get (a ∷ b ∷ c ∷ []) s ≡ Some source → slice_get (p ∷ q ∷ r ∷ []) s ≡ Some port → IsFresh source (seen port)
  each_of first second third zero source port at there = of_both a source p port at there first
  each_of first second third (suc zero) source port at there = of_both b source q port at there second
  each_of first second third (suc (suc zero)) source port at there = of_both c source r port at there third
  each_of first second third (suc (suc (suc s))) source port at there = absurd cc

  pub fresh_three : (machine : Machine) (ports : List P) → machine.sources.items ≡ a ∷ b ∷ c ∷ [] → ports ≡ p ∷ q ∷ r ∷ [] → IsFresh a (seen p) → IsFresh b (seen q) → IsFresh c (seen r) → AreFresh seen machine ports
  fresh_three machine ports sources_are ports_are first second third = record {
    as_many = ap length ports_are ∙ sym (ap length sources_are);
    each = λ s source port at there. each_of first second third s source port (sym (ap (λ xs. slice_get xs s) sources_are) ∙ at) (sym (ap (λ xs. slice_get xs s) ports_are) ∙ there);
  }
