-- What holds of the sources and the memories of a machine to which a history leads.
use Rattle.std.proofs.Common.{◌≡◌, ◌≤◌, ◌<◌, ℕ, zero, suc, ◌+◌, ◌-◌, ◌^◌, Bool, true, false, cond, eqb, inl, inr, List, [], ◌∷◌, ◌++◌, length, ap, subst, arith, Some}
use Rattle.std.specs.Prelude.{slice_get, unwrap_or}
use Rattle.std.specs.List.{AllByRecursion}
use Rattle.std.proofs.lemmas.List.{length-append}
use Rattle.std.proofs.lemmas.Option.{slice_get_cases}
use Rattle.apei_base.specs.Firmware.{Seen}
use Rattle.ghes_call.specs.Receive.{IsOfSource}
use Rattle.ghes_ledger.specs.History.{Made, Executed}
use Rattle.ghes_ledger.specs.Queue.{blocks_of, queue}
use Rattle.ghes_nmi.specs.Receive.{receive_seen}
use Rattle.ghes_desk.specs.Desk.{DeskSeen}
use Rattle.ghes_lines.specs.Follows.{blocks_in, Follows}
use Rattle.ghes_lines.specs.declared.machine.Machine.{Machine}
use Rattle.ghes_lines.specs.declared.machine.Source.{Source}

-- there is an element within a list
pub there_is : {A : Type 0} (xs : List A) (i : ℕ) → i < length xs → (x : A) × (slice_get xs i ≡ Some x)
there_is xs i inside = elim (slice_get_cases xs i).1 [
  | inl found ↦ (found.0, found.2)
  | inr past ↦ absurd (omega (arith, past.0, inside))
]

-- what holds of each element holds of the one at a place
pub all_at : {A : Type 0} (Q : A → Type 0) (xs : List A) (i : ℕ) (x : A) → AllByRecursion Q xs → slice_get xs i ≡ Some x → Q x
all_at Q [] i x all is = absurd cc
all_at Q (y ∷ xs) zero x all is = subst Q (ap (λ o. unwrap_or o y) is) all.0
all_at Q (y ∷ xs) (suc i) x all is = all_at Q xs i x all.1 is

-- a source has at most as many blocks as were made
blocks_fewer : (s : ℕ) (made : List Made) → length (blocks_of s made) ≤ length made
blocks_fewer s [] = omega arith
blocks_fewer s (block ∷ made) = one_fewer (eqb block.source s) block.bytes (blocks_of s made) (blocks_fewer s made) where
  one_fewer : (b : Bool) (bytes : List ℕ) (rest : List (List ℕ)) → length rest ≤ length made → length (cond b (bytes ∷ []) [] ++ rest) ≤ suc (length made)
  one_fewer true bytes rest few = omega (arith, few)
  one_fewer false bytes rest few = omega (arith, few)

pub queue_fewer : (s : ℕ) (history : List Executed) → length (queue s history) ≤ length (blocks_in history)
queue_fewer s [] = omega arith
queue_fewer s (line ∷ before) = omega (arith, queue_fewer s before, blocks_fewer s line.made, length-append (queue s before) (blocks_of s line.made), length-append (blocks_in before) line.made)

module _ {P : Type 0} (seen : P → Seen) (faults : P → ℕ) (machine : Machine) (ports : List P) (desk : DeskSeen) (history : List Executed) (f : Follows seen faults machine ports desk history) where
  pub within : (s : ℕ) → s < length machine.sources.items → s < length ports
  within s inside = omega (arith, f.as_many, inside)

  -- there is room for one more block
  pub room : (s : ℕ) (port : P) → s < length machine.sources.items → desk.blocks < 65536 → slice_get ports s ≡ Some port → length (seen port).made + 1 < 2 ^ 32 - 1
  room s port inside few there =
      let source = there_is machine.sources.items s inside in
      let made = (f.tied s source.0 port source.1 there).made_is in
      omega (arith, ap length made, queue_fewer s history, f.blocks, few)

  -- the memory is that of the source
  pub of_source : (s : ℕ) (source : Source) (port : P) → slice_get machine.sources.items s ≡ Some source → slice_get ports s ≡ Some port → IsOfSource (receive_seen source.receive) (seen port).layout
  of_source s source port at there = (f.tied s source port at there).source
