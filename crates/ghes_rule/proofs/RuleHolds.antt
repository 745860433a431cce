-- What each step keeps implies the rule's eight facts.
use Rattle.std.proofs.Common.{◌≡◌, ◌≢◌, ◌⊎◌, ℕ, zero, suc, ◌+◌, ◌-◌, ◌*◌, ◌<◌, ◌≤◌, eqb, Bool, true, false, List, [], ◌∷◌, ◌++◌, length, map, get_or, set, sym, refl, ap, ◌∙◌, subst, arith, inl, inr, ⊎_elim, Option, Some, None, length-set, length-append, take, drop}
use mathlib.Core.Logic.{dite}
use mathlib.Core.Option.{some, none, some-injective, some-ne-none}
use mathlib.Core.Option as maybe
use native.Mathlib.Decide.{ℕ_discrete, dec_le}
use lib.ListN.{get_elem?}
use Rattle.std.proofs.lemmas.List.{take-append-drop}
use Rattle.atomic_table.specs.Table.{State}
use Rattle.ghes_rule.specs.declared.views.Cell.{Cell}
use Rattle.ghes_rule.specs.declared.views.Turn.{Turn}
use Rattle.ghes_rule.specs.declared.views.Pushed.{Pushed}
use Rattle.ghes_rule.specs.declared.views.Stage.{Stage}
use Rattle.ghes_rule.specs.declared.views.Stage.TheVariants.{Idle, Holding, Swapped}
use Rattle.ghes_rule.specs.declared.views.Hand.{Hand}
use Rattle.ghes_rule.specs.declared.views.Hand.TheVariants.{Bare, Full}
use Rattle.ghes_rule.specs.declared.views.PassView.{PassView}
use Rattle.ghes_rule.specs.declared.views.WorkView.{WorkView}
use Rattle.ghes_rule.specs.declared.views.View.{View}
use Rattle.ghes_rule.specs.declared.views.View.TheVariants.{OfPass, OfWork, Spent}
use Rattle.ghes_rule.specs.Kept.{Spot, free, with_pass, waits, at_desk, busy, In, when, sum_to, count, count_in, of_pass, turn, IsBelow, Slots, InStage, PassOk, Counts, Linked, Chain, InHand, DeskOk, Knows, Seats, Held, Panic, IsKept}
use Rattle.ghes_rule.specs.Moves.{view_or, view_at, all_back, in_hand, ended_of, Settled}
use Rattle.ghes_rule.proofs.Puts.{sum_same, at_below, one_at, at_drop, in_at, at_in, count_none, count_once, count_passes, count_in_append, when_same, when_other, put, put_here, put_at, put_else, put_all, put_field, tab_length, tab_at, sum_put, sum_most, count_snoc, count_most, in_snoc, in_last, in_longer, at_grown, sum_slots, sum_few, length_drop, sum_zero}
use Rattle.ghes_rule.proofs.Frames.{work_known, pass_known, seats_pass, seats_work, counts_same, chain_same, chair_apart, work_apart, work_spent, panic_same, linked_same}
use Rattle.ghes_rule.proofs.Quiet.{recount, settled, spot_code, stage_code, spots_apart, not_held, not_swapped, not_both, one_wait, waits_at, count_absent, count_present, hand_absent, hand_present}
use Rattle.ghes_rule.proofs.PassSteps.{one_holder, slot_or}
use Rattle.ghes_rule.proofs.Keeps.{Homes, Longer, longer_self, longer_snoc, at_keep, stage_keep, below_keep, below_zero, below_some, linked_keep, hand_keep, length_take_drop, take_next}
use Rattle.ghes_rule.proofs.PassLemmas.{few_claims}
use Rattle.ghes_rule.proofs.BackLemmas.{same_views, quiet_after, some_none}
use Rattle.atomic_table.specs.Table.{Me, Act, keeps, Allows, Splits, Joins, step}
use Rattle.atomic_table.proofs.Lists.{at_set, set_here, set_else, set_again, at_snoc, at_longer, at_last}
use lib.Seq.{set-get_or}
use Rattle.ghes_rule.specs.Moves.{Sat, pass_of, work_of, first_back, joined, join_views, without_first, let_out, split_left, split_right, ended_if, tab, told_settled}
use Rattle.std.proofs.Common.{◌/◌, ◌%◌, bit_or, vec_capacity, get_or-set_same, get_or-set_other}
use Rattle.std.proofs.lemmas.Nat.{or_disjoint}
use Rattle.atomic_table.specs.Table.{takes, gives, stepped}
use Rattle.ghes_rule.specs.Kept.{pushed_slot}
use Rattle.ghes_rule.specs.Kept
use Rattle.ghes_rule.specs.Moves.{with_claim, with_found, without_claim, HasEmpty, tried, freed}
use Rattle.std.proofs.lemmas.List.{take-append-le}
use Rattle.ghes_rule.specs.Moves.{with_chain, with_link, with_taken, with_given, detached, walked_on, took, took_first, gave, tail_of, first_walked, hand_slot}
use Rattle.std.proofs.lemmas.List.{take_all}
use Rattle.ghes_rule.specs.Moves.{AllTaken, IsOldest}
use Rattle.atomic_table.proofs.Lists.{drop_at}
use Rattle.ghes_rule.specs.declared.views.PacketView.{PacketView}
use Rattle.ghes_rule.specs.Rule.{holds, is_free, Names, LinkIs, IsChain, HasPasses, HasClaims, HasRule}

module _ {A : Type 0} where
  drop_nil : (m : ℕ) → drop {A = A} m [] ≡ []
  drop_nil zero = refl
  drop_nil (suc m) = refl

  drop_drop : (b m : ℕ) (xs : List A) → drop m (drop b xs) ≡ drop (b + m) xs
  drop_drop zero m xs = ap (λ k. drop k xs) (let g : m ≡ 0 + m = omega arith in g)
  drop_drop (suc b) m [] = drop_nil m ∙ sym (drop_nil (suc b + m))
  drop_drop (suc b) m (x ∷ xs) = drop_drop b m xs ∙ ap (λ k. drop k (x ∷ xs)) (let g : suc (b + m) ≡ suc b + m = omega arith in g)

  -- from b on: so many, and the others
  cut : (b t : ℕ) (xs : List A) → b ≤ t → take (t - b) (drop b xs) ++ drop t xs ≡ drop b xs
  cut b t xs l = ap (λ k. take (t - b) (drop b xs) ++ drop k xs) (let g : t ≡ b + (t - b) = omega arith in g) ∙ (ap (λ ys. take (t - b) (drop b xs) ++ ys) (sym (drop_drop b (t - b) xs)) ∙ take-append-drop (t - b) (drop b xs))

  at_take : (m t : ℕ) (xs : List A) (x : A) → get_elem? (take m xs) t ≡ some x → (t < m) × (get_elem? xs t ≡ some x)
  at_take zero t xs x e = absurd (some-ne-none x (sym e))
  at_take (suc m) t [] x e = absurd (some-ne-none x (sym e))
  at_take (suc m) zero (y ∷ ys) x e = (omega arith, e)
  at_take (suc m) (suc t) (y ∷ ys) x e = let r = at_take m t ys x e in let l = r.0 in (omega arith, r.1)

  to_take : (m t : ℕ) (xs : List A) (x : A) → t < m → get_elem? xs t ≡ some x → get_elem? (take m xs) t ≡ some x
  to_take zero t xs x l e = absurd (omega arith)
  to_take (suc m) t [] x l e = absurd (some-ne-none x (sym e))
  to_take (suc m) zero (y ∷ ys) x l e = e
  to_take (suc m) (suc t) (y ∷ ys) x l e = to_take m t ys x (omega arith) e

  take_take : (m t : ℕ) (xs : List A) → t ≤ m → take t (take m xs) ≡ take t xs
  take_take m zero xs l = refl
  take_take zero (suc t) xs l = absurd (omega arith)
  take_take (suc m) (suc t) [] l = refl
  take_take (suc m) (suc t) (x ∷ xs) l = ap (λ ys. x ∷ ys) (take_take m t xs (omega arith))

-- the pushes from b up to t
abbrev part : ℕ → ℕ → List Pushed → List Pushed
part b t log = take (t - b) (drop b log)

part_at : (b t u : ℕ) (log : List Pushed) (e : Pushed) → get_elem? (part b t log) u ≡ some e → (b + u < t) × (get_elem? log (b + u) ≡ some e)
part_at b t u log e at = let o = at_take (t - b) u (drop b log) e at in let l = o.0 in (omega arith, sym (at_drop log b u) ∙ o.1)

at_part : (b t u : ℕ) (log : List Pushed) (e : Pushed) → b ≤ u → u < t → get_elem? log u ≡ some e → In e (part b t log)
at_part b t u log e low high at = at_in (part b t log) (u - b) e (to_take (t - b) (u - b) (drop b log) e (omega arith) (at_drop log b (u - b) ∙ (ap (get_elem? log) (let g : b + (u - b) ≡ u = omega arith in g) ∙ at)))

in_part : (b t : ℕ) (log : List Pushed) (e : Pushed) → In e (part b t log) → (u : ℕ) × (b ≤ u) × (u < t) × (get_elem? log u ≡ some e)
in_part b t log e h = let i = in_at (part b t log) e h in let o = part_at b t i.0 log e i.1 in (b + i.0, omega arith, o.0, o.1)

names_below : (log : List Pushed) (b t v : ℕ) → b ≤ t → IsBelow log b t v → Names v (part b t log)
names_below log b t v low h = ⊎_elim
    (λ a. let z = a.0 in inl (ap (λ m. take m (drop b log)) (let g : t - b ≡ 0 = omega arith in g), a.1))
    (λ a. let u : ℕ = a.0 in let e : Pushed = a.1 in let u_is = a.2 in let u_low = a.3 in
    let at : get_elem? (drop b log) (u - b) ≡ some e = at_drop log b (u - b) ∙ (ap (get_elem? log) (let g : b + (u - b) ≡ u = omega arith in g) ∙ a.4) in
    inr (take (u - b) (drop b log), e, ap (λ m. take m (drop b log)) (let g : t - b ≡ u - b + 1 = omega arith in g) ∙ take_next (u - b) (drop b log) e at, a.5))
    h

link_is : (k b t : ℕ) (words : List ℕ) (log : List Pushed) (pass : ℕ → PassView) (e : Pushed) → get_elem? log t ≡ some e → Linked k words log pass b t → (x : ℕ) × LinkIs k words pass e x × IsBelow log b t x
link_is k b t words log pass e at l = let same : l.0 ≡ e = one_at log t l.0 e l.1 at in ⊎_elim
    (λ a. (a.1.0, inr (ap (λ (f : Pushed). get_or words (k + f.slot) 0) (sym same) ∙ a.0, subst (λ (f : Pushed). (pass f.pass).stage ≡ Swapped f.slot a.1.0) same a.1.1), a.1.2))
    (λ a. (a.0, inl (ap (λ (f : Pushed). get_or words (k + f.slot) 0) (sym same) ∙ a.1), a.2)) l.2

chain_is : (k b t v : ℕ) (words : List ℕ) (log : List Pushed) (pass : ℕ → PassView) → b ≤ t → IsBelow log b t v → ((u : ℕ) → b ≤ u → u < t → Linked k words log pass b u) → IsChain k words pass v (part b t log)
chain_is k b t v words log pass low below links = (
  names_below log b t v low below,
  λ u e at. let o = part_at b t u log e at in let inside = o.0 in let l = link_is k b (b + u) words log pass e o.1 (links (b + u) (omega arith) inside) in (
    l.0,
    l.1,
    subst (Names l.0) (ap (λ m. take m (drop b log)) (let g : b + u - b ≡ u = omega arith in g) ∙ sym (take_take (t - b) u (drop b log) (omega arith))) (names_below log b (b + u) l.0 (omega arith) l.2),
  ),
)

sum_one_of : (n p : ℕ) (f : ℕ → ℕ) → p < n → f p ≡ 1 → ((q : ℕ) → q < n → q ≢ p → f q ≡ 0) → sum_to n f ≡ 1
sum_one_of zero p f l a b = absurd (omega arith)
sum_one_of (suc n) p f l a b = dite (ℕ_discrete n p)
    (λ e. let x = ap f e in let z = sum_zero n f (λ q m. b q (omega arith) (λ y. omega arith)) in omega arith)
    (λ ne. let x = b n (omega arith) ne in let r = sum_one_of n p f (omega arith) a (λ q m. b q (omega arith)) in omega arith)

holds_one : (i g : ℕ) (z : Stage) → z ≡ Holding i g → holds i z ≡ 1
holds_one i g z e = ap (holds i) e ∙ when_same i i refl

holds_none_of : (i : ℕ) (z : Stage) → ((g : ℕ) → z ≢ Holding i g) → holds i z ≡ 0
holds_none_of i Idle h = refl
holds_none_of i (Holding j g) h = when_other i j (λ e. h g (ap (λ x. Holding x g) (sym e)))
holds_none_of i (Swapped j old) h = refl

in_join : {A : Type 0} (x : A) (xs ys : List A) → In x (xs ++ ys) → In x xs ⊎ In x ys
in_join x [] ys h = inr h
in_join x (y ∷ xs) ys h = ⊎_elim (λ e. inl (inl e)) (λ t. ⊎_elim (λ a. inl (inr a)) (λ b. inr b) (in_join x xs ys t)) h

module _ {room n : ℕ} {s : State (Option Cell) View} (r : IsKept room n s) where
  abbrev rest_of : List Pushed
  rest_of = part r.from r.walk r.log

  abbrev walked_of : List Pushed
  walked_of = part r.walk r.top r.log

  abbrev head_of : List Pushed
  head_of = part r.top (length r.log) r.log

  pending_is : rest_of ++ (walked_of ++ head_of) ≡ drop r.from r.log
  pending_is = let m = r.chain.marks in let m₁ = m.1 in
      let last : head_of ≡ drop r.top r.log = take_all (length r.log - r.top) (drop r.top r.log) (let d = length_drop r.top r.log m.2 in omega arith) in
      ap (λ l. rest_of ++ (walked_of ++ l)) last ∙ (ap (λ l. rest_of ++ l) (cut r.walk r.top r.log m.1) ∙ cut r.from r.walk r.log m.0)

  whole_is : r.desk.taken ++ (rest_of ++ (walked_of ++ head_of)) ≡ r.log
  whole_is = ap (λ l. r.desk.taken ++ l) pending_is ∙ (ap (λ l. l ++ drop r.from r.log) r.work.taken ∙ take-append-drop r.from r.log)

  in_pending : (e : Pushed) → In e (rest_of ++ (walked_of ++ head_of)) → (t : ℕ) × (r.from ≤ t) × (get_elem? r.log t ≡ some e)
  in_pending e h = let i = in_at (drop r.from r.log) e (subst (In e) pending_is h) in (r.from + i.0, omega arith, sym (at_drop r.log r.from i.0) ∙ i.1)

  counts_are : (i : ℕ) → count_in i rest_of + count_in i walked_of + count_in i head_of ≡ count_in i (drop r.from r.log)
  counts_are i = let a = count_in_append i rest_of (walked_of ++ head_of) in let b = count_in_append i walked_of head_of in let c = ap (count_in i) pending_is in omega arith

  no_holder : (i : ℕ) → i < r.k → ((p : ℕ) → r.spot i ≢ with_pass p) → sum_to n (λ p. holds i (r.pass p).stage) ≡ 0
  no_holder i l none_holds = sum_zero n (λ p. holds i (r.pass p).stage) (λ p m. holds_none_of i (r.pass p).stage (λ g e. none_holds p (subst (InStage r.k s.words r.log r.age r.spot p) e (r.passes p m).stage).1))

  one_place : (i : ℕ) → i < r.k → is_free (get_or s.words i 0) (r.age i) + sum_to n (λ p. holds i (r.pass p).stage) + count_in i rest_of + count_in i walked_of + count_in i head_of + in_hand i r.desk.held ≡ 1
  one_place i l = go (r.spot i) refl
    where
      busy_one : (Q : Spot) → r.spot i ≡ Q → busy Q ≡ 1 → is_free (get_or s.words i 0) (r.age i) ≡ 0
      busy_one Q e b = when_other (get_or s.words i 0) (2 * r.age i) (λ z. let w = Rattle.ghes_rule.proofs.PassLemmas.busy_word r.k room s.words s.homes r.log r.from (r.age i) i (r.spot i) (ap busy e ∙ b) (r.slots.each i l) in omega arith)

      go : (Q : Spot) → r.spot i ≡ Q → is_free (get_or s.words i 0) (r.age i) + sum_to n (λ p. holds i (r.pass p).stage) + count_in i rest_of + count_in i walked_of + count_in i head_of + in_hand i r.desk.held ≡ 1
      go free e = let at = subst (Kept.At r.k room s.words s.homes r.log r.from (r.age i) i) e (r.slots.each i l) in let a = when_same (get_or s.words i 0) (2 * r.age i) at.0 in
          let b = no_holder i l (λ p z. spots_apart free (with_pass p) (λ h. omega arith) (sym e ∙ z)) in let c = counts_are i in let d = count_absent r.chain i (λ z. let y = sym (ap spot_code e) ∙ z in absurd (omega arith)) in
          let h = hand_absent r.k r.age r.spot i r.desk.held (λ z. let y = sym (ap spot_code e) ∙ z in absurd (omega arith)) r.work.hand in omega arith
      go (with_pass p) e = let a = busy_one (with_pass p) e refl in let m : p < n = r.work.holder i p l e in let st = r.held i p l e in
          let b = sum_one_of n p (λ q. holds i (r.pass q).stage) m (holds_one i (r.age i) (r.pass p).stage st)
          (λ q near ne. holds_none_of i (r.pass q).stage (λ g h. ne (one_holder q p (sym (subst (InStage r.k s.words r.log r.age r.spot q) h (r.passes q near).stage).1 ∙ e)))) in
          let c = counts_are i in let d = count_absent r.chain i (λ z. let y = sym (ap spot_code e) ∙ z in absurd (omega arith)) in
          let h = hand_absent r.k r.age r.spot i r.desk.held (λ z. let y = sym (ap spot_code e) ∙ z in absurd (omega arith)) r.work.hand in omega arith
      go (waits t) e = let a = busy_one (waits t) e refl in let b = no_holder i l (λ p z. spots_apart (waits t) (with_pass p) (λ h. omega arith) (sym e ∙ z)) in
          let at = subst (Kept.At r.k room s.words s.homes r.log r.from (r.age i) i) e (r.slots.each i l) in let f : Pushed = at.3.0 in let c = counts_are i in let d = count_present r.chain i t f at.1 at.3.2 at.3.3 in
          let h = hand_absent r.k r.age r.spot i r.desk.held (λ z. let y = sym (ap spot_code e) ∙ z in absurd (omega arith)) r.work.hand in omega arith
      go at_desk e = let a = busy_one at_desk e refl in let b = no_holder i l (λ p z. spots_apart at_desk (with_pass p) (λ h. omega arith) (sym e ∙ z)) in let c = counts_are i in
          let d = count_absent r.chain i (λ z. let y = sym (ap spot_code e) ∙ z in absurd (omega arith)) in let h = hand_present i (r.age i) r.desk.held (r.work.desk i l e) in omega arith

  passes_are : HasPasses n s.views r.desk r.pass
  passes_are = record {
    each = λ p l. dite (ℕ_discrete (r.seat p) 0) (λ z. inr (r.seats.ended p l z)) (λ ne. inl (r.seat p - 1, r.seats.live p l (omega arith)));
    number = λ p l. (r.passes p l).number;
    live = λ j v at. let k = r.seats.each j (OfPass v) at in let z = k.1 in (k.0, k.2, r.seats.out v.number k.0 (omega arith));
    once = λ i j u v a b e. let x = (r.seats.each i (OfPass u) a).1 in let y = (r.seats.each j (OfPass v) b).1 in let z = ap r.seat e in omega arith;
    decoder = (r.chair, r.seats.there, λ i w at. (r.seats.each i (OfWork w) at).0);
  }

  busy_or : (i : ℕ) → (r.spot i ≡ free) ⊎ (busy (r.spot i) ≡ 1)
  busy_or i = Rattle.ghes_rule.proofs.PassLemmas.free_or_busy (r.spot i)

  word_busy : (i : ℕ) → i < r.k → busy (r.spot i) ≡ 1 → get_or s.words i 0 ≡ 2 * r.age i + 1
  word_busy i l b = Rattle.ghes_rule.proofs.PassLemmas.busy_word r.k room s.words s.homes r.log r.from (r.age i) i (r.spot i) b (r.slots.each i l)

  word_free : (i : ℕ) → i < r.k → r.spot i ≡ free → get_or s.words i 0 ≡ 2 * r.age i
  word_free i l e = (subst (Kept.At r.k room s.words s.homes r.log r.from (r.age i) i) e (r.slots.each i l)).0

  word_total : (i : ℕ) → i < r.k → get_or s.words i 0 ≡ 2 * r.age i + busy (r.spot i)
  word_total i l = ⊎_elim (λ e. let a = word_free i l e in let b = ap busy e in omega arith) (λ b. let a = word_busy i l b in omega arith) (busy_or i)

  home_fits : (i : ℕ) (c : Cell) → i < r.k → get_elem? s.homes i ≡ some (some (Some c)) → (length c.packet.bytes.bytes ≤ room) × (room ≤ c.packet.bytes.room)
  home_fits i c l at = go (r.spot i) (r.slots.each i l)
    where
      cell_is : (d : Cell) → get_elem? s.homes i ≡ some (some (Some d)) → d ≡ c
      cell_is d e = cell_in (some-injective (some (Some d)) (some (Some c)) (sym e ∙ at))
        where
          cell_or : maybe.Option (Option Cell) → Cell
          cell_or none = c
          cell_or (some None) = c
          cell_or (some (Some x)) = x

          cell_in : some (Some d) ≡ some (Some c) → d ≡ c
          cell_in q = ap cell_or q

      away : get_elem? s.homes i ≡ some none → ⊥
      away e = let q : code (some none) ≡ code (some (some (Some c))) = ap code (sym e ∙ at) in absurd (omega arith)
        where
          code : maybe.Option (maybe.Option (Option Cell)) → ℕ
          code none = 0
          code (some none) = 1
          code (some (some x)) = 2

      go : (Q : Spot) → Kept.At r.k room s.words s.homes r.log r.from (r.age i) i Q → (length c.packet.bytes.bytes ≤ room) × (room ≤ c.packet.bytes.room)
      go free a = let d : Cell = a.2.0 in let e = cell_is d a.2.1 in subst (λ (z : Cell). (length z.packet.bytes.bytes ≤ room) × (room ≤ z.packet.bytes.room)) e (let n₀ = ap length a.2.2 in (omega arith, a.2.3))
      go (with_pass p) a = absurd (away a.2)
      go (waits t) a = let b = a.3 in let d : Cell = b.1 in let e = cell_is d b.5 in let bytes_is = ap (λ (z : PacketView). length z.bytes) b.6.2 in
          subst (λ (z : Cell). (length z.packet.bytes.bytes ≤ room) × (room ≤ z.packet.bytes.room)) e (let f = b.8 in (omega arith, b.7))
      go at_desk a = absurd (away a.2)

  claims_are : HasClaims r.k n room s.words s.homes r.desk r.pass r.age (rest_of ++ (walked_of ++ head_of))
  claims_are = record {
    word = λ i l. ⊎_elim (λ e. inl (word_free i l e)) (λ b. inr (word_busy i l b)) (busy_or i);
    free = λ i l w. ⊎_elim (λ e. let at = subst (Kept.At r.k room s.words s.homes r.log r.from (r.age i) i) e (r.slots.each i l) in (at.1, (at.2.0, at.2.1, at.2.2))) (λ b. absurd (let a = word_busy i l b in omega arith)) (busy_or i);
    home = home_fits;
    few = r.counts.short;
    sum = λ i l. let a = r.counts.counted i l in let b = word_total i l in omega arith;
    each = λ i h l low. let b = word_total i l in let c = Rattle.ghes_rule.proofs.PassLemmas.free_or_busy (r.spot i) in r.counts.each i h l (⊎_elim (λ e. let z = ap busy e in omega arith) (λ e. omega arith) c);
    holding = λ p i h l e. let st = subst (InStage r.k s.words r.log r.age r.spot p) e (r.passes p l).stage in let a = word_busy i st.0 (ap busy st.1) in let b = st.2 in omega arith;
    pushed = λ e h. let t = in_pending e h in let w = waits_at r.chain t.0 e t.1 t.2 in let at = subst (Kept.At r.k room s.words s.homes r.log r.from (r.age e.slot) e.slot) w.1 (r.slots.each e.slot w.0) in
        let same = one_at r.log t.0 at.3.0 e at.3.2 t.2 in let turn_is = ap (λ (z : Pushed). z.turn) same in let b = at.3.4 in let a = at.0 in omega arith;
    held = λ i h e. let hand = subst (InHand r.k r.age r.spot) e r.work.hand in let a = word_busy i hand.0 (ap busy hand.1) in let b = hand.2 in omega arith;
    found = r.counts.found;
    since = λ p i l m. (r.passes p l).since i m;
    ended = r.work.ended;
    all_ended = λ all. r.work.all_ended (λ p l. dite (ℕ_discrete (r.seat p) 0) (λ z. z) (λ ne. absurd (some_none (r.pass p) (sym (r.seats.out p l (omega arith)) ∙ all p l))));
  }

  out_at : (i : ℕ) (Q : Spot) → (spot_code Q ≡ 1) ⊎ (spot_code Q ≡ 3) → Kept.At r.k room s.words s.homes r.log r.from (r.age i) i Q → (get_or s.words (r.k + i) 0 ≡ 0) × (get_elem? s.homes i ≡ some none)
  out_at i free h a = absurd (⊎_elim (λ e. let q = e in omega arith) (λ e. let q = e in omega arith) h)
  out_at i (with_pass p) h a = (a.1, a.2)
  out_at i (waits t) h a = absurd (⊎_elim (λ e. let q = e in omega arith) (λ e. let q = e in omega arith) h)
  out_at i at_desk h a = (a.1, a.2)

  -- where a push that waits is in the parts
  listed : (t : ℕ) (e : Pushed) → r.from ≤ t → get_elem? r.log t ≡ some e → get_or s.words (r.k + e.slot) 0 ≡ 0 → In e rest_of ⊎ In e head_of
  listed t e low at zero_is = dite (dec_le r.walk t)
      (λ past. dite (dec_le r.top t) (λ high. inr (at_part r.top (length r.log) t r.log e high (at_below r.log t e at) at)) (λ mid. absurd (r.chain.walked t e past (omega arith) at zero_is)))
      (λ early. inl (at_part r.from r.walk t r.log e low (omega arith) at))

  unset_is : (b t : ℕ) (e : Pushed) → get_elem? r.log t ≡ some e → Linked r.k s.words r.log r.pass b t → get_or s.words (r.k + e.slot) 0 ≡ 0 → (old : ℕ) × ((r.pass e.pass).stage ≡ Swapped e.slot old)
  unset_is b t e at l zero_is = let o = link_is r.k b t s.words r.log r.pass e at l in ⊎_elim (λ a. absurd (let q = a in omega arith)) (λ a. (o.0, a.1)) o.1

  pub rule_holds : HasRule room n s
  rule_holds = let m = r.chain.marks in let m₀ = m.0 in let m₁ = m.1 in let m₂ = m.2 in record {
    k = r.k;
    g = r.age;
    desk = r.desk;
    pass = r.pass;
    rest = rest_of;
    walked = walked_of;
    head = head_of;
    layout = (r.slots.wide, r.slots.deep);
    passes = passes_are;
    places = one_place;
    claims = claims_are;
    holding = λ p i h l e. let st = subst (InStage r.k s.words r.log r.age r.spot p) e (r.passes p l).stage in let o = out_at i (r.spot i) (inl (ap spot_code st.1)) (r.slots.each i st.0) in (st.0, o.0, o.1);
    held = λ i h e. let hand = subst (InHand r.k r.age r.spot) e r.work.hand in let o = out_at i (r.spot i) (inr (ap spot_code hand.1)) (r.slots.each i hand.0) in (hand.0, o.0, o.1);
    at_head = chain_is r.k r.top (length r.log) (get_or s.words (2 * r.k) 0) s.words r.log r.pass m.2 r.chain.head r.chain.hangs;
    at_cursor = chain_is r.k r.from r.walk r.desk.cursor s.words r.log r.pass m.0 r.work.cursor r.chain.rest;
    were_walked = let t = r.work.walked in let sum = t.1 in t.2 ∙ ap (λ x. map pushed_slot (take x (drop r.walk r.log))) (let g : t.0 ≡ r.top - r.walk = omega arith in g);
    at_home = λ e h. let t = in_pending e h in let w = waits_at r.chain t.0 e t.1 t.2 in let at = subst (Kept.At r.k room s.words s.homes r.log r.from (r.age e.slot) e.slot) w.1 (r.slots.each e.slot w.0) in
        (w.0, r.chain.passes t.0 e t.2, (at.3.1, at.3.5, subst (λ z. Kept.CellOf z at.3.1) (one_at r.log t.0 at.3.0 e at.3.2 t.2) at.3.6));
    swapped = λ p i old l e. let st = subst (InStage r.k s.words r.log r.age r.spot p) e (r.passes p l).stage in let u = st.1 in
        let at = subst (Kept.At r.k room s.words s.homes r.log r.from (r.age i) i) u.2 (r.slots.each i st.0) in let f : Pushed = u.1 in let slot_is : f.slot ≡ i = ap pushed_slot (one_at r.log u.0 f at.3.0 u.3 at.3.2) ∙ at.3.3 in
        (f, listed u.0 f at.1 u.3 (ap (λ z. get_or s.words (r.k + z) 0) slot_is ∙ u.5), slot_is, u.4, u.5);
    unset = λ e h. ⊎_elim
        (λ a. let t = in_part r.from r.walk r.log e a in unset_is r.from t.0 e t.3 (r.chain.rest t.0 t.1 t.2))
        (λ a. let t = in_part r.top (length r.log) r.log e a in unset_is r.top t.0 e t.3 (r.chain.hangs t.0 t.1 t.2)) h;
    set = λ e h. let t = in_part r.walk r.top r.log e h in r.chain.walked t.0 e t.1 t.2 t.3;
    order = λ p l. (r.passes p l).mine ∙ ap (of_pass p) (sym whole_is);
    end = r.work.hand_end;
    clear = r.panic.word;
    fatal = r.panic.fatal;
    panic = r.panic.set;
    loaded = r.panic.loads;
    decoder_loaded = r.panic.desk_loads;
  }
