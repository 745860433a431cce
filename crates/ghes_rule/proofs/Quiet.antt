-- A quiet moment, where every pass is ended: the recount of ended claims, and what the decoder then knows.
use Rattle.std.proofs.Common.{◌≡◌, ◌≢◌, ◌⊎◌, ℕ, zero, suc, ◌+◌, ◌-◌, ◌*◌, ◌<◌, ◌≤◌, eqb, Bool, true, false, List, [], ◌∷◌, ◌++◌, length, map, get_or, set, sym, refl, ap, ◌∙◌, subst, arith, inl, inr, ⊎_elim, Option, Some, None, length-set, length-append, take, drop}
use mathlib.Core.Logic.{dite}
use mathlib.Core.Option.{some, none, some-injective, some-ne-none}
use mathlib.Core.Option as maybe
use native.Mathlib.Decide.{ℕ_discrete, dec_le}
use lib.ListN.{get_elem?}
use Rattle.std.proofs.lemmas.List.{take-append-drop}
use Rattle.atomic_table.specs.Table.{State}
use Rattle.ghes_rule.specs.declared.views.Cell.{Cell}
use Rattle.ghes_rule.specs.declared.views.PacketView.{PacketView}
use Rattle.ghes_rule.specs.declared.views.Turn.{Turn}
use Rattle.ghes_rule.specs.declared.views.Pushed.{Pushed}
use Rattle.ghes_rule.specs.declared.views.Stage.{Stage}
use Rattle.ghes_rule.specs.declared.views.Stage.TheVariants.{Idle, Holding, Swapped}
use Rattle.ghes_rule.specs.declared.views.Hand.{Hand}
use Rattle.ghes_rule.specs.declared.views.Hand.TheVariants.{Bare, Full}
use Rattle.ghes_rule.specs.declared.views.PassView.{PassView}
use Rattle.ghes_rule.specs.declared.views.WorkView.{WorkView}
use Rattle.ghes_rule.specs.declared.views.View.{View}
use Rattle.ghes_rule.specs.declared.views.View.TheVariants.{OfPass, OfWork, Spent}
use Rattle.ghes_rule.specs.Kept.{Spot, free, with_pass, waits, at_desk, busy, In, when, sum_to, count, count_in, of_pass, turn, IsBelow, Slots, InStage, PassOk, Counts, Linked, Chain, InHand, DeskOk, Knows, Seats, Held, Panic, IsKept}
use Rattle.ghes_rule.specs.Moves.{view_or, view_at, all_back, in_hand, ended_of, HasFatal, Settled}
use Rattle.ghes_rule.proofs.Puts.{sum_same, at_below, one_at, at_drop, in_at, at_in, count_none, count_once, count_passes, count_in_append, when_same, when_other}
use Rattle.ghes_rule.proofs.Frames.{work_known}

abbrev pub stage_code : Stage → ℕ
stage_code Idle = 0
stage_code (Holding i g) = 1
stage_code (Swapped i old) = 2

abbrev pub spot_code : Spot → ℕ
spot_code free = 0
spot_code (with_pass p) = 1
spot_code (waits t) = 2
spot_code at_desk = 3

abbrev pub waits_or : Spot → ℕ
waits_or free = 0
waits_or (with_pass p) = 0
waits_or (waits t) = t
waits_or at_desk = 0

pub spots_apart : (a b : Spot) → spot_code a ≢ spot_code b → a ≢ b
spots_apart a b h e = h (ap spot_code e)

pub one_wait : (t u : ℕ) → waits t ≡ waits u → t ≡ u
one_wait t u e = ap waits_or e

pub not_held : (s : Stage) (i g : ℕ) → s ≡ Idle → s ≡ Holding i g → ⊥
not_held s i g a b = let q : stage_code Idle ≡ stage_code (Holding i g) = ap stage_code (sym a ∙ b) in absurd (omega arith)

pub not_swapped : (s : Stage) (i g : ℕ) → s ≡ Idle → s ≡ Swapped i g → ⊥
not_swapped s i g a b = let q : stage_code Idle ≡ stage_code (Swapped i g) = ap stage_code (sym a ∙ b) in absurd (omega arith)

pub not_both : (s : Stage) (i g j old : ℕ) → s ≡ Holding i g → s ≡ Swapped j old → ⊥
not_both s i g j old a b = let q : stage_code (Holding i g) ≡ stage_code (Swapped j old) = ap stage_code (sym a ∙ b) in absurd (omega arith)

-- what one slot is worth among the pushes that are not taken
module _ {k n : ℕ} {words : List ℕ} {log : List Pushed} {spot : ℕ → Spot} {pass : ℕ → PassView} {from walk top : ℕ} (r : Chain k n words log spot pass from walk top) where
  pub waits_at : (t : ℕ) (e : Pushed) → from ≤ t → get_elem? log t ≡ some e → (e.slot < k) × (spot e.slot ≡ waits t)
  waits_at t e low at = let q = r.pending t low (at_below log t e at) in let same : q.0 ≡ e = one_at log t q.0 e q.1 at in
      (subst (λ (x : Pushed). x.slot < k) same q.2, subst (λ (x : Pushed). spot x.slot ≡ waits t) same q.3)

  pub count_absent : (i : ℕ) → spot_code (spot i) ≢ 2 → count_in i (drop from log) ≡ 0
  count_absent i not = count_none i (drop from log) (λ t e at is. not (ap (λ j. spot_code (spot j)) (sym is) ∙ ap spot_code (waits_at (from + t) e (omega arith) (sym (at_drop log from t) ∙ at)).1))

  pub count_present : (i t : ℕ) (e : Pushed) → from ≤ t → get_elem? log t ≡ some e → e.slot ≡ i → count_in i (drop from log) ≡ 1
  count_present i t e low at is = count_once i (t - from) (drop from log) e (at_drop log from (t - from) ∙ (ap (get_elem? log) (let g : from + (t - from) ≡ t = omega arith in g) ∙ at)) is
      (λ u f ne here same. ne (let a : from + u ≡ t = one_wait (from + u) t (sym (waits_at (from + u) f (omega arith) (sym (at_drop log from u) ∙ here)).1 ∙ (ap spot (same ∙ sym is) ∙ (waits_at t e low at).1)) in omega arith))

pub hand_absent : (k : ℕ) (age : ℕ → ℕ) (spot : ℕ → Spot) (i : ℕ) (h : Hand) → spot_code (spot i) ≢ 3 → InHand k age spot h → in_hand i h ≡ 0
hand_absent k age spot i Bare not ok = refl
hand_absent k age spot i (Full j g) not ok = when_other i j (λ e. not (ap (λ x. spot_code (spot x)) e ∙ ap spot_code ok.1))

pub hand_present : (i g : ℕ) (h : Hand) → h ≡ Full i g → in_hand i h ≡ 1
hand_present i g h e = ap (in_hand i) e ∙ when_same i i refl

module _ {room n : ℕ} {s : State (Option Cell) View} (r : IsKept room n s) where
  -- of a slot that no pass holds, one push is not taken, or the decoder has it, where it is busy
  pub busy_is : (i : ℕ) → i < r.k → ((p : ℕ) → spot_code (r.spot i) ≢ 1) → count_in i (drop r.from r.log) + in_hand i r.desk.held ≡ busy (r.spot i)
  busy_is i l no_pass = go (r.spot i) refl
    where
      go : (x : Spot) → r.spot i ≡ x → count_in i (drop r.from r.log) + in_hand i r.desk.held ≡ busy (r.spot i)
      go free e = let a = count_absent r.chain i (λ z. let c = sym (ap spot_code e) ∙ z in absurd (omega arith)) in
          let b = hand_absent r.k r.age r.spot i r.desk.held (λ z. let c = sym (ap spot_code e) ∙ z in absurd (omega arith)) r.work.hand in let d = ap busy e in omega arith
      go (with_pass p) e = absurd (no_pass p (ap spot_code e))
      go (waits t) e = let at = subst (Rattle.ghes_rule.specs.Kept.At r.k room s.words s.homes r.log r.from (r.age i) i) e (r.slots.each i l) in
          let f : Pushed = at.3.0 in let a = count_present r.chain i t f at.1 at.3.2 at.3.3 in
          let b = hand_absent r.k r.age r.spot i r.desk.held (λ z. let c = sym (ap spot_code e) ∙ z in absurd (omega arith)) r.work.hand in let d = ap busy e in omega arith
      go at_desk e = let a = count_absent r.chain i (λ z. let c = sym (ap spot_code e) ∙ z in absurd (omega arith)) in
          let b = hand_present i (r.age i) r.desk.held (r.work.desk i l e) in let d = ap busy e in omega arith

  -- the passes ps are those of the rule, and none of them holds a slot
  module _ (ps : List (Option PassView)) (as_many : length ps ≡ n) (same : (p : ℕ) → p < n → view_at ps p ≡ r.pass p) (idle : (p : ℕ) → p < n → (r.pass p).stage ≡ Idle) where
    no_pass : (i : ℕ) → i < r.k → (p : ℕ) → spot_code (r.spot i) ≢ 1
    no_pass i l p code = go (r.spot i) refl
      where
        go : (x : Spot) → r.spot i ≡ x → ⊥
        go free e = let c = sym (ap spot_code e) ∙ code in absurd (omega arith)
        go (with_pass q) e = not_held (r.pass q).stage i (r.age i) (idle q (r.work.holder i q l e)) (r.held i q l e)
        go (waits t) e = let c = sym (ap spot_code e) ∙ code in absurd (omega arith)
        go at_desk e = let c = sym (ap spot_code e) ∙ code in absurd (omega arith)

    owners : (e : Pushed) → In e r.log → e.pass < n
    owners e h = let a = in_at r.log e h in r.chain.passes a.0 e a.1

    split_log : (i : ℕ) → count_in i r.log ≡ count_in i r.desk.taken + count_in i (drop r.from r.log)
    split_log i = ap (count_in i) (sym (take-append-drop r.from r.log)) ∙ (count_in_append i (take r.from r.log) (drop r.from r.log) ∙ ap (λ l. count_in i l + count_in i (drop r.from r.log)) (sym r.work.taken))

    pub recount : (i : ℕ) → i < r.k → ended_of ps r.desk.taken r.desk.held i ≡ r.age i
    recount i l =
        let a : sum_to (length ps) (λ p. count i (view_at ps p).claims) ≡ r.age i + busy (r.spot i) =
        ap (λ m. sum_to m (λ p. count i (view_at ps p).claims)) as_many ∙ (sum_same n (λ p. count i (view_at ps p).claims) (λ p. count i (r.pass p).claims) (λ p z. ap (λ v. count i v.claims) (same p z)) ∙ r.counts.counted i l) in
        let b : sum_to (length ps) (λ p. count_in i (view_at ps p).mine) ≡ count_in i r.log =
        ap (λ m. sum_to m (λ p. count_in i (view_at ps p).mine)) as_many
        ∙ (sum_same n (λ p. count_in i (view_at ps p).mine) (λ p. count_in i (of_pass p r.log)) (λ p z. ap (λ v. count_in i v.mine) (same p z) ∙ ap (count_in i) (r.passes p z).mine) ∙ count_passes i n r.log owners) in
        let c = split_log i in let d = busy_is i l (no_pass i l) in
        let x : ℕ = sum_to (length ps) (λ p. count i (view_at ps p).claims) in let y : ℕ = sum_to (length ps) (λ p. count_in i (view_at ps p).mine) in
        let t : ℕ = count_in i r.desk.taken in let u : ℕ = count_in i (drop r.from r.log) in let h : ℕ = in_hand i r.desk.held in let z : ℕ = busy (r.spot i) in
        let g : x + t - (y + h) ≡ r.age i = omega arith in g

    fatal_of : ((p : ℕ) → p < length r.desk.passes → view_at r.desk.passes p ≡ r.pass p) → length r.desk.passes ≡ n → (p : ℕ) × (p < n) × ((x : PacketView) × ((r.pass p).fatal ≡ Some x)) → HasFatal r.desk
    fatal_of at many t = let l₁ = t.1 in let l : t.0 < length r.desk.passes = omega arith in (t.0, l, (t.2.0, ap (λ (v : PassView). v.fatal) (at t.0 l) ∙ t.2.1))

    -- what the decoder knows then, where its counts of ended claims are right
    pub settled : (ended : (i : ℕ) → i < r.k → get_or r.desk.ended i 0 ≡ r.age i) → r.desk.passes ≡ ps → Settled r.desk
    settled ended are = let many : length r.desk.passes ≡ n = ap length are ∙ as_many in let whole : r.desk.taken ++ drop r.from r.log ≡ r.log = ap (λ l. l ++ drop r.from r.log) r.work.taken ∙ take-append-drop r.from r.log in
        let at : (p : ℕ) → p < length r.desk.passes → (p < n) × (view_at r.desk.passes p ≡ r.pass p) = λ p l. let l' : p < n = omega arith in (l', ap (λ q. view_at q p) are ∙ same p l') in record {
          pending = drop r.from r.log;
          owner = λ e m. let o = owners e (subst (In e) whole m) in omega arith;
          mine = λ p l. ap (λ v. v.mine) (at p l).1 ∙ ((r.passes p (at p l).0).mine ∙ ap (of_pass p) (sym whole));
          claims = λ p c l m. let b = r.counts.bounded p c (at p l).0 (subst (λ v. In c v.claims) (at p l).1 m) in let e = ended c.slot b.0 in let d = busy_is c.slot b.0 (no_pass c.slot b.0) in let b₁ = b.1 in omega arith;
          found = λ p c l m. let f = r.counts.found p c (at p l).0 (subst (λ v. In c v.found) (at p l).1 m) in let l' : f.0 < length r.desk.passes = (let f₁ = f.1 in omega arith) in (f.0, l', subst (λ v. In c v.claims) (sym (at f.0 l').1) f.2);
          numbers = λ p l. ap (λ v. v.number) (at p l).1 ∙ (r.passes p (at p l).0).number;
          idle = λ p l. ap (λ v. v.stage) (at p l).1 ∙ idle p (at p l).0;
          panic = λ p l m. fatal_of (λ p l. let l' : p < n = omega arith in ap (λ q. view_at q p) are ∙ same p l') many (r.panic.fatal (r.panic.loads p (at p l).0 (subst (λ v. In true v.loads) (at p l).1 m)));
          seen = λ m. fatal_of (λ p l. let l' : p < n = omega arith in ap (λ q. view_at q p) are ∙ same p l') many (r.panic.fatal (r.panic.desk_loads m));
        }
