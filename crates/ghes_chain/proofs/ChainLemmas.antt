-- The decoder's view over its steps along a chain.
use Rattle.std.specs.Prelude.{MatchBool}
use Rattle.ghes_chain.specs.Push.{after_push}
use Rattle.std.proofs.Common.{◌≡◌, ◌≢◌, ℕ, zero, suc, ◌+◌, ◌-◌, ◌<◌, ◌≤◌, Bool, true, false, List, [], ◌∷◌, ◌++◌, length, sym, refl, ap, ◌∙◌, subst, arith, Option, Some, None}
use Rattle.std.proofs.lemmas.List.{append_assoc}
use Rattle.ghes_rule.specs.declared.views.Pushed.{Pushed}
use Rattle.ghes_rule.specs.declared.views.PassView.{PassView}
use Rattle.ghes_rule.specs.declared.views.WorkView.{WorkView}
use Rattle.ghes_rule.specs.declared.steps.take.Held.{Held}
use Rattle.ghes_rule.specs.Kept.{of_pass}
use Rattle.ghes_rule.specs.Moves.{all_back, view_at, with_chain, with_link, with_taken, with_push, without_claim, IsDetached, IsWalked, IsOldest, AllTaken}
use Rattle.ghes_rule.proofs.Puts.{of_pass_append, kept_same}
use Rattle.ghes_rule.specs.Taken.{IsTaken}
use Rattle.ghes_chain.specs.Take.{IsSameButChain, KeepsChain, GotChain, IsSeen, HasTaken, IsEmpty, IsHeldBack}

pub on_self : (w : WorkView) → IsSameButChain w w
on_self w = record { room = refl; held = refl; taken = refl; ended = refl; passes = refl; loads = refl }

pub on_both : (w u v : WorkView) → IsSameButChain w u → IsSameButChain u v → IsSameButChain w v
on_both w u v a b = record { room = b.room ∙ a.room; held = b.held ∙ a.held; taken = b.taken ∙ a.taken; ended = b.ended ∙ a.ended; passes = b.passes ∙ a.passes; loads = b.loads ∙ a.loads }

pub got_self : (w : WorkView) → 0 < w.cursor + length w.walked → GotChain w w
got_self w some = record { on = on_self w; empties = refl; unsets = refl; chain = record { same = λ _. refl; new = λ z. absurd (omega arith); walked = ([], refl) }; some = some }

pub got_new : (w u : WorkView) (x : ℕ) → w.cursor ≡ 0 → w.walked ≡ [] → 0 < x → u ≡ with_chain w x → GotChain w u
got_new w u zero c l pos is = absurd (omega arith)
got_new w u (suc i) c l pos is = subst (GotChain w) (sym is) record {
  on = record { room = refl; held = refl; taken = refl; ended = refl; passes = refl; loads = refl };
  empties = refl;
  unsets = refl;
  chain = record { same = λ some. absurd (let a = ap length l in omega arith); new = λ _. refl; walked = ([], refl) };
  some = omega arith;
}

pub got_none : (w u : WorkView) → w.cursor ≡ 0 → w.walked ≡ [] → u ≡ with_chain w 0 → IsEmpty w u
got_none w u c l is = record { view = is; cursor = c; walked = l }

-- what a walk leaves, as long as no unset link was met
pub record IsOn (w w' : WorkView) : Type 0 where
  pub on : IsSameButChain w w'
  pub empties : w'.empties ≡ w.empties
  pub unsets : w'.unsets ≡ w.unsets
  pub chains : w'.chains ≡ w.chains
  pub walked : (more : List ℕ) × (w'.walked ≡ more ++ w.walked)
  pub some : 0 < w.cursor + length w.walked → 0 < w'.cursor + length w'.walked

pub walked_none : (w : WorkView) → IsOn w w
walked_none w = record { on = on_self w; empties = refl; unsets = refl; chains = refl; walked = ([], refl); some = λ h. h }

pub walked_one : (w u v : WorkView) (x : ℕ) → IsOn w u → 0 < x → v ≡ with_link u x → IsOn w v
walked_one w u v zero h pos is = absurd (omega arith)
walked_one w u v (suc i) h pos is = subst (IsOn w) (sym is) record {
  on = record { room = h.on.room; held = h.on.held; taken = h.on.taken; ended = h.on.ended; passes = h.on.passes; loads = h.on.loads };
  empties = h.empties;
  unsets = h.unsets;
  chains = h.chains;
  walked = ((u.cursor - 1) ∷ h.walked.0, ap (λ l. (u.cursor - 1) ∷ l) h.walked.1);
  some = λ _. omega arith;
}

pub walked_length : (u v : WorkView) (x : ℕ) → 0 < x → v ≡ with_link u x → length v.walked ≡ length u.walked + 1
walked_length u v zero pos is = absurd (omega arith)
walked_length u v (suc i) pos is = let a = ap (λ (z : WorkView). length z.walked) is in omega arith

pub seen_end : (w u : WorkView) → IsOn w u → u.cursor ≡ 0 → IsSeen w u true
seen_end w u h c = record { on = h.on; empties = h.empties; chains = h.chains; walked = h.walked; some = h.some; end = λ _. (c, h.unsets); unset = λ e. absurd (let q : code true ≡ code false = ap code e in omega arith); quiet = λ _. refl }
  where
    code : Bool → ℕ
    code true = 1
    code false = 0

pub seen_unset : (w u v : WorkView) → IsOn w u → 0 < u.cursor → v ≡ with_link u 0 → (all_back u.passes ≡ true → false ≡ true) → IsSeen w v false
seen_unset w u v h pos is not_quiet = subst (λ z. IsSeen w z false) (sym is) record {
  on = record { room = h.on.room; held = h.on.held; taken = h.on.taken; ended = h.on.ended; passes = h.on.passes; loads = h.on.loads };
  empties = h.empties;
  chains = h.chains;
  walked = h.walked;
  some = λ _. omega arith;
  end = λ e. absurd (let q : code false ≡ code true = ap code e in omega arith);
  unset = λ _. (pos, let a = h.unsets in omega arith);
  quiet = λ back. not_quiet (ap all_back h.on.passes ∙ back);
}
  where
    code : Bool → ℕ
    code true = 1
    code false = 0

pub held_back : (w u v : WorkView) → GotChain w u → IsSeen u v false → IsHeldBack w v
held_back w u v g h = let unset = h.unset refl in record {
  unset = unset.1 ∙ ap (λ n. n + 1) g.unsets;
  on = on_both w u v g.on h.on;
  empties = h.empties ∙ g.empties;
  chain = record {
    same = λ some. h.chains ∙ g.chain.same some;
    new = λ none. h.chains ∙ g.chain.new none;
    walked = (h.walked.0 ++ g.chain.walked.0, h.walked.1 ∙ (ap (λ l. h.walked.0 ++ l) g.chain.walked.1 ∙ sym (append_assoc h.walked.0 g.chain.walked.0 w.walked)));
  };
  waits = unset.0;
}

pub oldest_on : (e : Pushed) (w u : WorkView) → IsSameButChain w u → IsOldest e u → IsOldest e w
oldest_on e w u a o = (o.0, subst (λ ps. e.pass < length ps) a.passes o.1, λ p l. subst (λ (z : List (Option PassView) × List Pushed). (view_at z.0 p).mine ≡ of_pass p (z.1 ++ e ∷ o.0)) (λ j. (a.passes j, a.taken j)) (o.2 p (subst (λ ps. p < length ps) (sym a.passes) l)))

pub has_taken : (w u v v' : WorkView) (h : Held) → GotChain w u → IsSeen u v true → IsTaken v v' h → HasTaken w v' h
has_taken w u v v' h g s t = let on = on_both w u v g.on s.on in record {
  push = t.push;
  taken = ap (λ (z : WorkView). z.taken) t.view ∙ ap (λ l. l ++ t.push ∷ []) on.taken;
  held = ap (λ (z : WorkView). z.held) t.view ∙ (λ j. Rattle.ghes_rule.specs.declared.views.Hand.TheVariants.Full (t.slot j) (t.turn j));
  cell = t.cell;
  slot = t.slot;
  turn = t.turn;
  short = subst (λ n. length t.push.packet.bytes ≤ n) on.room t.short;
  room = subst (λ n. n ≤ h.cell.packet.bytes.room) on.room t.room;
  room_is = ap (λ (z : WorkView). z.room) t.view ∙ on.room;
  ended = ap (λ (z : WorkView). z.ended) t.view ∙ on.ended;
  passes = ap (λ (z : WorkView). z.passes) t.view ∙ on.passes;
  loads = ap (λ (z : WorkView). z.loads) t.view ∙ on.loads;
  empties = ap (λ (z : WorkView). z.empties) t.view ∙ (s.empties ∙ g.empties);
  unsets = ap (λ (z : WorkView). z.unsets) t.view ∙ ((s.end refl).1 ∙ g.unsets);
  oldest = λ back. oldest_on t.push w v on (t.oldest (ap all_back on.passes ∙ back));
}

-- where a push is the oldest that was not taken, not all were taken
pub not_all_taken : (e : Pushed) (w : WorkView) → IsOldest e w → AllTaken w → ⊥
not_all_taken e w o all = let p : ℕ = e.pass in let a = ap length (sym (all p o.1) ∙ o.2 p o.1) in let b = ap length (of_pass_append p w.taken (e ∷ o.0)) in let c = ap length (kept_same p e.pass e (of_pass p o.0) refl) in
    let d = Rattle.std.proofs.Common.length-append (of_pass p w.taken) (of_pass p (e ∷ o.0)) in omega arith

-- what a swap of the head leaves
pub got_chain : (w u : WorkView) (b : Bool) → w.cursor ≡ 0 → w.walked ≡ [] → IsDetached w u b → MatchBool b (GotChain w u) (IsEmpty w u)
got_chain w u true c l d = got_new w u d.0 c l d.1 d.2
got_chain w u false c l d = got_none w u c l d

abbrev bool_code : Bool → ℕ
bool_code true = 1
bool_code false = 0

true_false : true ≡ false → ⊥
true_false e = let q : bool_code true ≡ bool_code false = ap bool_code e in absurd (omega arith)

-- a link that was set, and one that was not
pub walked_on : (w u v : WorkView) (b : Bool) → IsOn w u → IsWalked u v b → b ≡ true → IsOn w v
walked_on w u v true h d e = walked_one w u v d.0 h d.1 d.2
walked_on w u v false h d e = absurd (true_false (sym e))

pub walked_more : (u v : WorkView) (b : Bool) → IsWalked u v b → b ≡ true → length v.walked ≡ length u.walked + 1
walked_more u v true d e = walked_length u v d.0 d.1 d.2
walked_more u v false d e = absurd (true_false (sym e))

pub walked_back : (w u v : WorkView) (b : Bool) → IsOn w u → 0 < u.cursor → IsWalked u v b → b ≡ false → (all_back u.passes ≡ true → b ≡ true) → IsSeen w v false
walked_back w u v true h pos d e quiet = absurd (true_false e)
walked_back w u v false h pos d e quiet = seen_unset w u v h pos d quiet

-- a push that is ended
pub pushed_whole : (v w : PassView) (old : ℕ) (e : Pushed) → w ≡ with_push v old e → without_claim w ≡ after_push v e
pushed_whole v w old e is = ap without_claim is

pub pushed_room : (v w : PassView) (old : ℕ) (e : Pushed) → w ≡ with_push v old e → w.room ≡ v.room
pushed_room v w old e is = ap (λ (z : PassView). z.room) is
