-- The memory of sources whose read ack registers are set one after another.
use Rattle.std.proofs.Common.{◌≡◌, ◌≤◌, ◌<◌, ◌+◌, ℕ, true, false, List, length, get_or, refl, sym, ap, ◌∙◌, subst, arith, Option, Some, None, inl, inr}
use Rattle.std.specs.Prelude.{slice_get, slice_set, is_some, IsTrue}
use Rattle.std.proofs.lemmas.Bool.{cases_eq, false≢true}
use Rattle.std.proofs.lemmas.List.{length-set, get_or-set_same, get_or-set_other}
use Rattle.std.proofs.lemmas.Option.{slice_get_within, get_or_from_slice_get, slice_get-get_or}
use Rattle.apei_base.specs.Bus.{Reach}
use Rattle.apei_base.specs.Firmware.{Seen}
use Rattle.fw_port.specs.Port.{seen, with_cell, cell_in}
use Rattle.fw_port.specs.declared.port.SourcePort.{SourcePort}
use Rattle.ghes_call.specs.Receive.{register_of, IsOfSource}
use Rattle.ghes_lines.specs.Run.{IsFresh}
use Rattle.ghes_lines.specs.declared.machine.Source.{Source}
use Rattle.ghes_nmi.specs.Receive.{ack_seen, receive_seen}
use Rattle.ghes_nmi.specs.declared.receive.AckRule.{AckRule}
use Rattle.ghes_setup.specs.Ports.{IsUntouched, IsSetAt}

-- what holds of the one element of a list that changed, and of all others
at_set : {A : Type 0} (Q : ℕ → A → Type 0) (xs : List A) (s : ℕ) (x : A) → Q s x → ((t : ℕ) (y : A) → (t ≡ s → ⊥) → slice_get xs t ≡ Some y → Q t y) → (t : ℕ) (y : A) → slice_get (slice_set xs s x) t ≡ Some y → Q t y
at_set Q xs s x here others t y is =
    let inside : t < length xs = omega (arith, slice_get_within (slice_set xs s x) t y is, length-set xs s x) in
    let got : get_or (slice_set xs s x) t y ≡ y = get_or_from_slice_get (slice_set xs s x) t y y is in
    elim (cases_eq t s) [
      | inl same ↦
          let new : x ≡ y = sym (get_or-set_same xs s x y (omega (arith, inside, same))) ∙ ap (λ n. get_or (slice_set xs s x) n y) (sym same) ∙ got in
          subst (λ z. Q t z) new (subst (λ n. Q n x) (sym same) here)
      | inr differ ↦
          let old : get_or xs t y ≡ y = sym (get_or-set_other xs s t x y differ) ∙ got in
          others t y differ (slice_get-get_or xs t y inside ∙ ap Some old)
    ]

-- the memory of a source whose read ack register was set
pub fresh_set : (source : Source) (port port' : Seen) → IsUntouched source port → port' ≡ with_cell source.cell port → IsFresh source port'
fresh_set source port port' is set = record {
  source_is = subst (λ (s : Seen). IsOfSource (receive_seen source.receive) s.layout) (sym set) is.source_is;
  made = ap (λ (s : Seen). s.made) set ∙ ap (λ (s : Seen). s.made) is.unused_is;
  acknowledged = ap (λ (s : Seen). s.acknowledged) set ∙ ap (λ (s : Seen). s.acknowledged) is.unused_is;
  waits = ap (λ (s : Seen). s.waits) set ∙ ap (λ (s : Seen). s.waits) is.unused_is;
  cell = ap (λ (s : Seen). s.cell) set ∙ ap (λ (register : Option Reach). cell_in register source.cell) (sym is.source_is.ack);
  planned = ap (λ (s : Seen). s.planned) set ∙ ap (λ (s : Seen). s.planned) is.unused_is;
}

no_cell : (ack : Option AckRule) (value : ℕ) → is_some ack ≡ false → cell_in (register_of (ack_seen ack)) value ≡ 0
no_cell None value none = refl
no_cell (Some rule) value none = absurd (false≢true (sym none))

-- the memory of a source without one
pub fresh_bare : (source : Source) (port : Seen) → IsUntouched source port → is_some source.receive.ack ≡ false → IsFresh source port
fresh_bare source port is none = record {
  source_is = is.source_is;
  made = ap (λ (s : Seen). s.made) is.unused_is;
  acknowledged = ap (λ (s : Seen). s.acknowledged) is.unused_is;
  waits = ap (λ (s : Seen). s.waits) is.unused_is;
  cell = ap (λ (s : Seen). s.cell) is.unused_is ∙ sym (no_cell source.receive.ack source.cell none);
  planned = ap (λ (s : Seen). s.planned) is.unused_is;
}

has_register : (ack : Option AckRule) → is_some ack ≡ true → IsTrue (is_some (register_of (ack_seen ack)))
has_register None some = absurd (false≢true some)
has_register (Some rule) some = refl

-- a source that has a read ack register has one in its memory
pub has_ack : (source : Source) (port : Seen) → IsUntouched source port → is_some source.receive.ack ≡ true → IsTrue (is_some port.layout.ack)
has_ack source port is some = subst (λ (ack : Option Reach). IsTrue (is_some ack)) is.source_is.ack (has_register source.receive.ack some)

-- so many sources are ready, and the others untouched
pub record AreSetTo (n : ℕ) (sources : List Source) (ports : List SourcePort) : Type 0 where
  pub as_many : length ports ≡ length sources
  pub done : (s : ℕ) (source : Source) (port : SourcePort) → s < n → slice_get sources s ≡ Some source → slice_get ports s ≡ Some port → IsFresh source (seen port)
  pub left : (s : ℕ) (source : Source) (port : SourcePort) → n ≤ s → slice_get sources s ≡ Some source → slice_get ports s ≡ Some port → IsUntouched source (seen port)

-- one more is
pub set_more : (n : ℕ) (sources : List Source) (ports ports' : List SourcePort) → AreSetTo n sources ports → IsSetAt sources n ports ports' → AreSetTo (n + 1) sources ports'
set_more n sources ports ports' are is = record {
  as_many = ap (λ (ps : List SourcePort). length ps) is.ports_are ∙ length-set ports n is.port ∙ are.as_many;
  done = λ s source port below at there.
      at_set (λ t p. t < n + 1 → (x : Source) → slice_get sources t ≡ Some x → IsFresh x (seen p)) ports n is.port
      (λ _ x here. is.fresh x here)
      (λ t p differ here small x has. are.done t x p (omega (arith, differ, small)) has here)
      s port (sym (ap (λ (ps : List SourcePort). slice_get ps s) is.ports_are) ∙ there) below source at;
  left = λ s source port past at there.
      at_set (λ t p. n + 1 ≤ t → (x : Source) → slice_get sources t ≡ Some x → IsUntouched x (seen p)) ports n is.port
      (λ wrong x here. absurd (omega (arith, wrong)))
      (λ t p differ here large x has. are.left t x p (omega (arith, large)) has here)
      s port (sym (ap (λ (ps : List SourcePort). slice_get ps s) is.ports_are) ∙ there) past source at;
}
