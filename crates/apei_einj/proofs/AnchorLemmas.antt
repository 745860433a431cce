-- The anchor of an action is the first entry that fits.
use Rattle.std.proofs.Common.{◌≡◌, ℕ, Bool, true, false, cond, List, [], ◌∷◌, refl, sym, ap, ◌∙◌, Some, None}
use Rattle.std.specs.List.{AllByRecursion}
use Rattle.apei_einj.specs.Anchor.{anchor_of}
use Rattle.apei_einj.specs.Sound.{fits, IsAnchor}
use Rattle.apei_einj.specs.declared.entry.Entry.{Entry}

-- the first entry fits, or a later one is the anchor
first_or_later : (action : ℕ) (x entry : Entry) (entries : List Entry) (b : Bool) → fits action x ≡ b → cond b (Some x) (anchor_of action entries) ≡ Some entry → (anchor_of action entries ≡ Some entry → IsAnchor action entries entry) → IsAnchor action (x ∷ entries) entry
first_or_later action x entry entries true is e later =
    let same : x ≡ entry = cc e in
    record { before = []; after = entries; place = ap (λ y. y ∷ entries) same; fitting = ap (fits action) (sym same) ∙ is; first = tt }
first_or_later action x entry entries false is e later =
    let anchor = later e in
    record {
      before = x ∷ anchor.before;
      after = anchor.after;
      place = ap (λ ys. x ∷ ys) anchor.place;
      fitting = anchor.fitting;
      first = (is, anchor.first);
    }

pub anchor_found : (action : ℕ) (entries : List Entry) (entry : Entry) → anchor_of action entries ≡ Some entry → IsAnchor action entries entry
unfolding anchor_of
anchor_found action [] entry e = absurd (cc e)
anchor_found action (x ∷ entries) entry e = first_or_later action x entry entries (fits action x) refl e (anchor_found action entries entry)

-- no entry fits
none_or_later : (action : ℕ) (x : Entry) (entries : List Entry) (b : Bool) → fits action x ≡ b → cond b (Some x) (anchor_of action entries) ≡ None → (fits action x ≡ false) × (anchor_of action entries ≡ None)
none_or_later action x entries true is e = absurd (cc e)
none_or_later action x entries false is e = (is, e)

pub anchor_none : (action : ℕ) (entries : List Entry) → anchor_of action entries ≡ None → AllByRecursion (λ entry. fits action entry ≡ false) entries
unfolding anchor_of
anchor_none action [] e = tt
anchor_none action (x ∷ entries) e =
    let parts = none_or_later action x entries (fits action x) refl e in
    (parts.0, anchor_none action entries parts.1)
