-- What keeps the rule of what is shown.
use Rattle.std.proofs.Common.{◌≡◌, ℕ, ◌≢◌, List, [], ◌∷◌, Some, None, Option, IfSome, set, refl, sym, ◌∙◌, subst, ⊎_elim, arith, ap, length, zero, suc, nat_le, true}
use Rattle.std.proofs.lemmas.Bool.Decides.{nat_tests}
use mathlib.Core.Option.{some}
use lib.ListN.{get_elem?}
use Rattle.left_right.specs.Register.{Admits, TurnsAt, Forks, Merges}
use Rattle.atomic_table.proofs.Lists.{at_set, at_snoc}
use Rattle.ghes_throttle.specs.declared.shown.Shown.{Shown}
use Rattle.ghes_throttle.specs.declared.shown.Line.{Line}
use Rattle.ghes_throttle.specs.declared.shown.Change.TheVariants.{Put}
use Rattle.ghes_throttle.specs.Cache.{put_into, with_put}
use Rattle.ghes_throttle.specs.Reports.{cache_of, report_of}
use Rattle.ghes_throttle.specs.Shown.{IsRuled, Precedes, Sees, ShowsItsList, Follows, changed}
use Rattle.ghes_throttle.proofs.Caching.{cache_last}
use Rattle.ghes_throttle.proofs.Lists.{prefix_self, prefix_trans}

pub precedes_self : (x : Shown) → Precedes x x
precedes_self x = record { book = refl; block_len = refl; list = prefix_self x.mark.list }

pub precedes_trans : (s x y : Shown) → Precedes s x → Precedes x y → Precedes s y
precedes_trans s x y p q = record { book = p.book ∙ q.book; block_len = p.block_len ∙ q.block_len; list = prefix_trans _ _ _ p.list q.list }

saw : (v : Option Shown) (y : Shown) → ((s : Shown) → v ≡ Some s → Precedes s y) → IfSome v (λ s. Precedes s y)
saw None y h = tt
saw (Some s) y h = h s refl

-- a seat that sees what is shown after a step that goes on from x
pub turns : (seat : ℕ) (v : Option Shown) (x y : Shown) → Precedes x y → (ShowsItsList x → ShowsItsList y) → TurnsAt IsRuled seat v x y Sees
turns seat v x y goes shows views h at = (
  Some y,
  record {
    places = shows h.places;
    seen = λ j s e. ⊎_elim (λ (t : (j ≡ seat) × (Some y ≡ Some s)). subst (λ z. Precedes z y) (cc (t.1)) (precedes_self y)) (λ (t : (j ≢ seat) × (get_elem? views j ≡ some (Some s))). precedes_trans s x y (h.seen j s t.1) goes)
        (at_set views seat j (Some y) (Some s) e);
  },
  (refl, shows h.places, saw v y (λ s is. precedes_trans s x y (h.seen seat s (subst (λ (z : Option Shown). get_elem? views seat ≡ some z) is at)) goes)),
)

pub looks : (seat : ℕ) (v : Option Shown) (x : Shown) → TurnsAt IsRuled seat v x x Sees
looks seat v x = turns seat v x x (precedes_self x) (λ p. p)

pub admits : Admits IsRuled None
admits x views h = record {
  places = h.places;
  seen = λ j s e. ⊎_elim (h.seen j s) (λ (t : None ≡ Some s). absurd (cc t)) (at_snoc views None (Some s) j e);
}

set_seen : (x : Shown) (views : List (Option Shown)) (seat : ℕ) (v : Option Shown) → IsRuled x views → ((s : Shown) → v ≡ Some s → Precedes s x) → IsRuled x (set views seat v)
set_seen x views seat v h may = record {
  places = h.places;
  seen = λ j s e. ⊎_elim (λ (t : (j ≡ seat) × (v ≡ Some s)). may s t.1) (λ (t : (j ≢ seat) × (get_elem? views j ≡ some (Some s))). h.seen j s t.1) (at_set views seat j v (Some s) e);
}

pub forks : (seat : ℕ) (v : Option Shown) → Forks IsRuled seat v v v
forks seat v x views h at =
    let may : (s : Shown) → v ≡ Some s → Precedes s x = λ s is. h.seen seat s (subst (λ (z : Option Shown). get_elem? views seat ≡ some z) is at) in
    let kept = set_seen x views seat v h may in record {
      places = h.places;
      seen = λ j s e. ⊎_elim (kept.seen j s) (λ (t : v ≡ Some s). may s t) (at_snoc (set views seat v) v (Some s) j e);
    }

pub merges : (seat : ℕ) (v : Option Shown) (other : ℕ) (w : Option Shown) → Merges IsRuled seat v other w w None
merges seat v other w x views h at apart there =
    let was : get_elem? views other ≡ some w = ⊎_elim (λ (t : (other ≡ seat) × (w ≡ w)). absurd (apart t.0)) (λ (t : (other ≢ seat) × (get_elem? views other ≡ some w)). t.1) (at_set views seat other w w there) in
    let may : (s : Shown) → w ≡ Some s → Precedes s x = λ s is. h.seen other s (subst (λ (z : Option Shown). get_elem? views other ≡ some z) is was) in
    set_seen x (set views seat w) other None (set_seen x views seat w h may) (λ s t. absurd (cc t))

-- a line that follows makes a later state, which shows its list
pub changed_is : (s : Shown) (l : Line) → Follows s l → changed s (Put l) ≡ record { cache = put_into s.cache l.bytes.items l.time l.number; mark = l.mark }
changed_is s l f = let le : nat_le (length l.bytes.items) s.cache.block_len ≡ true = grind (arith, nat_tests, f.fits) in rw le refl

pub line_goes : (s : Shown) (l : Line) → Follows s l → Precedes s (changed s (Put l))
line_goes s l f = subst (λ y. Precedes s y) (sym (changed_is s l f)) (record { book = sym f.book; block_len = refl; list = (report_of l.bytes.items l.time ∷ [], sym f.list) })

pub line_shows : (s : Shown) (l : Line) → Follows s l → ShowsItsList s → ShowsItsList (changed s (Put l))
line_shows s l f h = subst ShowsItsList (sym (changed_is s l f))
    (ap (λ p. with_put p l.bytes.items l.time l.number) h ∙ (ap (λ n. with_put (cache_of s.mark.list) l.bytes.items l.time n) f.number ∙ sym (ap cache_of f.list ∙ cache_last s.mark.list (report_of l.bytes.items l.time))))

-- a view that knows nothing is no earlier state
none_there : (j : ℕ) (s : Shown) → ¬ (get_elem? (None ∷ []) j ≡ some (Some s))
none_there zero s e = absurd (cc e)
none_there (suc j) s e = absurd (cc e)

pub starts : (x : Shown) → ShowsItsList x → IsRuled x (None ∷ [])
starts x h = record { places = h; seen = λ j s e. absurd (none_there j s e) }
