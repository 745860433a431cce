-- What one access of a source's memory answers and leaves, by the register or the area that it reaches.
use Rattle.std.proofs.Common.{◌≡◌, ◌≤◌, ℕ, ◌+◌, ◌-◌, Bool, true, false, cond, eqb, ◌&&◌, List, length, Some, is_some, Result, Ok, Err, OnOk, OnErr, refl, sym, ap, ◌∙◌, subst, arith}
use Rattle.std.proofs.lemmas.Bool.{eq-eqb}
use Rattle.apei_base.specs.Bus.{Reach, Reads, Writes, Copies, same_space, same_reach}
use Rattle.apei_base.specs.Firmware.{Seen, status_value, area_bytes, standing, cleared, ack_written, after_access, IsAnswered, is_reach, is_ack, block_status}
use Rattle.apei_base.specs.declared.region.Space.{Space}
use Rattle.apei_base.specs.declared.region.Space.TheVariants.{Memory, Port}

-- a space is itself
same_space-refl : (space : Space) → same_space space space ≡ true
same_space-refl Memory = refl
same_space-refl Port = refl

-- three tests that hold
both_hold : (a b c : Bool) → a ≡ true → b ≡ true → c ≡ true → (a && b && c) ≡ true
both_hold a b c is_a is_b is_c = ap (λ x. x && b && c) is_a ∙ ap (λ x. x && c) is_b ∙ is_c

-- a reach is itself
pub same_reach-refl : (reach : Reach) → same_reach reach reach ≡ true
same_reach-refl reach =
    both_hold (same_space reach.space reach.space) (eqb reach.address reach.address) (eqb reach.width reach.width)
    (same_space-refl reach.space) (eq-eqb reach.address reach.address refl) (eq-eqb reach.width reach.width refl)

-- reaches with the same parts
pub reach_from_parts : (one other : Reach) → one.space ≡ other.space → one.address ≡ other.address → one.width ≡ other.width → one ≡ other
reach_from_parts one other space address width =
    ap (λ s. record { space = s; address = one.address; width = one.width }) space
    ∙ ap (λ a. record { space = other.space; address = a; width = one.width }) address
    ∙ ap (λ w. record { space = other.space; address = other.address; width = w }) width

-- what a read of the status address register answers
pub status_answer : (seen : Seen) (reach : Reach) (value : ℕ) → reach ≡ seen.layout.status → IsAnswered (Reads reach value) seen → value ≡ status_value seen
unfolding IsAnswered
status_answer seen reach value is answered =
    answered.0 (subst (λ r. same_reach seen.layout.status r ≡ true) (sym is) (same_reach-refl seen.layout.status))

-- what a read of the read ack register answers
pub ack_answer : (seen : Seen) (reach : Reach) (value : ℕ) → Some reach ≡ seen.layout.ack → IsAnswered (Reads reach value) seen → value ≡ seen.cell
unfolding IsAnswered
ack_answer seen reach value is answered =
    answered.1 (subst (λ r. is_reach r reach ≡ true) is (same_reach-refl reach))

-- what a copy within the area answers
pub copy_answer : (seen : Seen) (address skip : ℕ) (bytes : List ℕ) → address ≡ seen.layout.area → skip + length bytes ≤ seen.layout.room → IsAnswered (Copies (address + skip) bytes) seen → bytes ≡ area_bytes skip (length bytes) seen
unfolding IsAnswered
copy_answer seen address skip bytes at within answered =
    let same : (address + skip) - seen.layout.area ≡ skip = omega (arith, at) in
    answered (omega (arith, at)) (omega (arith, at, within)) ∙ ap (λ n. area_bytes n (length bytes) seen) same

-- a read changes nothing
pub read_leaves : (seen : Seen) (reach : Reach) (value : ℕ) → after_access (Reads reach value) seen ≡ seen
unfolding after_access
read_leaves seen reach value = refl

-- a copy changes nothing
pub copy_leaves : (seen : Seen) (address : ℕ) (bytes : List ℕ) → after_access (Copies address bytes) seen ≡ seen
unfolding after_access
copy_leaves seen address bytes = refl

-- a write of 0 to the block status of a standing block clears it
pub clear_leaves : (seen : Seen) (reach : Reach) (value : ℕ) → reach ≡ block_status seen.layout → value ≡ 0 → is_some (standing seen) ≡ true → after_access (Writes reach value) seen ≡ cleared seen
unfolding after_access
clear_leaves seen reach value is zero stands =
    let here : same_reach reach (block_status seen.layout) ≡ true =
    subst (λ r. same_reach r (block_status seen.layout) ≡ true) (sym is) (same_reach-refl (block_status seen.layout)) in
    ap (λ b. cond b (cleared seen) (cond (is_ack seen.layout reach) (ack_written value seen) seen))
    (both_hold (same_reach reach (block_status seen.layout)) (eqb value 0) (is_some (standing seen)) here (eq-eqb value 0 zero) stands)

-- a write to the read ack register ends the waiting
pub ack_leaves : (seen : Seen) (reach : Reach) (value : ℕ) → is_ack seen.layout (block_status seen.layout) ≡ false → Some reach ≡ seen.layout.ack → after_access (Writes reach value) seen ≡ ack_written value seen
unfolding after_access
ack_leaves seen reach value apart is =
    let elsewhere : same_reach reach (block_status seen.layout) ≡ false =
    subst (λ r. is_reach r (block_status seen.layout) ≡ false) (sym is) apart in
    let here : is_ack seen.layout reach ≡ true = subst (λ r. is_reach r reach ≡ true) is (same_reach-refl reach) in
    ap (λ b. cond (b && eqb value 0 && is_some (standing seen)) (cleared seen) (cond (is_ack seen.layout reach) (ack_written value seen) seen)) elsewhere
    ∙ ap (λ b. cond b (ack_written value seen) seen) here

module _ {V : Type 0} {S : Type 0} (seen : V → Seen) (state : V → S) where
  -- a result of an access that failed, or one that led to what it left
  pub same_or_kept : {T E : Type 0} (result : Result T E) (old new : V) → ((one other : V) → state one ≡ state other → seen one ≡ seen other) → OnErr result (state new ≡ state old) → OnOk result (seen new ≡ seen old) → seen new ≡ seen old
  same_or_kept (Ok value) old new same err ok = ok
  same_or_kept (Err error) old new same err ok = same new old err

-- what follows after a success, and after a failure
pub on_ok : {T E : Type 0} (result : Result T E) (P Q : Type 0) → (P → Q) → OnOk result P → OnOk result Q
on_ok (Ok value) P Q follows holds = follows holds
on_ok (Err error) P Q follows holds = holds

pub on_err : {T E : Type 0} (result : Result T E) (P Q : Type 0) → (P → Q) → OnErr result P → OnErr result Q
on_err (Ok value) P Q follows holds = holds
on_err (Err error) P Q follows holds = follows holds
