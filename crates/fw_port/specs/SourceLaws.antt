-- What the cells of a source say of its registers and of its area, and what no access changes.
use Rattle.std.proofs.Common.{◌≡◌, ◌≤◌, ◌<◌, ◌+◌, ◌-◌, ◌/◌, ◌%◌, ◌^◌, ℕ, zero, suc, Bool, true, false, cond, ◌&&◌, nat_lt, nat_le, eqb, List, [], length, get_or, slice_index, Option, Some, None, unwrap_or, refl, sym, ap, ◌∙◌, subst, arith, ⊎_elim, add-zero}
use Rattle.std.proofs.lemmas.Bool.{cond-true, cond-false, both_ways, cases_Bool, cases_eq, eqb-true}
use Rattle.std.proofs.lemmas.Bool.Decides.{nat_tests}
use Rattle.std.proofs.lemmas.List.{append-nil}
use Rattle.std.proofs.Math.Nat.{div-one, one-le-pow}
use Rattle.std.specs.Int.{bytes_low_first}
use Rattle.std.specs.Int as int
use Rattle.byteorder.specs.Endian.{little_bytes, little_number}
use Rattle.byteorder.specs.Numbers.{little_number-reads_back, length-bytes_low_first}
use Rattle.apei_base.specs.Bus.{Reach, Cells, Access, Reads, Writes, Copies, Answers, IsLook, KeepsUnmapped, same_space, same_reach, byte_at, bytes_at, value_at}
use Rattle.apei_base.specs.Width.{is_width}
use Rattle.apei_base.specs.Firmware.{Layout, Seen, standing, status_value, area_bytes, cleared, ack_written, is_ack, is_reach, block_status, has_stood, after_access, IsAnswered, IsSound, FitsAck}
use Rattle.apei_base.specs.declared.region.Space.{Space}
use Rattle.apei_base.specs.declared.region.Space.TheVariants.{Memory, Port}
use Rattle.apei_base.proofs.FirmwareLemmas.{reach_from_parts}
use Rattle.apei_mem_bus.proofs.ShownLemmas.{shown_from_each}
use Rattle.fw_cells.proofs.LookLemmas.{byte_some, bytes_from_each}
use Rattle.fw_port.specs.Layout.{Stretch, register_cells, area_cells, is_within, share, IsPlaced}
use Rattle.fw_port.specs.Source.{number_byte, held, ack_held, area_byte, source_cells, IsSourceStep}

-- numbers of one stretch are not those of another that it does not meet
outside_numbers : (a m b n x : ℕ) → (nat_lt a (b + n) && nat_lt b (a + m)) ≡ false → (nat_le a x && nat_lt x (a + m)) ≡ true → (nat_le b x && nat_lt x (b + n)) ≡ false
outside_numbers a m b n x apart in_one = grind (arith, nat_tests)

outside_parts : (p q s : Space) (a m b n x : ℕ) → (same_space p q && nat_lt a (b + n) && nat_lt b (a + m)) ≡ false → (same_space p s && nat_le a x && nat_lt x (a + m)) ≡ true → (same_space q s && nat_le b x && nat_lt x (b + n)) ≡ false
outside_parts Memory Memory Memory a m b n x apart in_one = outside_numbers a m b n x apart in_one
outside_parts Port Port Port a m b n x apart in_one = outside_numbers a m b n x apart in_one
outside_parts p Memory Port a m b n x apart in_one = refl
outside_parts p Port Memory a m b n x apart in_one = refl
outside_parts Memory Port Port a m b n x apart in_one = absurd (grind arith)
outside_parts Port Memory Memory a m b n x apart in_one = absurd (grind arith)

-- a cell of one stretch is none of another that shares no cell with it
outside : (one other : Stretch) (space : Space) (address : ℕ) → share one other ≡ false → is_within one space address ≡ true → is_within other space address ≡ false
outside one other space address apart in_one = outside_parts one.0 other.0 space one.1 one.2 other.1 other.2 address apart in_one

-- a cell of another stretch is none of one that shares no cell with it
outside_back : (one other : Stretch) (space : Space) (address : ℕ) → share one other ≡ false → is_within other space address ≡ true → is_within one space address ≡ false
outside_back one other space address apart in_other =
    ⊎_elim (λ in_one. absurd (both_ways (is_within other space address) (outside one other space address apart in_one) in_other)) (λ none. none)
    (cases_Bool (is_within one space address))

within_numbers : (first count k : ℕ) → k < count → (nat_le first (first + k) && nat_lt (first + k) (first + count)) ≡ true
within_numbers first count k below = grind (arith, nat_tests)

-- the cells of a stretch, counted from its first one
within : (space : Space) (first count k : ℕ) → k < count → is_within (space, first, count) space (first + k) ≡ true
within Memory first count k below = within_numbers first count k below
within Port first count k below = within_numbers first count k below

-- the byte of a cell of a stretch, by its place there
held_here : (space : Space) (first count k : ℕ) (byte : ℕ → ℕ) (other : Option ℕ) → k < count → held (space, first, count) byte space (first + k) other ≡ Some (byte k)
held_here space first count k byte other below =
    let place : first + k - first ≡ k = omega arith in
    cond-true (is_within (space, first, count) space (first + k)) (Some (byte (first + k - first))) other (within space first count k below)
    ∙ ap (λ n. Some (byte n)) place

-- the byte of a cell that is none of a stretch
held_else : (stretch : Stretch) (space : Space) (address : ℕ) (byte : ℕ → ℕ) (other : Option ℕ) → is_within stretch space address ≡ false → held stretch byte space address other ≡ other
held_else stretch space address byte other none =
    cond-false (is_within stretch space address) (Some (byte (address - stretch.1))) other none

-- a byte of a number
byte_is : (place value : ℕ) → int.byte_at place value ≡ number_byte value place
byte_is zero value = ap (λ (n : ℕ). n % 256) (sym (div-one value))
byte_is (suc place) value = refl

-- one of the bytes of a number
byte_in : (j n x k : ℕ) → k < n → get_or (bytes_low_first j n x) k 0 ≡ number_byte x (j + k)
byte_in j zero x k below = absurd (omega (arith, below))
byte_in j (suc n) x zero below = byte_is j x ∙ ap (number_byte x) (sym (add-zero j))
byte_in j (suc n) x (suc k) below =
    let place : suc j + k ≡ j + suc k = omega arith in
    byte_in (suc j) n x k (omega (arith, below)) ∙ ap (number_byte x) place

-- a width in bits is that of its bytes
whole_width : (w : ℕ) → is_width w ≡ true → 2 ^ w ≡ 256 ^ (w / 8)
whole_width w is =
    let At : ℕ → Type 0 = λ n. 2 ^ n ≡ 256 ^ (n / 8) in
    ⊎_elim (λ e8. subst At (sym e8) refl) (λ n8.
    ⊎_elim (λ e16. subst At (sym e16) refl) (λ n16.
    ⊎_elim (λ e32. subst At (sym e32) refl) (λ n32.
    let e64 : w ≡ 64 = grind (arith, nat_tests) in subst At (sym e64) refl)
    (cases_eq w 32)) (cases_eq w 16)) (cases_eq w 8)

-- what a register says whose cells hold the bytes of a number
register_value : (cells : Cells) (reach : Reach) (value : ℕ) → is_width reach.width ≡ true → reach.address + reach.width / 8 ≤ 2 ^ 64 → value < 2 ^ reach.width → ((k : ℕ) → k < reach.width / 8 → cells reach.space (reach.address + k) ≡ Some (number_byte value k)) → value_at cells reach ≡ value
register_value cells reach value width ends fits each =
    let n = reach.width / 8 in
    let long : length (little_bytes n value) ≡ n = length-bytes_low_first 0 n value in
    let stand : little_bytes n value ≡ bytes_at cells reach.space reach.address n =
    bytes_from_each cells reach.space reach.address (little_bytes n value) (λ k below.
    let inside : k < n = omega (arith, below, long) in
    let place : 0 + k ≡ k = omega arith in
    byte_in 0 n value k inside ∙ ap (number_byte value) place
    ∙ sym (byte_some cells reach.space (reach.address + k) (number_byte value k) (omega (arith, ends, inside)) (each k inside)))
    ∙ ap (bytes_at cells reach.space reach.address) long in
    ap (little_number n) (sym stand) ∙ ap (little_number n) (sym (append-nil (little_bytes n value)))
    ∙ little_number-reads_back n value [] (subst (λ m. value < m) (whole_width reach.width width) fits)

-- what the status address register can say fits there
status_fits : (seen : Seen) → IsPlaced seen.layout → status_value seen < 2 ^ seen.layout.status.width
status_fits seen placed =
    ⊎_elim (λ stood. subst (λ n. n < 2 ^ seen.layout.status.width) (sym (cond-true (has_stood seen) seen.layout.area 0 stood)) placed.wide)
    (λ never. subst (λ n. n < 2 ^ seen.layout.status.width) (sym (cond-false (has_stood seen) seen.layout.area 0 never)) (omega (arith, placed.wide)))
    (cases_Bool (has_stood seen))

-- the status address register says where the area is, or 0
pub status_cells : (seen : Seen) → IsPlaced seen.layout → value_at (source_cells seen) seen.layout.status ≡ status_value seen
unfolding source_cells
status_cells seen placed =
    let status = seen.layout.status in
    register_value (source_cells seen) status (status_value seen) placed.status_is.whole placed.status_is.ends (status_fits seen placed) (λ k below.
    held_here status.space status.address (status.width / 8) k (number_byte (status_value seen)) _ below)

-- a cell of the area holds its byte
area_cell : (seen : Seen) (k : ℕ) → IsPlaced seen.layout → k < seen.layout.room → source_cells seen Memory (seen.layout.area + k) ≡ Some (area_byte seen k)
unfolding source_cells
area_cell seen k placed below =
    let layout = seen.layout in
    let here : is_within (area_cells layout.area layout.room) Memory (layout.area + k) ≡ true = within Memory layout.area layout.room k below in
    held_else (register_cells layout.status) Memory (layout.area + k) (number_byte (status_value seen)) _
    (outside_back (register_cells layout.status) (area_cells layout.area layout.room) Memory (layout.area + k) placed.status_is.apart here)
    ∙ held_here Memory layout.area layout.room k (area_byte seen) _ below

-- a cell of the read ack register holds its byte
ack_cell : (seen : Seen) (register : Reach) (k : ℕ) → IsPlaced seen.layout → seen.layout.ack ≡ Some register → k < register.width / 8 → source_cells seen register.space (register.address + k) ≡ Some (number_byte seen.cell k)
unfolding source_cells
ack_cell seen register k placed is below =
    let layout = seen.layout in
    let space = register.space in
    let address = register.address + k in
    let parts = placed.ack_is register is in
    let here : is_within (register_cells register) space address ≡ true = within space register.address (register.width / 8) k below in
    held_else (register_cells layout.status) space address (number_byte (status_value seen)) _
    (outside (register_cells register) (register_cells layout.status) space address parts.other here)
    ∙ held_else (area_cells layout.area layout.room) space address (area_byte seen) _
    (outside (register_cells register) (area_cells layout.area layout.room) space address parts.is.apart here)
    ∙ ap (λ ack. ack_held ack seen.cell space address) is
    ∙ held_here space register.address (register.width / 8) k (number_byte seen.cell) None below

-- the read ack register says what was written there
pub ack_cells : (seen : Seen) (register : Reach) → IsPlaced seen.layout → seen.layout.ack ≡ Some register → FitsAck seen.layout.ack seen.cell → value_at (source_cells seen) register ≡ seen.cell
ack_cells seen register placed is fits =
    let parts = placed.ack_is register is in
    register_value (source_cells seen) register seen.cell parts.is.whole parts.is.ends (subst (λ ack. FitsAck ack seen.cell) is fits) (λ k below.
    ack_cell seen register k placed is below)

-- one of the bytes that are read
byte_from : (cells : Cells) (space : Space) (first n k : ℕ) → k < n → get_or (bytes_at cells space first n) k 0 ≡ byte_at cells space (first + k)
unfolding bytes_at
byte_from cells space first zero k below = absurd (omega (arith, below))
byte_from cells space first (suc n) zero below = ap (byte_at cells space) (sym (add-zero first))
byte_from cells space first (suc n) (suc k) below =
    let place : first + 1 + k ≡ first + suc k = omega arith in
    byte_from cells space (first + 1) n k (omega (arith, below)) ∙ ap (byte_at cells space) place

-- a byte that is read from the area
area_read : (seen : Seen) (address k n : ℕ) → IsPlaced seen.layout → seen.layout.area ≤ address → address + n ≤ seen.layout.area + seen.layout.room → k < n → byte_at (source_cells seen) Memory (address + k) ≡ area_byte seen (address - seen.layout.area + k)
area_read seen address k n placed from ends below =
    let place : seen.layout.area + (address - seen.layout.area + k) ≡ address + k = omega (arith, from) in
    let inside : address - seen.layout.area + k < seen.layout.room = omega (arith, from, ends, below) in
    byte_some (source_cells seen) Memory (address + k) (area_byte seen (address - seen.layout.area + k)) (omega (arith, placed.ends, ends, below))
    (ap (source_cells seen Memory) (sym place) ∙ area_cell seen (address - seen.layout.area + k) placed inside)

-- bytes that stand in the area are those of the block that stands there
pub area_copied : (seen : Seen) (address : ℕ) (bytes : List ℕ) → IsPlaced seen.layout → seen.layout.area ≤ address → address + length bytes ≤ seen.layout.area + seen.layout.room → bytes ≡ bytes_at (source_cells seen) Memory address (length bytes) → bytes ≡ area_bytes (address - seen.layout.area) (length bytes) seen
area_copied seen address bytes placed from ends stand =
    shown_from_each (address - seen.layout.area) (unwrap_or (standing seen) []) bytes (λ k below.
    ap (λ (b : List ℕ). get_or b k 0) stand ∙ byte_from (source_cells seen) Memory address (length bytes) k below
    ∙ area_read seen address k (length bytes) placed from ends below)

-- bytes of the block that stands are those of the area
pub area_shown : (seen : Seen) (address : ℕ) (bytes : List ℕ) → IsPlaced seen.layout → seen.layout.area ≤ address → address + length bytes ≤ seen.layout.area + seen.layout.room → ((k : ℕ) → k < length bytes → slice_index bytes k ≡ area_byte seen (address - seen.layout.area + k)) → bytes ≡ bytes_at (source_cells seen) Memory address (length bytes)
area_shown seen address bytes placed from ends each =
    bytes_from_each (source_cells seen) Memory address bytes (λ k below.
    each k below ∙ sym (area_read seen address k (length bytes) placed from ends below))

-- three tests that hold
each_holds : (a b c : Bool) → (a && b && c) ≡ true → (a ≡ true) × (b ≡ true) × (c ≡ true)
each_holds true true true holds = (refl, refl, refl)
each_holds true true false holds = absurd (both_ways false refl holds)
each_holds true false c holds = absurd (both_ways false refl holds)
each_holds false b c holds = absurd (both_ways false refl holds)

same_space_is : (one other : Space) → same_space one other ≡ true → one ≡ other
same_space_is Memory Memory same = refl
same_space_is Memory Port same = absurd (both_ways false refl same)
same_space_is Port Memory same = absurd (both_ways false refl same)
same_space_is Port Port same = refl

-- reaches that are the same by a test are equal
same_reach_is : (one other : Reach) → same_reach one other ≡ true → one ≡ other
same_reach_is one other same =
    let parts = each_holds (same_space one.space other.space) (eqb one.address other.address) (eqb one.width other.width) same in
    reach_from_parts one other (same_space_is one.space other.space parts.0) (eqb-true one.address other.address parts.1) (eqb-true one.width other.width parts.2)

-- what is read at the read ack register
ack_read : (seen : Seen) (ack : Option Reach) (reach : Reach) → IsPlaced seen.layout → FitsAck seen.layout.ack seen.cell → seen.layout.ack ≡ ack → is_reach ack reach ≡ true → value_at (source_cells seen) reach ≡ seen.cell
ack_read seen None reach placed fits is same = absurd (both_ways false refl same)
ack_read seen (Some register) reach placed fits is same =
    ap (value_at (source_cells seen)) (sym (same_reach_is register reach same)) ∙ ack_cells seen register placed is fits

pub read_of_ack : (seen : Seen) (reach : Reach) → IsPlaced seen.layout → FitsAck seen.layout.ack seen.cell → is_ack seen.layout reach ≡ true → value_at (source_cells seen) reach ≡ seen.cell
read_of_ack seen reach placed fits same = ack_read seen seen.layout.ack reach placed fits refl same

-- what is read at the status address register
pub read_of_status : (seen : Seen) (reach : Reach) → IsPlaced seen.layout → same_reach seen.layout.status reach ≡ true → value_at (source_cells seen) reach ≡ status_value seen
read_of_status seen reach placed same =
    ap (value_at (source_cells seen)) (sym (same_reach_is seen.layout.status reach same)) ∙ status_cells seen placed

-- what the cells answer is what the source means
pub answered : (seen : Seen) (access : Access) → IsPlaced seen.layout → FitsAck seen.layout.ack seen.cell → Answers (Some (source_cells seen)) access → IsAnswered access seen
unfolding IsAnswered
answered seen (Reads reach value) placed fits answers =
    (λ same. answers ∙ read_of_status seen reach placed same, λ same. answers ∙ read_of_ack seen reach placed fits same)
answered seen (Writes reach value) placed fits answers = tt
answered seen (Copies address bytes) placed fits answers = λ from ends. area_copied seen address bytes placed from ends answers

-- an access that only looks leaves the cells
pub looks_keep : (before after : Seen) (access : Access) → IsSourceStep before access after → IsLook access → Some (source_cells after) ≡ Some (source_cells before)
unfolding after_access
looks_keep before after (Reads reach value) step look = ap (λ seen. Some (source_cells seen)) step.leaves
looks_keep before after (Writes reach value) step look = absurd look
looks_keep before after (Copies address bytes) step look = ap (λ seen. Some (source_cells seen)) step.leaves

kept_layout : (b c : Bool) (value : ℕ) (seen : Seen) → (cond b (cleared seen) (cond c (ack_written value seen) seen)).layout ≡ seen.layout
kept_layout true c value seen = refl
kept_layout false true value seen = refl
kept_layout false false value seen = refl

-- no access changes where the source stands
pub access_keeps_layout : (access : Access) (seen : Seen) → (after_access access seen).layout ≡ seen.layout
unfolding after_access
access_keeps_layout (Reads reach value) seen = refl
access_keeps_layout (Writes reach value) seen = kept_layout _ _ value seen
access_keeps_layout (Copies address bytes) seen = refl

none_held : (b : Bool) (x y : ℕ) (o p : Option ℕ) → cond b (Some x) o ≡ None → (o ≡ None → p ≡ None) → cond b (Some y) p ≡ None
none_held true x y o p none same = absurd (cc none)
none_held false x y o p none same = same none

none_ack : (ack : Option Reach) (one other : ℕ) (space : Space) (address : ℕ) → ack_held ack one space address ≡ None → ack_held ack other space address ≡ None
none_ack None one other space address none = refl
none_ack (Some register) one other space address none = none_held (is_within (register_cells register) space address) _ _ None None none (λ is. is)

-- the cells by their parts
abbrev cells_by : Layout → (ℕ → ℕ) → (ℕ → ℕ) → ℕ → Cells
cells_by layout status area cell space address =
    held (register_cells layout.status) status space address
    (held (area_cells layout.area layout.room) area space address (ack_held layout.ack cell space address))

-- whether a cell is mapped depends on the layout alone
unmapped_by : (layout : Layout) (s t a b : ℕ → ℕ) (c d : ℕ) (space : Space) (address : ℕ) → cells_by layout s a c space address ≡ None → cells_by layout t b d space address ≡ None
unmapped_by layout s t a b c d space address none =
    none_held (is_within (register_cells layout.status) space address) _ _ _ _ none (λ area_none.
    none_held (is_within (area_cells layout.area layout.room) space address) _ _ _ _ area_none (λ ack_none.
    none_ack layout.ack c d space address ack_none))

pub stays_unmapped : (one other : Seen) (space : Space) (address : ℕ) → other.layout ≡ one.layout → source_cells one space address ≡ None → source_cells other space address ≡ None
unfolding source_cells
stays_unmapped one other space address same none =
    subst (λ layout. cells_by layout (number_byte (status_value other)) (area_byte other) other.cell space address ≡ None) (sym same)
    (unmapped_by one.layout (number_byte (status_value one)) (number_byte (status_value other)) (area_byte one) (area_byte other) one.cell other.cell space address none)

-- no access maps a cell
pub none_mapped : (before after : Seen) (access : Access) → IsSourceStep before access after → KeepsUnmapped (Some (source_cells before)) (Some (source_cells after))
none_mapped before after access step =
    λ space address none. stays_unmapped before after space address (ap (λ (seen : Seen). seen.layout) step.leaves ∙ access_keeps_layout access before) none

-- a stretch shares its cells with itself
share_self : (space : Space) (first count room : ℕ) → 0 < count → 0 < room → share (space, first, count) (space, first, room) ≡ true
share_self Memory first count room some more = grind (arith, nat_tests)
share_self Port first count room some more = grind (arith, nat_tests)

-- a width has a byte
has_byte : (w : ℕ) → is_width w ≡ true → 0 < w / 8
has_byte w is = grind (arith, nat_tests)

other_than : (ack : Option Reach) (reach : Reach) → ((register : Reach) → ack ≡ Some register → register ≡ reach → ⊥) → is_reach ack reach ≡ false
other_than None reach never = refl
other_than (Some register) reach never =
    ⊎_elim (λ same. absurd (never register refl (same_reach_is register reach same))) (λ other. other) (cases_Bool (same_reach register reach))

-- the read ack register is not the block status
pub ack_is_apart : (layout : Layout) → IsPlaced layout → is_ack layout (block_status layout) ≡ false
ack_is_apart layout placed = other_than layout.ack (block_status layout) (λ register is same.
    let apart : share (register_cells (block_status layout)) (area_cells layout.area layout.room) ≡ false =
    subst (λ r. share (register_cells r) (area_cells layout.area layout.room) ≡ false) same (placed.ack_is register is).is.apart in
    both_ways (share (Memory, layout.area, 4) (Memory, layout.area, layout.room)) apart
    (share_self Memory layout.area 4 layout.room (omega arith) (omega (arith, placed.header))))

-- nor the status address register
pub ack_is_other : (layout : Layout) → IsPlaced layout → is_ack layout layout.status ≡ false
ack_is_other layout placed = other_than layout.ack layout.status (λ register is same.
    let status = layout.status in
    let apart : share (register_cells status) (register_cells status) ≡ false =
    subst (λ r. share (register_cells r) (register_cells status) ≡ false) same (placed.ack_is register is).other in
    let some = has_byte status.width placed.status_is.whole in
    both_ways (share (register_cells status) (register_cells status)) apart
    (share_self status.space status.address (status.width / 8) (status.width / 8) some some))

-- 0 fits every read ack register
pub zero_fits : (ack : Option Reach) → FitsAck ack 0
zero_fits None = refl
zero_fits (Some register) = let some = one-le-pow register.width 2 (omega arith) in omega (arith, some)

-- failed accesses were named
pub port_sound : {seen : Seen} {faults named : ℕ} → IsSound seen 0 → faults ≤ named → IsSound (record seen { planned = named }) faults
port_sound sound few = record {
  placed = sound.placed;
  apart = sound.apart;
  other = sound.other;
  fits = sound.fits;
  raised = sound.raised;
  few = sound.few;
  made = sound.made;
  awaited = sound.awaited;
  planned = few;
}

named_choice : (b c : Bool) (named value : ℕ) (seen : Seen) → cond b (cleared (record seen { planned = named })) (cond c (ack_written value (record seen { planned = named })) (record seen { planned = named })) ≡ record (cond b (cleared seen) (cond c (ack_written value seen) seen)) { planned = named }
named_choice true c named value seen = refl
named_choice false true named value seen = refl
named_choice false false named value seen = refl

-- what an access leaves does not depend on which ones are to fail
pub named_leaves : (access : Access) (named : ℕ) (seen : Seen) → after_access access (record seen { planned = named }) ≡ record (after_access access seen) { planned = named }
unfolding after_access
named_leaves (Reads reach value) named seen = refl
named_leaves (Writes reach value) named seen = named_choice _ _ named value seen
named_leaves (Copies address bytes) named seen = refl

-- nor do the cells
pub named_cells : (named : ℕ) (seen : Seen) → source_cells (record seen { planned = named }) ≡ source_cells seen
unfolding source_cells
named_cells named seen = refl

-- one read, by what the memory answers
pub read_step : (memory : Seen) (old new : ℕ) (reach : Reach) (value : ℕ) → new ≡ old → value ≡ value_at (source_cells memory) reach → IsSourceStep (record memory { planned = old }) (Reads reach value) (record memory { planned = new })
unfolding after_access
read_step memory old new reach value same is = record {
  answers = is ∙ ap (λ (cells : Cells). value_at cells reach) (sym (named_cells old memory));
  leaves = ap (λ (n : ℕ). record memory { planned = n }) same;
}

-- as many bytes are read as are asked for
length-bytes_at : (cells : Cells) (space : Space) (first n : ℕ) → length (bytes_at cells space first n) ≡ n
unfolding bytes_at
length-bytes_at cells space first zero = refl
length-bytes_at cells space first (suc n) = ap suc (length-bytes_at cells space (first + 1) n)

-- one copy, by what the memory answers
pub copy_step : (memory : Seen) (old new : ℕ) (address n : ℕ) (bytes : List ℕ) → new ≡ old → bytes ≡ bytes_at (source_cells memory) Memory address n → IsSourceStep (record memory { planned = old }) (Copies address bytes) (record memory { planned = new })
unfolding after_access
copy_step memory old new address n bytes same is =
    let long : length bytes ≡ n = ap (λ (b : List ℕ). length b) is ∙ length-bytes_at (source_cells memory) Memory address n in
    record {
      answers = is ∙ ap (bytes_at (source_cells memory) Memory address) (sym long)
          ∙ ap (λ (cells : Cells). bytes_at cells Memory address (length bytes)) (sym (named_cells old memory));
      leaves = ap (λ (n : ℕ). record memory { planned = n }) same;
    }

-- one write, by what the memory is then
pub write_step : (memory after : Seen) (old new : ℕ) (reach : Reach) (value : ℕ) → new ≡ old → after ≡ after_access (Writes reach value) memory → IsSourceStep (record memory { planned = old }) (Writes reach value) (record after { planned = new })
write_step memory after old new reach value same is = record {
  answers = tt;
  leaves = ap (λ (n : ℕ). record after { planned = n }) same ∙ ap (λ (s : Seen). record s { planned = old }) is ∙ sym (named_leaves (Writes reach value) old memory);
}
