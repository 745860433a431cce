-- What stands in a memory that raises one block so often, and what its accesses answer.
use Rattle.std.proofs.Common.{◌≡◌, ◌≤◌, ◌<◌, ◌+◌, ◌-◌, ◌%◌, ◌^◌, ℕ, Bool, true, false, not, ◌&&◌, ◌==◌, nat_lt, if◌then◌else◌, List, replicate, Some, None, is_some, slice_get, IsTrue, refl, arith, length, ◌∙◌, ap, sym, ⊎_elim, ◌||◌, unwrap_or, [], ◌++◌, take, drop}
use Rattle.std.proofs.lemmas.Bool.{cases_lt}
use Rattle.std.proofs.lemmas.Bool.Decides.{nat_tests}
use Rattle.std.proofs.lemmas.List.{get_or-replicate, length-replicate, drop-append-le}
use Rattle.std.proofs.Math.Seq.{take-append_seam}
use Rattle.std.proofs.lemmas.Option.{slice_get_past, slice_get_read}
use Rattle.apei_base.specs.Bus.{same_space, Reach, Reads, Copies, same_reach}
use Rattle.apei_base.specs.Firmware.{standing, status_value, shown, block_status, is_ack, after_access, IsAnswered}
use Rattle.apei_base.specs.declared.region.Space.{Space}
use Rattle.apei_base.specs.declared.region.Space.TheVariants.{Memory, Port}
use Rattle.apei_mem_bus.specs.OneSource.{IsPlainStep}
use Rattle.nmi_bench.specs.Memory.{port_layout, port_seen, register_at, area_where, IsReady}

-- an element of equal ones
slice_get-replicate : (n i : ℕ) (block : List ℕ) → slice_get (replicate n block) i ≡ (if nat_lt i n then Some block else None)
slice_get-replicate n i block =
    ⊎_elim
    (λ within. slice_get_read (replicate n block) n i block (sym (length-replicate n block)) within (sym (get_or-replicate n i block block within)) ∙ grind (arith, nat_tests, within))
    (λ past. slice_get_past (replicate n block) i (rw length-replicate past) ∙ grind (arith, nat_tests, past))
    (cases_lt i n)

-- the block stands where none is awaited and not all are acknowledged
standing_by_parts : (block : List ℕ) (raised acknowledged : ℕ) (waits : Bool) (cell : ℕ) → standing (port_seen block raised acknowledged waits cell) ≡ (if not waits && nat_lt acknowledged raised then Some block else None)
standing_by_parts block raised acknowledged true cell = refl
standing_by_parts block raised acknowledged false cell = slice_get-replicate raised acknowledged block

-- the block stands where that is said
pub standing_is : (block : List ℕ) (raised acknowledged : ℕ) (waits stands : Bool) (status cell : ℕ) → IsReady block raised acknowledged waits stands status cell → standing (port_seen block raised acknowledged waits cell) ≡ (if stands then Some block else None)
standing_is block raised acknowledged waits stands status cell ready =
    standing_by_parts block raised acknowledged waits cell ∙ ap (λ b. if b then Some block else None) (sym ready.stands_is)

unwrap_if : (b : Bool) (block : List ℕ) → unwrap_or (if b then Some block else None) [] ≡ (if b then block else [])
unwrap_if true block = refl
unwrap_if false block = refl

-- the bytes of the block that stands
pub bytes_are : (block : List ℕ) (raised acknowledged : ℕ) (waits stands : Bool) (status cell : ℕ) → IsReady block raised acknowledged waits stands status cell → unwrap_or (standing (port_seen block raised acknowledged waits cell)) [] ≡ (if stands then block else [])
bytes_are block raised acknowledged waits stands status cell ready =
    ap (λ found. unwrap_or found []) (standing_is block raised acknowledged waits stands status cell ready) ∙ unwrap_if stands block

some_if : (b : Bool) (block : List ℕ) → is_some (if b then Some block else None) ≡ b
some_if true block = refl
some_if false block = refl

-- whether a block stands
pub stands_is : (block : List ℕ) (raised acknowledged : ℕ) (waits stands : Bool) (status cell : ℕ) → IsReady block raised acknowledged waits stands status cell → is_some (standing (port_seen block raised acknowledged waits cell)) ≡ stands
stands_is block raised acknowledged waits stands status cell ready =
    ap is_some (standing_is block raised acknowledged waits stands status cell ready) ∙ some_if stands block

address_by_parts : (raised acknowledged : ℕ) (waits some : Bool) → some ≡ (not waits && nat_lt acknowledged raised) → acknowledged ≤ raised → (IsTrue waits → 0 < acknowledged) → area_where (nat_lt 0 acknowledged || some) ≡ area_where (nat_lt 0 raised)
address_by_parts raised acknowledged true some is most awaited = let one : 0 < acknowledged = awaited refl in grind (arith, nat_tests)
address_by_parts raised acknowledged false some is most awaited = grind (arith, nat_tests)

-- what the status address register says
pub status_is : (block : List ℕ) (raised acknowledged : ℕ) (waits stands : Bool) (status cell : ℕ) → IsReady block raised acknowledged waits stands status cell → status ≡ status_value (port_seen block raised acknowledged waits cell)
status_is block raised acknowledged waits stands status cell ready =
    ready.status_is
    ∙ sym (address_by_parts raised acknowledged waits (is_some (standing (port_seen block raised acknowledged waits cell)))
    (stands_is block raised acknowledged waits stands status cell ready ∙ ready.stands_is) ready.made ready.awaited)

same_numbers : (s : Bool) (a b m n : ℕ) → (s && (a == b) && (m == n)) ≡ true → m ≡ n
same_numbers s a b m n same = grind (arith, nat_tests)

-- what reaches the same cells is as wide
same_width : (one other : Reach) → same_reach one other ≡ true → one.width ≡ other.width
same_width one other same = same_numbers (same_space one.space other.space) one.address other.address one.width other.width same

-- a wide read answers what the status address register holds
pub reads_status : (block : List ℕ) (raised acknowledged : ℕ) (waits stands : Bool) (status cell : ℕ) (reach : Reach) → IsReady block raised acknowledged waits stands status cell → 32 < reach.width → IsPlainStep (port_seen block raised acknowledged waits cell) (Reads reach status) (port_seen block raised acknowledged waits cell)
unfolding after_access IsAnswered
reads_status block raised acknowledged waits stands status cell reach ready wide = (
  (
    λ same. status_is block raised acknowledged waits stands status cell ready,
    λ same. absurd (let narrow : 32 ≡ reach.width = same_width (register_at 4104 32) reach same in omega (arith, narrow, wide)),
  ),
  refl,
)

-- a read of 32 bits answers what the read ack register holds
pub reads_cell : (block : List ℕ) (raised acknowledged : ℕ) (waits : Bool) (cell value : ℕ) (reach : Reach) → reach.width ≡ 32 → value ≡ cell → IsPlainStep (port_seen block raised acknowledged waits cell) (Reads reach value) (port_seen block raised acknowledged waits cell)
unfolding after_access IsAnswered
reads_cell block raised acknowledged waits cell value reach narrow is = (
  (
    λ same. absurd (let wide : 64 ≡ reach.width = same_width (register_at 4096 64) reach same in omega (arith, narrow, wide)),
    λ same. is,
  ),
  refl,
)

-- of a narrower read nothing is said
pub reads_none : (block : List ℕ) (raised acknowledged : ℕ) (waits : Bool) (cell value : ℕ) (reach : Reach) → reach.width < 32 → IsPlainStep (port_seen block raised acknowledged waits cell) (Reads reach value) (port_seen block raised acknowledged waits cell)
unfolding after_access IsAnswered
reads_none block raised acknowledged waits cell value reach narrow = (
  (
    λ same. absurd (let wide : 64 ≡ reach.width = same_width (register_at 4096 64) reach same in omega (arith, narrow, wide)),
    λ same. absurd (let wide : 32 ≡ reach.width = same_width (register_at 4104 32) reach same in omega (arith, narrow, wide)),
  ),
  refl,
)

as_by_parts : (space : Space) (a b m n : ℕ) → ((a == b) && (m == n) && same_space space Memory) ≡ (same_space Memory space && (b == a) && (n == m))
as_by_parts Memory a b m n = grind (arith, nat_tests)
as_by_parts Port a b m n = grind (arith, nat_tests)

-- the order in which the parts of a register are compared makes no difference
pub same_as : (reach : Reach) (address : ℕ) → ((reach.address == address) && (reach.width == 32) && same_space reach.space Memory) ≡ same_reach (register_at address 32) reach
same_as reach address = as_by_parts reach.space reach.address address reach.width 32

way_by_parts : (p q : Space) (a b m n : ℕ) → (same_space p q && (a == b) && (m == n)) ≡ (same_space q p && (b == a) && (n == m))
way_by_parts Memory Memory a b m n = grind (arith, nat_tests)
way_by_parts Port Port a b m n = grind (arith, nat_tests)
way_by_parts Memory Port a b m n = refl
way_by_parts Port Memory a b m n = refl

-- which of two registers is named first makes no difference
pub same_either_way : (one other : Reach) → same_reach one other ≡ same_reach other one
same_either_way one other = way_by_parts one.space other.space one.address other.address one.width other.width

clears_by_parts : (same : Bool) (reach : Reach) (value : ℕ) (stands : Bool) → (same ≡ true → reach.width ≡ 32) → ((value % 4294967296 == 0) && stands && same) ≡ (same && (value % 2 ^ reach.width == 0) && stands)
clears_by_parts false reach value stands width = grind (arith, nat_tests)
clears_by_parts true reach value stands width = rw (width refl) grind (arith, nat_tests)

-- a write of 32 bits clears where all of them are 0
pub clears_is : (reach : Reach) (value : ℕ) (stands : Bool) → ((value % 4294967296 == 0) && stands && same_reach reach (block_status port_layout)) ≡ (same_reach reach (block_status port_layout) && (value % 2 ^ reach.width == 0) && stands)
clears_is reach value stands = clears_by_parts (same_reach reach (register_at 8192 32)) reach value stands (same_width reach (register_at 8192 32))

-- the low bits of what is written to the read ack register
pub ack_bits : (reach : Reach) (value : ℕ) → is_ack port_layout reach ≡ true → value % 2 ^ reach.width ≡ value % 4294967296
ack_bits reach value is = let width : reach.width ≡ 32 = sym (same_width (register_at 4104 32) reach is) in ap (λ n. value % 2 ^ n) width

-- bytes of the block that stands are what a copy there answers, and nothing changes
pub copied : (block : List ℕ) (raised acknowledged : ℕ) (waits stands : Bool) (status cell : ℕ) (address skip : ℕ) (bytes : List ℕ) → IsReady block raised acknowledged waits stands status cell → address ≡ 8192 → stands ≡ true → bytes ≡ shown skip (length bytes) block → IsPlainStep (port_seen block raised acknowledged waits cell) (Copies (address + skip) bytes) (port_seen block raised acknowledged waits cell)
unfolding after_access IsAnswered
copied block raised acknowledged waits stands status cell address skip bytes ready at stand is =
    let place : address + skip - 8192 ≡ skip = omega (arith, at) in
    let stood : unwrap_or (standing (port_seen block raised acknowledged waits cell)) [] ≡ block =
    bytes_are block raised acknowledged waits stands status cell ready ∙ ap (λ (b : Bool). if b then block else []) stand in
    (λ low high. cc (is, stood, place), refl)

-- what is behind a place of a block is what is shown from there on
pub shown_behind : (skip : ℕ) (block rest : List ℕ) → skip ≤ length block → rest ≡ drop skip block → rest ≡ shown skip (length rest) block
shown_behind skip block rest within is =
    let zeros = replicate (skip + length rest) 0 in
    sym
    (ap (take (length rest)) (drop-append-le skip block zeros within ∙ ap (λ bytes. bytes ++ zeros) (sym is))
    ∙ take-append_seam rest zeros)
