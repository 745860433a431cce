-- An injection on the machine of the sample's shape, step by step.
use Rattle.std.proofs.Common.{◌≡◌, ◌≢◌, ◌⊎◌, inl, inr, ◌<◌, ◌≤◌, ℕ, zero, suc, ◌+◌, ◌-◌, ◌*◌, ◌/◌, ◌%◌, ◌^◌, ◌&&◌, ◌||◌, ◌==◌, not, nat_lt, nat_le, bit_and, bit_or, Bool, true, false, cond, List, [], ◌∷◌, length, take, drop, Option, Some, None, Result, Ok, Err, refl, sym, ap, ap₂, ◌∙◌, subst, arith}
use Rattle.std.proofs.lemmas.Bool.Decides.{nat_tests}
use Rattle.std.proofs.lemmas.Nat.{and_mask, and_le_l, or_disjoint, from_le_bytes-to_le_bytes_8}
use Rattle.byteorder.specs.Endian.{little_bytes, little_number}
use Rattle.apei_base.specs.Bus.{Cells, Reach, Access, Reads, Writes, Copies, value_at, bytes_at}
use Rattle.apei_base.specs.declared.region.Space.TheVariants.{Memory, Port}
use Rattle.apei_einj.specs.Action.{entry_reach, field_of, with_field, Runs, Does}
use Rattle.apei_einj.specs.Injection.{WritesRows, AreBusy, Waits}
use Rattle.apei_einj.specs.Part.{memory_reach, Then, Stores, Acts}
use Rattle.apei_einj.specs.Request.{Row, is_error_type, address_structure}
use Rattle.apei_einj.specs.declared.injected.InjectError.{InjectError}
use Rattle.apei_einj.specs.declared.entry.Entry.{Entry}
use Rattle.fw_cells.specs.Changes.{with_bytes_at, with_value}
use Rattle.fw_einj.specs.Field.{shares, field_in, field_set}
use Rattle.fw_einj.specs.Machine.{Machine, IsMachineStep, after_write, after_read, after_command, after_trigger, is_begun, is_triggered, written, acted, acted_on, decided, counted_down, trigger_reach, triggered_by, type_in, command_status, injection_in, busy_begun, status_told, table_written, table_told, armed_with, made_of, table_bytes, idle_value, busy_value, told_at}
use Rattle.fw_einj.specs.Sample.{sample_entries, sample_board, AreMapped, AreAtRest, execute_entry, busy_entry, status_entry, trigger_entry, types_entry}
use Rattle.fw_einj.specs.declared.injection.Injection.{Injection}
use Rattle.fw_einj.specs.declared.port.Made.{Made}
use Rattle.fw_einj.specs.declared.setup.Setup.{Setup}
use Rattle.fw_einj.proofs.CellFacts.{Apart, bytes-apart, value-apart, mapped-stay, bytes-there, value32-there, value64-there}

-- the machine of the sample's shape
abbrev pub machine_at : ℕ → ℕ → Setup → Cells → ℕ → Option Injection → Option Made → Machine
machine_at table cell setup cells busy armed made = record {
  board = sample_board table cell;
  setup = setup;
  cells = cells;
  busy = busy;
  armed = armed;
  made = made;
}

pub first_false : (a b : Bool) → a ≡ false → (a && b) ≡ false
first_false a b e = ap (λ c. c && b) e

pub second_false : (a b : Bool) → b ≡ false → (a && b) ≡ false
second_false true b e = e
second_false false b e = refl

-- a write that is neither a command nor a trigger changes its cells alone
pub plain-write : (reach : Reach) (value : ℕ) (machine : Machine) → shares reach (entry_reach machine.board.execute.entry) ≡ false
    → shares reach (trigger_reach machine) ≡ false → after_write reach value machine ≡ written reach value machine
unfolding after_write after_command is_begun after_trigger is_triggered written
plain-write reach value machine no_command no_trigger =
    ap (after_trigger reach) (ap (λ b. cond b (acted (written reach value machine)) (written reach value machine)) (first_false _ _ no_command))
    ∙ ap (λ b. cond b (triggered_by machine.armed (written reach value machine)) (written reach value machine)) (first_false _ _ no_trigger)

-- memory behind the trigger cell does not share a cell with it
pub behind-trigger : (cell address width : ℕ) → cell + 4 ≤ address → shares (memory_reach address width) (memory_reach cell 32) ≡ false
behind-trigger cell address width below =
    let past : nat_lt address (cell + 4) ≡ false = grind (arith, nat_tests) in
    first_false (nat_lt address (cell + 4)) (nat_lt cell (address + width / 8)) past

-- the cells after rows were written behind an address
abbrev pub rows_cells : ℕ → List Row → Cells → Cells
rows_cells address [] cells = cells
rows_cells address (row ∷ rows) cells = rows_cells address rows (with_value cells (memory_reach (address + row.offset) row.width) row.value)

-- rows are written
pub writes-rows : (table cell : ℕ) (setup : Setup) (made : Option Made) (address : ℕ) (rows : List Row) (cells : Cells) → cell + 4 ≤ address
    → WritesRows IsMachineStep address rows (machine_at table cell setup cells 0 None made) (Ok tt)
    (machine_at table cell setup (rows_cells address rows cells) 0 None made)
unfolding WritesRows Stores Then written
writes-rows table cell setup made address [] cells below = (refl, refl)
writes-rows table cell setup made address (row ∷ rows) cells below =
    let before = machine_at table cell setup cells 0 None made in
    let reach = memory_reach (address + row.offset) row.width in
    let step = plain-write reach row.value before refl (behind-trigger cell (address + row.offset) row.width (omega arith)) in (
      tt,
      machine_at table cell setup (with_value cells reach row.value) 0 None made,
      sym step,
      writes-rows table cell setup made address rows (with_value cells reach row.value) below,
    )

-- a value below what is written stays
pub stays-below : (cells : Cells) (at width value : ℕ) (reach : Reach) → reach.address + reach.width / 8 ≤ at
    → value_at (with_value cells (memory_reach at width) value) reach ≡ value_at cells reach
stays-below cells at width value reach low = value-apart cells Memory at (little_bytes (width / 8) value) reach (inr (inl low))

-- a part of cells that are mapped is
pub part-mapped : (cells : Cells) (first n offset m : ℕ) → AreMapped cells Memory first n → offset + m ≤ n → AreMapped cells Memory (first + offset) m
part-mapped cells first n offset m mapped within k below none =
    let place : first + (offset + k) ≡ first + offset + k = omega arith in
    mapped (offset + k) (omega arith) (ap (cells Memory) place ∙ none)

-- The cells after the six fields of the address structure were written.
abbrev pub structure_cells : ℕ → ℕ → ℕ → ℕ → ℕ → ℕ → Cells → Cells
structure_cells error flags processor address mask pcie cells =
    with_value (with_value (with_value (with_value (with_value (with_value cells
    (memory_reach 0x7e000040 32) error) (memory_reach 0x7e000048 32) flags) (memory_reach 0x7e00004c 32) processor)
    (memory_reach 0x7e000050 64) address) (memory_reach 0x7e000058 64) mask) (memory_reach 0x7e000060 32) pcie

-- the fields that the structure tells
pub record Tells (error flags processor address mask pcie : ℕ) (cells : Cells) : Type 0 where
  pub error_told : value_at cells (memory_reach 0x7e000040 32) ≡ error
  pub flags_told : value_at cells (memory_reach 0x7e000048 32) ≡ flags
  pub processor_told : value_at cells (memory_reach 0x7e00004c 32) ≡ processor
  pub address_told : value_at cells (memory_reach 0x7e000050 64) ≡ address
  pub mask_told : value_at cells (memory_reach 0x7e000058 64) ≡ mask
  pub pcie_told : value_at cells (memory_reach 0x7e000060 32) ≡ pcie

module _ (error flags processor address mask pcie : ℕ) (cells : Cells) (mapped : AreMapped cells Memory 0x7e000040 36) where
  c1 : Cells
  c1 = with_value cells (memory_reach 0x7e000040 32) error

  c2 : Cells
  c2 = with_value c1 (memory_reach 0x7e000048 32) flags

  c3 : Cells
  c3 = with_value c2 (memory_reach 0x7e00004c 32) processor

  c4 : Cells
  c4 = with_value c3 (memory_reach 0x7e000050 64) address

  c5 : Cells
  c5 = with_value c4 (memory_reach 0x7e000058 64) mask

  kept-mapped : (c : Cells) (at width value : ℕ) → AreMapped c Memory 0x7e000040 36 → AreMapped (with_value c (memory_reach at width) value) Memory 0x7e000040 36
  kept-mapped c at width value m = mapped-stay c Memory at (little_bytes (width / 8) value) Memory 0x7e000040 36 m

  pub structure-tells : error < 2 ^ 32 → flags < 2 ^ 32 → processor < 2 ^ 32 → address < 2 ^ 64 → mask < 2 ^ 64 → pcie < 2 ^ 32
      → Tells error flags processor address mask pcie (structure_cells error flags processor address mask pcie cells)
  unfolding c1 c2 c3 c4 c5
  structure-tells fits0 fits1 fits2 fits3 fits4 fits5 =
      let m1 = kept-mapped cells 0x7e000040 32 error mapped in
      let m2 = kept-mapped c1 0x7e000048 32 flags m1 in
      let m3 = kept-mapped c2 0x7e00004c 32 processor m2 in
      let m4 = kept-mapped c3 0x7e000050 64 address m3 in
      let m5 = kept-mapped c4 0x7e000058 64 mask m4 in
      record {
        error_told =
            stays-below c5 0x7e000060 32 pcie (memory_reach 0x7e000040 32) (omega arith)
            ∙ stays-below c4 0x7e000058 64 mask (memory_reach 0x7e000040 32) (omega arith)
            ∙ stays-below c3 0x7e000050 64 address (memory_reach 0x7e000040 32) (omega arith)
            ∙ stays-below c2 0x7e00004c 32 processor (memory_reach 0x7e000040 32) (omega arith)
            ∙ stays-below c1 0x7e000048 32 flags (memory_reach 0x7e000040 32) (omega arith)
            ∙ value32-there cells 0x7e000040 error (part-mapped cells 0x7e000040 36 0 4 mapped (omega arith)) (omega arith) fits0;
        flags_told =
            stays-below c5 0x7e000060 32 pcie (memory_reach 0x7e000048 32) (omega arith)
            ∙ stays-below c4 0x7e000058 64 mask (memory_reach 0x7e000048 32) (omega arith)
            ∙ stays-below c3 0x7e000050 64 address (memory_reach 0x7e000048 32) (omega arith)
            ∙ stays-below c2 0x7e00004c 32 processor (memory_reach 0x7e000048 32) (omega arith)
            ∙ value32-there c1 0x7e000048 flags (part-mapped c1 0x7e000040 36 8 4 m1 (omega arith)) (omega arith) fits1;
        processor_told =
            stays-below c5 0x7e000060 32 pcie (memory_reach 0x7e00004c 32) (omega arith)
            ∙ stays-below c4 0x7e000058 64 mask (memory_reach 0x7e00004c 32) (omega arith)
            ∙ stays-below c3 0x7e000050 64 address (memory_reach 0x7e00004c 32) (omega arith)
            ∙ value32-there c2 0x7e00004c processor (part-mapped c2 0x7e000040 36 12 4 m2 (omega arith)) (omega arith) fits2;
        address_told =
            stays-below c5 0x7e000060 32 pcie (memory_reach 0x7e000050 64) (omega arith)
            ∙ stays-below c4 0x7e000058 64 mask (memory_reach 0x7e000050 64) (omega arith)
            ∙ value64-there c3 0x7e000050 address (part-mapped c3 0x7e000040 36 16 8 m3 (omega arith)) (omega arith) fits3;
        mask_told =
            stays-below c5 0x7e000060 32 pcie (memory_reach 0x7e000058 64) (omega arith)
            ∙ value64-there c4 0x7e000058 mask (part-mapped c4 0x7e000040 36 24 8 m4 (omega arith)) (omega arith) fits4;
        pcie_told = value32-there c5 0x7e000060 pcie (part-mapped c5 0x7e000040 36 32 4 m5 (omega arith)) (omega arith) fits5;
      }
