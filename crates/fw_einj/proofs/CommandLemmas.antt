-- What a command leaves on the machine of the sample's shape.
use Rattle.std.proofs.Common.{◌≡◌, ◌≢◌, ◌⊎◌, inl, inr, ◌<◌, ◌≤◌, ℕ, zero, suc, ◌+◌, ◌-◌, ◌*◌, ◌/◌, ◌%◌, ◌^◌, ◌&&◌, ◌||◌, ◌==◌, not, nat_lt, nat_le, bit_and, bit_or, Bool, true, false, cond, List, [], ◌∷◌, length, take, drop, Option, Some, None, refl, sym, ap, ap₂, ◌∙◌, arith}
use Rattle.std.proofs.lemmas.Bool.Decides.{nat_tests}
use Rattle.std.proofs.lemmas.Nat.{and_mask, and_le_l, or_disjoint}
use Rattle.byteorder.specs.Endian.{little_bytes, little_number}
use Rattle.apei_base.specs.Bus.{Cells, Reach, value_at, bytes_at}
use Rattle.apei_base.specs.declared.region.Space.TheVariants.{Memory, Port}
use Rattle.apei_einj.specs.Action.{entry_reach, field_of, with_field}
use Rattle.apei_einj.specs.Part.{memory_reach}
use Rattle.apei_einj.specs.Request.{is_error_type}
use Rattle.fw_cells.specs.Changes.{with_bytes_at, with_value}
use Rattle.fw_einj.specs.Field.{shares, field_in, field_set}
use Rattle.fw_einj.specs.Machine.{Machine, after_write, after_command, after_trigger, is_begun, is_triggered, written, acted, acted_on, decided, triggered_by, type_in, command_status, injection_in, busy_begun, status_told, table_written, table_told, armed_with, table_bytes, idle_value, busy_value}
use Rattle.fw_einj.specs.Sample.{sample_board, AreMapped, execute_entry, busy_entry, status_entry, trigger_entry}
use Rattle.fw_einj.specs.declared.injection.Injection.{Injection}
use Rattle.fw_einj.specs.declared.port.Made.{Made}
use Rattle.fw_einj.specs.declared.setup.Setup.{Setup}
use Rattle.fw_einj.proofs.CellFacts.{value-apart, mapped-stay, bytes-there, value32-there, value64-there}
use Rattle.fw_einj.proofs.SampleLemmas.{machine_at, Tells, stays-below, part-mapped}

-- where the port that begins is
abbrev pub execute_reach : Reach
execute_reach = record { space = Port; address = 0xb2; width = 8 }

-- what busy is set to at first
abbrev pub first_value : ℕ → ℕ
first_value busy = cond (busy == 0) 0xfffffffffffffffe 1

-- the cells after a command, by steps: the port was written, busy was set, the status was set, the table was written, and its
-- address was set
abbrev pub begun_cells : Cells → Cells
begun_cells cells = with_value cells execute_reach 0x9a

abbrev pub busy_cells : ℕ → Cells → Cells
busy_cells busy cells =
    with_value (begun_cells cells) (memory_reach 0x7e000010 32)
    (with_field busy_entry (value_at (begun_cells cells) (memory_reach 0x7e000010 32)) (first_value busy))

abbrev pub status_cells : ℕ → Cells → Cells
status_cells busy cells =
    with_value (busy_cells busy cells) (memory_reach 0x7e000010 32)
    (with_field status_entry (value_at (busy_cells busy cells) (memory_reach 0x7e000010 32)) 0)

abbrev pub table_cells : ℕ → ℕ → ℕ → Cells → Cells
table_cells table cell busy cells = with_bytes_at (status_cells busy cells) Memory table (table_bytes cell)

abbrev pub told_cells : ℕ → ℕ → ℕ → Cells → Cells
told_cells table cell busy cells =
    with_value (table_cells table cell busy cells) (memory_reach 0x7e000000 64)
    (with_field trigger_entry (value_at (table_cells table cell busy cells) (memory_reach 0x7e000000 64)) table)

-- the command of the port is the one that begins
begun : (table cell : ℕ) (setup : Setup) (cells : Cells) (made : Option Made) → AreMapped cells Port 0xb2 1
    → is_begun execute_reach (machine_at table cell setup (begun_cells cells) 0 None made) ≡ true
unfolding is_begun field_in
begun table cell setup cells made mapped =
    let value : value_at (begun_cells cells) execute_reach ≡ 0x9a =
    ap (little_number 1) (bytes-there cells Port 0xb2 (0x9a ∷ []) 0 1 mapped (omega arith) (omega arith)) in
    ap (λ n. field_of execute_entry n == bit_and 0x9a 0xff) value

-- what the structure tells is told after a write elsewhere
pub tells-still : (error flags processor address mask pcie : ℕ) (one other : Cells) → ((offset width : ℕ) → value_at other (memory_reach (0x7e000040 + offset) width) ≡ value_at one (memory_reach (0x7e000040 + offset) width))
    → Tells error flags processor address mask pcie one → Tells error flags processor address mask pcie other
tells-still error flags processor address mask pcie one other same tells = record {
  error_told = same 0 32 ∙ tells.error_told;
  flags_told = same 8 32 ∙ tells.flags_told;
  processor_told = same 12 32 ∙ tells.processor_told;
  address_told = same 16 64 ∙ tells.address_told;
  mask_told = same 24 64 ∙ tells.mask_told;
  pcie_told = same 32 32 ∙ tells.pcie_told;
}

-- a write of the port changes no memory
pub port-apart : (cells : Cells) (address width : ℕ) → value_at (begun_cells cells) (memory_reach address width) ≡ value_at cells (memory_reach address width)
port-apart cells address width = value-apart cells Port 0xb2 (0x9a ∷ []) (memory_reach address width) (inl refl)

-- memory behind what is written stays
pub above32 : (cells : Cells) (at value address width : ℕ) → at + 4 ≤ address
    → value_at (with_value cells (memory_reach at 32) value) (memory_reach address width) ≡ value_at cells (memory_reach address width)
above32 cells at value address width high = value-apart cells Memory at (little_bytes 4 value) (memory_reach address width) (inr (inr high))

pub above64 : (cells : Cells) (at value address width : ℕ) → at + 8 ≤ address
    → value_at (with_value cells (memory_reach at 64) value) (memory_reach address width) ≡ value_at cells (memory_reach address width)
above64 cells at value address width high = value-apart cells Memory at (little_bytes 8 value) (memory_reach address width) (inr (inr high))

-- memory behind the registers is as it was before the command
pub behind-registers : (table cell busy : ℕ) (cells : Cells) (address width : ℕ) → table + 48 ≤ 0x7e000000 → 0x7e000014 ≤ address
    → value_at (told_cells table cell busy cells) (memory_reach address width) ≡ value_at cells (memory_reach address width)
behind-registers table cell busy cells address width low behind =
    above64 (table_cells table cell busy cells) 0x7e000000 _ address width (omega arith)
    ∙ value-apart (status_cells busy cells) Memory table (table_bytes cell) (memory_reach address width) (inr (inr (omega arith)))
    ∙ above32 (busy_cells busy cells) 0x7e000010 _ address width (omega arith)
    ∙ above32 (begun_cells cells) 0x7e000010 _ address width (omega arith)
    ∙ port-apart cells address width

-- the machine after the command
pub command-acts : (table cell : ℕ) (setup : Setup) (cells : Cells) (made : Option Made) (error flags processor address mask pcie : ℕ)
    → AreMapped cells Port 0xb2 1 → Tells error flags processor address mask pcie cells → setup.status ≡ 0 → is_error_type error ≡ true → table + 48 ≤ 0x7e000000
    → after_write execute_reach 0x9a (machine_at table cell setup cells 0 None made)
    ≡ machine_at table cell setup (told_cells table cell setup.busy cells) setup.busy
    (Some (record { error = error; flags = flags; processor = processor; address = address; mask = mask; pcie = pcie })) made
unfolding after_write after_command after_trigger is_triggered written acted acted_on decided busy_begun status_told table_written table_told armed_with injection_in type_in field_set
command-acts table cell setup cells made error flags processor address mask pcie mapped tells status type low =
    let w = machine_at table cell setup (begun_cells cells) 0 None made in
    let cn = told_cells table cell setup.busy cells in
    let same : (offset width : ℕ) → value_at cn (memory_reach (0x7e000040 + offset) width) ≡ value_at cells (memory_reach (0x7e000040 + offset) width) =
    λ offset width. behind-registers table cell setup.busy cells (0x7e000040 + offset) width low (omega arith) in
    let told = tells-still error flags processor address mask pcie cells cn same tells in
    let kind : type_in w.board.asked (begun_cells cells) ≡ error = port-apart cells 0x7e000040 32 ∙ tells.error_told in
    let code : command_status setup error ≡ 0 = ap₂ (λ (s : ℕ) (b : Bool). cond ((s == 0) && not b) 2 s) status type in
    let injection : injection_in error w.board.asked cn ≡ record { error = error; flags = flags; processor = processor; address = address; mask = mask; pcie = pcie } =
    ap₂ (λ (f p : ℕ). record { error = error; flags = f; processor = p; address = value_at cn (memory_reach 0x7e000050 64); mask = value_at cn (memory_reach 0x7e000058 64); pcie = value_at cn (memory_reach 0x7e000060 32) }) told.flags_told told.processor_told
    ∙ ap₂ (λ (a m : ℕ). record { error = error; flags = flags; processor = processor; address = a; mask = m; pcie = value_at cn (memory_reach 0x7e000060 32) }) told.address_told told.mask_told
    ∙ ap (λ (p : ℕ). record { error = error; flags = flags; processor = processor; address = address; mask = mask; pcie = p }) told.pcie_told in
    ap (after_trigger execute_reach) (ap (λ b. cond b (acted w) w) (begun table cell setup cells made mapped))
    ∙ ap (λ k. acted_on k (command_status setup k) w) kind
    ∙ ap (λ s. acted_on error s w) code
    ∙ ap (λ (i : Injection). machine_at table cell setup cn setup.busy (Some i) made) injection
