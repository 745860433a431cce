-- An injection on the machine of the sample's shape is done, part by part.
use Rattle.std.proofs.Common.{◌≡◌, ◌≢◌, ◌⊎◌, inl, inr, ◌<◌, ◌≤◌, ℕ, zero, suc, ◌+◌, ◌-◌, ◌*◌, ◌/◌, ◌%◌, ◌^◌, max, ◌&&◌, ◌||◌, ◌==◌, not, nat_lt, nat_le, bit_and, bit_or, Bool, true, false, cond, List, [], ◌∷◌, length, take, drop, Option, Some, None, Result, Ok, Err, refl, sym, ap, ap₂, ◌∙◌, subst, arith, add-zero, zero-add}
use Rattle.std.specs.Option.{option_or}
use Rattle.std.specs.Prelude.{is_some}
use Rattle.std.proofs.lemmas.Bool.Decides.{nat_tests}
use Rattle.std.proofs.lemmas.Nat.{and_mask, and_le_l, or_disjoint}
use Rattle.byteorder.specs.Endian.{little_bytes, little_number}
use Rattle.apei_base.specs.Bus.{Cells, Reach, Access, Reads, Writes, Copies, value_at, bytes_at}
use Rattle.apei_base.specs.Refusal.{first_of}
use Rattle.apei_base.specs.Region.{access_width, gas_refusal}
use Rattle.apei_base.specs.declared.gas.Gas.{Gas}
use Rattle.apei_base.specs.declared.gas.GasError.{GasError}
use Rattle.apei_base.specs.declared.gas.GasError.TheVariants as gas_errors
use Rattle.apei_base.specs.declared.region.Space.TheVariants.{Memory, Port}
use Rattle.apei_einj.specs.Action.{entry_reach, field_of, with_field, instruction_of, Runs, Does, ReadRegister, ReadRegisterValue}
use Rattle.apei_einj.specs.Anchor.{anchor_of}
use Rattle.apei_einj.specs.Entry.{of_action, entries_from, pieces_of}
use Rattle.apei_einj.specs.Injection.{WritesRows, SetsType, AreBusy, Waits, Prepares, Executes, Ends, Injects, place_refusal, type_refusal}
use Rattle.apei_einj.specs.Part.{memory_reach, Acts, Takes, TakesAny, IsDone}
use Rattle.apei_einj.specs.Refusal.{lacks}
use Rattle.apei_einj.specs.Request.{is_error_type, address_structure, has_place, flags_of, processor_of, address_of, mask_of, pcie_of}
use Rattle.apei_einj.specs.Trigger.{Triggers, TriggersBehind, trigger_entries, trigger_refusal, first_reason}
use Rattle.apei_einj.specs.declared.entry.Entry.{Entry}
use Rattle.apei_einj.specs.declared.injected.Injected.{Injected}
use Rattle.apei_einj.specs.declared.injected.InjectError.{InjectError}
use Rattle.apei_einj.specs.declared.injected.InjectError.TheVariants as errors
use Rattle.apei_einj.specs.declared.request.Place.{Place}
use Rattle.apei_einj.specs.declared.request.Place.TheVariants as places
use Rattle.apei_einj.specs.declared.request.Request.{Request}
use Rattle.apei_einj.proofs.PartLemmas.{goes_on, gives, tests}
use Rattle.apei_einj.proofs.RunLemmas.{goes_on-start, goes_on-more}
use Rattle.apei_einj.proofs.WaitLemmas.{waits-ends}
use Rattle.fw_cells.specs.Changes.{with_bytes_at, with_value}
use Rattle.fw_einj.specs.Field.{shares, field_set}
use Rattle.fw_einj.specs.Machine.{Machine, IsMachineStep, after_write, after_read, after_command, after_trigger, is_begun, is_triggered, written, acted, counted_down, triggered_by, trigger_reach, made_of, table_bytes}
use Rattle.fw_einj.specs.Sample.{sample_entries, sample_board, AreMapped, AreAtRest, FitsStructure, LetsIn, begin_entry, trigger_entry, types_entry, end_entry, execute_entry, busy_entry, status_entry, asked_injection}
use Rattle.fw_einj.specs.declared.injection.Injection.{Injection}
use Rattle.fw_einj.specs.declared.port.Made.{Made}
use Rattle.fw_einj.specs.declared.setup.Setup.{Setup}
use Rattle.fw_einj.proofs.CellFacts.{value-apart, bytes-apart, mapped-stay, bytes-there, value32-there, value64-there, number64}
use Rattle.fw_einj.proofs.CommandLemmas.{execute_reach, first_value, begun_cells, busy_cells, status_cells, table_cells, told_cells, command-acts, port-apart, above64}
use Rattle.fw_einj.proofs.MachineLemmas.{counted_last, counted_more}
use Rattle.fw_einj.proofs.SampleLemmas.{machine_at, writes-rows, rows_cells, structure_cells, structure-tells, stays-below, part-mapped, first_false, second_false}

-- the register of busy and status
abbrev status_reach : Reach
status_reach = memory_reach 0x7e000010 32

-- one entry is run
acts-one : (entries : List Entry) (action : ℕ) (entry : Entry) (value next : ℕ) (before after : Machine) → of_action action entries ≡ entry ∷ []
    → Does IsMachineStep (instruction_of entry.instruction) entry value before next after
    → IsDone (Acts IsMachineStep entries action value) before 0 (Ok next) after 0
unfolding Acts Runs
acts-one entries action entry value next before after one does =
    let more = goes_on-more IsMachineStep (entry ∷ []) [] entry value value next before before after (goes_on-start IsMachineStep (entry ∷ []) value before) does in
    let last : Runs IsMachineStep [] next after next after = (refl, refl) in
    let runs = more.runs next after last in
    record { does = subst (λ es. Runs IsMachineStep es value before next after) (sym one) runs; counted = refl }

-- a read elsewhere, or of a machine that is not busy, leaves it
read-elsewhere : (reach : Reach) (machine : Machine) → shares reach (entry_reach machine.board.busy.entry) ≡ false → machine ≡ after_read reach machine
unfolding after_read
read-elsewhere reach machine other = sym (ap (λ b. cond b (counted_down machine) machine) (first_false _ (nat_lt 0 machine.busy) other))

read-idle : (reach : Reach) (machine : Machine) → machine.busy ≡ 0 → machine ≡ after_read reach machine
unfolding after_read
read-idle reach machine idle =
    sym (ap (λ b. cond b (counted_down machine) machine) (second_false (shares reach (entry_reach machine.board.busy.entry)) _ (ap (nat_lt 0) idle)))

read-counts : (machine : Machine) → 0 < machine.busy → shares status_reach (entry_reach machine.board.busy.entry) ≡ true → counted_down machine ≡ after_read status_reach machine
unfolding after_read
read-counts machine some same =
    let busy : nat_lt 0 machine.busy ≡ true = grind (arith, nat_tests) in
    sym (ap₂ (λ a b. cond (a && b) (counted_down machine) machine) same busy)

-- bits under a mask of all ones
mask32 : (n : ℕ) → n < 2 ^ 32 → bit_and (n / 1) 0xffffffff ≡ n
mask32 n small =
    let one : n / 1 ≡ n = omega arith in
    let low : n % 2 ^ 32 ≡ n = omega arith in
    ap (λ m. bit_and m 0xffffffff) one ∙ and_mask n 32 ∙ low

mask64 : (n : ℕ) → n < 2 ^ 64 → bit_and n 0xffffffffffffffff ≡ n
mask64 n small =
    let low : n % 2 ^ 64 ≡ n = omega arith in
    and_mask n 64 ∙ low

below : (cell : ℕ) → cell + 4 ≤ 0x7e000000 → cell + 4 ≤ 0x7e000040
below cell low = omega arith

-- the machine is asked for the error
module _ (table cell : ℕ) (setup : Setup) (cells : Cells) (made : Option Made) (request : Request) (rest : AreAtRest table cell setup cells) where
  abbrev asked_cells : Cells
  asked_cells = rows_cells 0x7e000040 (address_structure request.error request.place) cells

  no_place : None ≡ place_refusal sample_entries request
  unfolding anchor_of
  no_place = sym (ap (λ b. cond b (Some errors.NoAddress) None) (second_false (has_place request.place) (lacks 8 sample_entries) refl))

  prepared : setup.available < 2 ^ 32 → type_refusal request setup.available ≡ None
      → IsDone (Prepares IsMachineStep sample_entries request) (machine_at table cell setup cells 0 None made) 0 (Ok tt)
      (machine_at table cell setup asked_cells 0 None made) 0
  unfolding Prepares SetsType anchor_of
  prepared small available =
      let m = machine_at table cell setup cells 0 None made in
      let reach = memory_reach 0x7e00000c 32 in
      let field : field_of types_entry setup.available ≡ setup.available = mask32 setup.available small in
      let rows : IsDone (SetsType IsMachineStep sample_entries request (anchor_of 8 sample_entries)) m 0 (Ok tt) (machine_at table cell setup asked_cells 0 None made) 0 =
      record { does = writes-rows table cell setup made 0x7e000040 (address_structure request.error request.place) cells (below cell rest.cell_below); counted = refl } in
      goes_on _ _ _ (tests (Ok tt) m 0 no_place (λ e. absurd (cc e)))
      (goes_on _ _ _ (acts-one sample_entries 3 types_entry 0 (field_of types_entry setup.available) m m refl (setup.available, (sym rest.types, read-elsewhere reach m refl), refl))
      (goes_on _ _ _ (tests (Ok tt) m 0 (sym (ap (type_refusal request) field ∙ available)) (λ e. absurd (cc e)))
      (goes_on _ _ _ (acts-one sample_entries 0 begin_entry 0 0 m m refl (refl, refl))
      rows)))

-- a number that is the same as another was written and is read
value32-set : (cells : Cells) (at one other : ℕ) → AreMapped cells Memory at 4 → at + 4 ≤ 2 ^ 64 → one ≡ other → other < 2 ^ 32
    → value_at (with_value cells (memory_reach at 32) one) (memory_reach at 32) ≡ other
value32-set cells at one other mapped ends same small =
    ap (λ n. value_at (with_value cells (memory_reach at 32) n) (memory_reach at 32)) same ∙ value32-there cells at other mapped ends small

-- the busy field is set in a register that is 0, and cleared in one that is 1; the status is set to 0 in either
busy-set : (b : Bool) → with_field busy_entry 0 (cond b 0xfffffffffffffffe 1) ≡ cond b 0 1
busy-set true = refl
busy-set false = refl

busy-cleared : with_field busy_entry 1 0xfffffffffffffffe ≡ 0
busy-cleared = refl

status-set : (b : Bool) → with_field status_entry (cond b 0 1) 0 ≡ cond b 0 1
status-set true = refl
status-set false = refl

either-small : (b : Bool) → cond {A = ℕ} b 0 1 < 2 ^ 32
either-small true = omega arith
either-small false = omega arith

-- the registers stay mapped
registers-stay : (cells : Cells) (of : Reach) (value : ℕ) → AreMapped cells Memory 0x7e000000 0x14 → AreMapped (with_value cells of value) Memory 0x7e000000 0x14
registers-stay cells of value mapped = mapped-stay cells of.space of.address (little_bytes (of.width / 8) value) Memory 0x7e000000 0x14 mapped

module _ (table cell : ℕ) (busy : ℕ) (cells : Cells) (registers : AreMapped cells Memory 0x7e000000 0x14) where
  begun-mapped : AreMapped (begun_cells cells) Memory 0x7e000000 0x14
  begun-mapped = registers-stay cells execute_reach 0x9a registers

  busy-mapped : AreMapped (busy_cells busy cells) Memory 0x7e000000 0x14
  busy-mapped = registers-stay (begun_cells cells) status_reach _ begun-mapped

  busy-value : value_at cells status_reach ≡ 0 → value_at (busy_cells busy cells) status_reach ≡ cond (busy == 0) 0 1
  busy-value rest =
      value32-set (begun_cells cells) 0x7e000010 _ (cond (busy == 0) 0 1) (part-mapped (begun_cells cells) 0x7e000000 0x14 0x10 4 begun-mapped (omega arith)) (omega arith)
      (ap (λ n. with_field busy_entry n (first_value busy)) (port-apart cells 0x7e000010 32 ∙ rest) ∙ busy-set (busy == 0)) (either-small (busy == 0))

  status-value : value_at cells status_reach ≡ 0 → value_at (status_cells busy cells) status_reach ≡ cond (busy == 0) 0 1
  status-value rest =
      value32-set (busy_cells busy cells) 0x7e000010 _ (cond (busy == 0) 0 1) (part-mapped (busy_cells busy cells) 0x7e000000 0x14 0x10 4 busy-mapped (omega arith)) (omega arith)
      (ap (λ n. with_field status_entry n 0) (busy-value rest) ∙ status-set (busy == 0)) (either-small (busy == 0))

  -- what busy and status say after a command
  told-status : table + 48 ≤ 0x7e000000 → value_at cells status_reach ≡ 0 → value_at (told_cells table cell busy cells) status_reach ≡ cond (busy == 0) 0 1
  told-status low rest =
      above64 (table_cells table cell busy cells) 0x7e000000 _ 0x7e000010 32 (omega arith)
      ∙ value-apart (status_cells busy cells) Memory table (table_bytes cell) status_reach (inr (inr (omega arith)))
      ∙ status-value rest

  told-mapped : AreMapped (told_cells table cell busy cells) Memory 0x7e000000 0x14
  told-mapped =
      registers-stay (table_cells table cell busy cells) (memory_reach 0x7e000000 64) _
      (mapped-stay (status_cells busy cells) Memory table (table_bytes cell) Memory 0x7e000000 0x14
      (registers-stay (busy_cells busy cells) status_reach _ busy-mapped))

-- the cells when busy is cleared
abbrev idle_cells : Cells → Cells
idle_cells cells = with_value cells status_reach (with_field busy_entry (value_at cells status_reach) 0xfffffffffffffffe)

-- reads that find the machine busy
module _ (table cell : ℕ) (setup : Setup) (cells : Cells) (armed : Option Injection) (made : Option Made) (one : value_at cells status_reach ≡ 1) where
  abbrev busy_at : ℕ → Machine
  busy_at n = machine_at table cell setup cells n armed made

  counted-read : (n : ℕ) → 1 < n → Does IsMachineStep ReadRegisterValue busy_entry 0 (busy_at n) 1 (busy_at (n - 1))
  counted-read n more = (1, (sym one, counted_more (busy_at n) more ∙ read-counts (busy_at n) (omega arith) refl), refl)

  last-read : Does IsMachineStep ReadRegisterValue busy_entry 0 (busy_at 1) 1 (machine_at table cell setup (idle_cells cells) 0 armed made)
  unfolding field_set
  last-read = (1, (sym one, counted_last (busy_at 1) (idle_cells cells) (omega arith) refl ∙ read-counts (busy_at 1) (omega arith) refl), refl)

  busy-reads : (n all : ℕ) → n < all → AreBusy IsMachineStep sample_entries n (busy_at all) (busy_at (all - n))
  unfolding AreBusy
  busy-reads zero all below =
      let none : all - 0 ≡ all = omega arith in
      ap busy_at none
  busy-reads (suc n) all below =
      let next : all - n - 1 ≡ all - suc n = omega arith in
      let acts = acts-one sample_entries 6 busy_entry 0 1 (busy_at (all - n)) (busy_at (all - n - 1)) refl (counted-read (all - n) (omega arith)) in
      subst (λ k. AreBusy IsMachineStep sample_entries (suc n) (busy_at all) (busy_at k)) next
      (1, busy_at (all - n), busy-reads n all (omega arith), acts.does, refl)

  all-reads : (n : ℕ) → AreBusy IsMachineStep sample_entries (suc n) (busy_at (suc n)) (machine_at table cell setup (idle_cells cells) 0 armed made)
  unfolding AreBusy
  all-reads n =
      let last : suc n - n ≡ 1 = omega arith in
      let acts = acts-one sample_entries 6 busy_entry 0 1 (busy_at 1) (machine_at table cell setup (idle_cells cells) 0 armed made) refl last-read in
      (1, busy_at 1, subst (λ k. AreBusy IsMachineStep sample_entries n (busy_at (suc n)) (busy_at k)) last (busy-reads n (suc n) (omega arith)), acts.does, refl)

-- the cells after all reads that find the machine busy
abbrev rest_cells : ℕ → Cells → Cells
rest_cells busy cells = cond (busy == 0) cells (idle_cells cells)

-- a read of a machine that is not busy ends the waiting
ended-wait : (table cell : ℕ) (setup : Setup) (cells : Cells) (armed : Option Injection) (made : Option Made) (before : Machine) (n : ℕ) → n < 1000
    → AreBusy IsMachineStep sample_entries n before (machine_at table cell setup cells 0 armed made) → value_at cells status_reach ≡ 0
    → IsDone (Waits IsMachineStep sample_entries) before 0 (Ok n) (machine_at table cell setup cells 0 armed made) 0
ended-wait table cell setup cells armed made before n few busy none =
    let m = machine_at table cell setup cells 0 armed made in
    waits-ends IsMachineStep sample_entries before 0 n m 0 m 0 0 few busy refl refl
    (acts-one sample_entries 6 busy_entry 0 0 m m refl (0, (sym none, read-idle status_reach m refl), refl))

some_left : (n : ℕ) → (suc n == 0) ≡ false
some_left n = grind (arith, nat_tests)

idle-value : (cells : Cells) → AreMapped cells Memory 0x7e000000 0x14 → value_at cells status_reach ≡ 1 → value_at (idle_cells cells) status_reach ≡ 0
idle-value cells mapped one =
    value32-set cells 0x7e000010 _ 0 (part-mapped cells 0x7e000000 0x14 0x10 4 mapped (omega arith)) (omega arith)
    (ap (λ k. with_field busy_entry k 0xfffffffffffffffe) one ∙ busy-cleared) (omega arith)

-- the machine is waited for
waited : (table cell : ℕ) (setup : Setup) (cells : Cells) (armed : Option Injection) (made : Option Made) (busy : ℕ) → busy < 1000
    → AreMapped cells Memory 0x7e000000 0x14 → value_at cells status_reach ≡ cond (busy == 0) 0 1
    → IsDone (Waits IsMachineStep sample_entries) (machine_at table cell setup cells busy armed made) 0 (Ok busy)
    (machine_at table cell setup (rest_cells busy cells) 0 armed made) 0
unfolding AreBusy
waited table cell setup cells armed made zero few mapped value = ended-wait table cell setup cells armed made (machine_at table cell setup cells 0 armed made) 0 few refl value
waited table cell setup cells armed made (suc n) few mapped value =
    let one = value ∙ ap (λ (b : Bool). cond {A = ℕ} b 0 1) (some_left n) in
    let m = machine_at table cell setup cells (suc n) armed made in
    subst (λ (c : Cells). IsDone (Waits IsMachineStep sample_entries) m 0 (Ok (suc n)) (machine_at table cell setup c 0 armed made) 0)
    (sym (ap (λ b. cond b cells (idle_cells cells)) (some_left n)))
    (ended-wait table cell setup (idle_cells cells) armed made m (suc n) few (all-reads table cell setup cells armed made one n) (idle-value cells mapped one))

rest-value : (busy : ℕ) (cells : Cells) → AreMapped cells Memory 0x7e000000 0x14 → value_at cells status_reach ≡ cond (busy == 0) 0 1 → value_at (rest_cells busy cells) status_reach ≡ 0
rest-value zero cells mapped value = value
rest-value (suc n) cells mapped value =
    ap (λ (c : Cells). value_at c status_reach) (ap (λ b. cond b cells (idle_cells cells)) (some_left n))
    ∙ idle-value cells mapped (value ∙ ap (λ (b : Bool). cond {A = ℕ} b 0 1) (some_left n))

-- bytes below busy and status are the same when busy is cleared, and what is mapped stays so
rest-apart : (b : Bool) (cells : Cells) (address n : ℕ) → address + n ≤ 0x7e000010 → bytes_at (cond b cells (idle_cells cells)) Memory address n ≡ bytes_at cells Memory address n
rest-apart true cells address n low = refl
rest-apart false cells address n low = bytes-apart cells Memory 0x7e000010 (little_bytes 4 (with_field busy_entry (value_at cells status_reach) 0xfffffffffffffffe)) Memory address n (inr (inl low))

rest-mapped : (b : Bool) (cells : Cells) (first n : ℕ) → AreMapped cells Memory first n → AreMapped (cond b cells (idle_cells cells)) Memory first n
rest-mapped true cells first n mapped = mapped
rest-mapped false cells first n mapped = mapped-stay cells Memory 0x7e000010 (little_bytes 4 (with_field busy_entry (value_at cells status_reach) 0xfffffffffffffffe)) Memory first n mapped

-- the machine is told to inject
module _ (table cell : ℕ) (setup : Setup) (cells : Cells) (made : Option Made) (injection : Injection) where
  abbrev told_to : Cells
  told_to = told_cells table cell setup.busy cells

  executed : AreMapped cells Memory 0x7e000000 0x14 → table + 48 ≤ 0x7e000000 → value_at cells status_reach ≡ 0 → setup.busy < 1000
      → after_write execute_reach 0x9a (machine_at table cell setup cells 0 None made) ≡ machine_at table cell setup told_to setup.busy (Some injection) made
      → IsDone (Executes IsMachineStep sample_entries) (machine_at table cell setup cells 0 None made) 0 (Ok setup.busy)
      (machine_at table cell setup (rest_cells setup.busy told_to) 0 (Some injection) made) 0
  unfolding Executes
  executed mapped low rest few acts =
      let before = machine_at table cell setup cells 0 None made in
      let busy = machine_at table cell setup told_to setup.busy (Some injection) made in
      let m = machine_at table cell setup (rest_cells setup.busy told_to) 0 (Some injection) made in
      let still = told-mapped table cell setup.busy cells mapped in
      let value = told-status table cell setup.busy cells mapped low rest in
      let none = rest-value setup.busy told_to still value in
      goes_on _ _ _ (acts-one sample_entries 5 execute_entry 0 0 before busy refl (sym acts, refl))
      (goes_on _ _ _ (waited table cell setup told_to (Some injection) made setup.busy few still value)
      (goes_on _ _ _ (acts-one sample_entries 7 status_entry 0 0 m m refl (0, (sym none, read-idle status_reach m refl), refl))
      (goes_on _ _ _ (tests (Ok tt) m 0 refl (λ e. absurd (cc e)))
      (gives setup.busy m 0))))

-- a mask of all ones takes the whole value
none_or : (n : ℕ) → bit_or 0 n ≡ n
none_or n =
    let apart : bit_and 0 n ≡ 0 = omega (arith, and_le_l 0 n) in
    or_disjoint 0 n apart ∙ zero-add n

told-table : (old table : ℕ) → old < 2 ^ 64 → table < 2 ^ 64 → with_field trigger_entry old table ≡ table
told-table old table small fits =
    let outside : old - bit_and old 0xffffffffffffffff ≡ 0 = omega (arith, mask64 old small) in
    let placed : bit_and table 0xffffffffffffffff * 1 ≡ table = omega (arith, mask64 table fits) in
    let cut : table % 2 ^ 64 ≡ table = omega arith in
    ap₂ (λ (a b : ℕ). bit_or a b % 2 ^ 64) outside placed ∙ ap (λ (n : ℕ). n % 2 ^ 64) (none_or table) ∙ cut

-- the trigger table's entry
abbrev entry_at_cell : ℕ → Entry
entry_at_cell cell = record {
  at = 16;
  action = 0xff;
  instruction = 3;
  flags = 0;
  register = record { space = 0; bit_width = 32; bit_offset = 0; access = 3; address = cell };
  value = 1;
  mask = 0xffffffff;
}

abbrev header_bytes : List ℕ
header_bytes = take 16 (table_bytes 0)

abbrev entry_bytes : ℕ → List ℕ
entry_bytes cell = take 32 (drop 16 (table_bytes cell))

entries-of : (cell : ℕ) → cell < 2 ^ 64 → trigger_entries (entry_bytes cell) ≡ entry_at_cell cell ∷ []
unfolding trigger_entries entries_from pieces_of
entries-of cell small = ap (λ n. entry_at_cell n ∷ []) (number64 cell small)

either_width : (b : Bool) → cond {A = ℕ} b (max 32 32) 32 ≡ 32
either_width true = refl
either_width false = refl

width-of : (cell : ℕ) → access_width (entry_at_cell cell).register ≡ 32
width-of cell = either_width (cell % 4 == 0)

not_past : (cell : ℕ) → cell + 4 ≤ 0x7e000000 → nat_lt (2 ^ 64) (cell + 4) ≡ false
not_past cell low = grind (arith, nat_tests)

not_refused : (cell : ℕ) → cell + 4 ≤ 0x7e000000 → gas_refusal (entry_at_cell cell).register ≡ None
not_refused cell low =
    ap (λ w. first_of ((false, gas_errors.Space) ∷ (false, gas_errors.AccessSize) ∷ (nat_lt w 32, gas_errors.TooWide) ∷ (false, gas_errors.PortWidth)
    ∷ (nat_lt (2 ^ 64) (cell + w / 8), gas_errors.PastEnd) ∷ [])) (width-of cell)
    ∙ ap (λ b. cond b (Some gas_errors.PastEnd) None) (not_past cell low)

trigger-let_in : (cell : ℕ) → cell + 4 ≤ 0x7e000000 → None ≡ trigger_refusal (entry_bytes cell)
unfolding first_reason
trigger-let_in cell low =
    sym (ap (λ es. first_reason (of_action 0xff es)) (entries-of cell (omega arith))
    ∙ ap (λ (o : Option GasError). option_or (cond (nat_lt 3 4 && is_some o) (Some (errors.Trigger 5)) None) None) (not_refused cell low))

-- The machine is triggered: it is armed with what it was told.
module _ (table cell : ℕ) (setup : Setup) (cells : Cells) (made : Option Made) (injection : Injection) where
  abbrev armed_machine : Machine
  armed_machine = machine_at table cell setup cells 0 (Some injection) made

  abbrev put_cells : Cells
  put_cells = with_value cells (memory_reach cell 32) 1

  abbrev triggered_cells : Cells
  triggered_cells = with_value put_cells (memory_reach cell 32) 0

  abbrev done_machine : Machine
  done_machine = machine_at table cell setup triggered_cells 0 None (Some (made_of setup injection))

  own_cell : shares (memory_reach cell 32) (memory_reach cell 32) ≡ true
  own_cell =
      let within : nat_lt cell (cell + 4) ≡ true = grind (arith, nat_tests) in
      ap₂ (λ a b. a && b) within within

  fires : AreMapped cells Memory cell 4 → cell + 4 ≤ 0x7e000000 → is_triggered (memory_reach cell 32) (machine_at table cell setup put_cells 0 (Some injection) made) ≡ true
  unfolding is_triggered
  fires mapped low =
      let one = value32-there cells cell 1 mapped (omega arith) (omega arith) in
      ap₂ (λ (a : Bool) (n : ℕ). a && (n == 1)) own_cell one

  triggered : AreMapped cells Memory cell 4 → cell + 4 ≤ 0x7e000000 → done_machine ≡ after_write (memory_reach cell 32) 1 armed_machine
  unfolding after_write after_command after_trigger is_begun written triggered_by
  triggered mapped low =
      let w = machine_at table cell setup put_cells 0 (Some injection) made in
      sym (ap (λ b. cond b (triggered_by (Some injection) w) w) (fires mapped low))

  runs-entry : AreMapped cells Memory cell 4 → cell + 4 ≤ 0x7e000000
      → IsDone (Acts IsMachineStep (trigger_entries (entry_bytes cell)) 0xff 0) armed_machine 0 (Ok 0) done_machine 0
  runs-entry mapped low =
      acts-one (trigger_entries (entry_bytes cell)) 0xff (entry_at_cell cell) 0 0 armed_machine done_machine
      (ap (of_action 0xff) (entries-of cell (omega arith)))
      (triggered mapped low ∙ sym (ap (λ w. after_write (memory_reach cell w) (1 % 2 ^ w) armed_machine) (width-of cell)), refl)

  behind : AreMapped cells Memory cell 4 → cell + 4 ≤ 0x7e000000 → bytes_at cells Memory (table + 16) 32 ≡ entry_bytes cell
      → IsDone (TriggersBehind IsMachineStep table 32) armed_machine 0 (Ok tt) done_machine 0
  unfolding TriggersBehind TakesAny Takes
  behind mapped low copied =
      let taken : IsDone (TakesAny IsMachineStep (table + 16) 32) armed_machine 0 (Ok (entry_bytes cell)) armed_machine 0 = record { does = (refl, (sym copied, refl)); counted = refl } in
      goes_on _ _ _ taken
      (goes_on _ _ _ (tests (Ok tt) armed_machine 0 (trigger-let_in cell low) (λ e. absurd (cc e)))
      (goes_on _ _ _ (runs-entry mapped low) (gives tt done_machine 0)))

  triggers : AreMapped cells Memory cell 4 → cell + 4 ≤ 0x7e000000 → bytes_at cells Memory table 16 ≡ header_bytes → bytes_at cells Memory (table + 16) 32 ≡ entry_bytes cell
      → IsDone (Triggers IsMachineStep table) armed_machine 0 (Ok tt) done_machine 0
  unfolding Triggers Takes
  triggers mapped low header copied =
      let taken : IsDone (Takes IsMachineStep table 16) armed_machine 0 (Ok header_bytes) armed_machine 0 = record { does = (refl, (sym header, refl)); counted = refl } in
      goes_on _ _ _ taken
      (goes_on _ _ _ (tests (Ok tt) armed_machine 0 refl (λ e. absurd (cc e)))
      (behind mapped low copied))

  ended : AreMapped cells Memory cell 4 → cell + 4 ≤ 0x7e000000 → table < 2 ^ 64 → value_at cells (memory_reach 0x7e000000 64) ≡ table
      → bytes_at cells Memory table 16 ≡ header_bytes → bytes_at cells Memory (table + 16) 32 ≡ entry_bytes cell
      → IsDone (Ends IsMachineStep sample_entries) armed_machine 0 (Ok tt) done_machine 0
  unfolding Ends
  ended mapped low small told header copied =
      let reach = memory_reach 0x7e000000 64 in
      let whole : table / 1 ≡ table = omega arith in
      let field : table ≡ field_of trigger_entry table = sym (ap (λ n. bit_and n 0xffffffffffffffff) whole ∙ mask64 table small) in
      goes_on _ _ _ (acts-one sample_entries 1 trigger_entry 0 table armed_machine armed_machine refl (table, (sym told, read-elsewhere reach armed_machine refl), field))
      (goes_on _ _ _ (triggers mapped low header copied)
      (goes_on _ _ _ (acts-one sample_entries 4 end_entry 0 0 done_machine done_machine refl (refl, refl)) (gives tt done_machine 0)))

-- what is read at the end of a command
module _ (table cell : ℕ) (setup : Setup) (cells : Cells) (rest : AreAtRest table cell setup cells) where
  abbrev command_cells : Cells
  command_cells = told_cells table cell setup.busy cells

  abbrev last_cells : Cells
  last_cells = rest_cells setup.busy command_cells

  told-small : value_at (table_cells table cell setup.busy cells) (memory_reach 0x7e000000 64) < 2 ^ 64
  told-small =
      let same = value-apart (status_cells setup.busy cells) Memory table (table_bytes cell) (memory_reach 0x7e000000 64) (inr (inr (omega (arith, rest.table_below, rest.cell_below))))
      ∙ stays-below (busy_cells setup.busy cells) 0x7e000010 32 _ (memory_reach 0x7e000000 64) (omega arith)
      ∙ stays-below (begun_cells cells) 0x7e000010 32 _ (memory_reach 0x7e000000 64) (omega arith)
      ∙ port-apart cells 0x7e000000 64 in
      subst (λ n. n < 2 ^ 64) (sym same) rest.told

  told-value : value_at last_cells (memory_reach 0x7e000000 64) ≡ table
  told-value =
      let mapped = mapped-stay (status_cells setup.busy cells) Memory table (table_bytes cell) Memory 0x7e000000 0x14
      (registers-stay (busy_cells setup.busy cells) status_reach _ (busy-mapped table cell setup.busy cells rest.registers)) in
      ap (little_number 8) (rest-apart (setup.busy == 0) command_cells 0x7e000000 8 (omega arith))
      ∙ ap (λ n. value_at (with_value (table_cells table cell setup.busy cells) (memory_reach 0x7e000000 64) n) (memory_reach 0x7e000000 64))
      (told-table _ table told-small (omega (arith, rest.table_below, rest.cell_below)))
      ∙ value64-there (table_cells table cell setup.busy cells) 0x7e000000 table (part-mapped (table_cells table cell setup.busy cells) 0x7e000000 0x14 0 8 mapped (omega arith)) (omega arith)
      (omega (arith, rest.table_below, rest.cell_below))

  table-mapped : AreMapped (status_cells setup.busy cells) Memory table 48
  table-mapped =
      mapped-stay (busy_cells setup.busy cells) Memory 0x7e000010 (little_bytes 4 _) Memory table 48
      (mapped-stay (begun_cells cells) Memory 0x7e000010 (little_bytes 4 _) Memory table 48
      (mapped-stay cells Port 0xb2 (0x9a ∷ []) Memory table 48 rest.table_mapped))

  table-bytes : (k n : ℕ) → k + n ≤ 48 → bytes_at last_cells Memory (table + k) n ≡ take n (drop k (table_bytes cell))
  table-bytes k n within =
      rest-apart (setup.busy == 0) command_cells (table + k) n (omega (arith, rest.table_below, rest.cell_below))
      ∙ bytes-apart (table_cells table cell setup.busy cells) Memory 0x7e000000 (little_bytes 8 _) Memory (table + k) n (inr (inl (omega (arith, rest.table_below, rest.cell_below))))
      ∙ bytes-there (status_cells setup.busy cells) Memory table (table_bytes cell) k n table-mapped (omega (arith, rest.table_below, rest.cell_below)) within

  cell-mapped : AreMapped last_cells Memory cell 4
  cell-mapped =
      rest-mapped (setup.busy == 0) command_cells cell 4
      (mapped-stay (table_cells table cell setup.busy cells) Memory 0x7e000000 (little_bytes 8 _) Memory cell 4
      (mapped-stay (status_cells setup.busy cells) Memory table (table_bytes cell) Memory cell 4
      (mapped-stay (busy_cells setup.busy cells) Memory 0x7e000010 (little_bytes 4 _) Memory cell 4
      (mapped-stay (begun_cells cells) Memory 0x7e000010 (little_bytes 4 _) Memory cell 4
      (mapped-stay cells Port 0xb2 (0x9a ∷ []) Memory cell 4 rest.cell_mapped)))))

-- a write behind the registers leaves a machine at rest
rest-kept : (table cell : ℕ) (setup : Setup) (cells : Cells) (at width value : ℕ) → 0x7e000014 ≤ at → AreAtRest table cell setup cells
    → AreAtRest table cell setup (with_value cells (memory_reach at width) value)
rest-kept table cell setup cells at width value behind rest =
    let bytes = little_bytes (width / 8) value in
    record {
      table_below = rest.table_below;
      cell_below = rest.cell_below;
      registers = mapped-stay cells Memory at bytes Memory 0x7e000000 0x14 rest.registers;
      structure = mapped-stay cells Memory at bytes Memory 0x7e000040 36 rest.structure;
      port = mapped-stay cells Memory at bytes Port 0xb2 1 rest.port;
      table_mapped = mapped-stay cells Memory at bytes Memory table 48 rest.table_mapped;
      cell_mapped = mapped-stay cells Memory at bytes Memory cell 4 rest.cell_mapped;
      types = stays-below cells at width value (memory_reach 0x7e00000c 32) (omega arith) ∙ rest.types;
      status = stays-below cells at width value (memory_reach 0x7e000010 32) (omega arith) ∙ rest.status;
      told = subst (λ n. n < 2 ^ 64) (sym (stays-below cells at width value (memory_reach 0x7e000000 64) (omega arith))) rest.told;
    }

structure-kept : (table cell : ℕ) (setup : Setup) (cells : Cells) (error flags processor address mask pcie : ℕ) → AreAtRest table cell setup cells
    → AreAtRest table cell setup (structure_cells error flags processor address mask pcie cells)
structure-kept table cell setup cells error flags processor address mask pcie rest =
    rest-kept table cell setup _ 0x7e000060 32 pcie (omega arith)
    (rest-kept table cell setup _ 0x7e000058 64 mask (omega arith)
    (rest-kept table cell setup _ 0x7e000050 64 address (omega arith)
    (rest-kept table cell setup _ 0x7e00004c 32 processor (omega arith)
    (rest-kept table cell setup _ 0x7e000048 32 flags (omega arith)
    (rest-kept table cell setup cells 0x7e000040 32 error (omega arith) rest)))))

flags-small : (place : Place) → flags_of place < 2 ^ 32
flags-small places.Nowhere = omega arith
flags-small (places.Memory address mask) = omega arith
flags-small (places.Processor id) = omega arith
flags-small (places.Pcie word) = omega arith

-- The whole of it.
module _ (table cell : ℕ) (setup : Setup) (cells : Cells) (made : Option Made) (request : Request) (rest : AreAtRest table cell setup cells)
    (fits : FitsStructure request) (lets : LetsIn setup request) where
  abbrev told_of : Cells
  told_of = structure_cells request.error (flags_of request.place) (processor_of request.place) (address_of request.place) (mask_of request.place) (pcie_of request.place) cells

  rest-told : AreAtRest table cell setup told_of
  rest-told = structure-kept table cell setup cells _ _ _ _ _ _ rest

  low : table + 48 ≤ 0x7e000000
  low = omega (arith, rest.table_below, rest.cell_below)

  abbrev last_of : Cells
  last_of = rest_cells setup.busy (told_cells table cell setup.busy told_of)

  pub injected : IsDone (Injects IsMachineStep sample_entries request) (machine_at table cell setup cells 0 None made) 0 (Ok (record { busy_reads = setup.busy }))
      (machine_at table cell setup (with_value (with_value last_of (memory_reach cell 32) 1) (memory_reach cell 32) 0) 0 None (Some (made_of setup (asked_injection request)))) 0
  unfolding Injects
  injected =
      let tells = structure-tells request.error (flags_of request.place) (processor_of request.place) (address_of request.place) (mask_of request.place) (pcie_of request.place) cells
      rest.structure fits.error_fits (flags-small request.place) fits.processor_fits fits.address_fits fits.mask_fits fits.pcie_fits in
      let acts = command-acts table cell setup told_of made request.error (flags_of request.place) (processor_of request.place) (address_of request.place) (mask_of request.place) (pcie_of request.place)
      rest-told.port tells lets.status fits.typed low in
      goes_on _ _ _ (prepared table cell setup cells made request rest lets.fits lets.available)
      (goes_on _ _ _ (executed table cell setup told_of made (asked_injection request) rest-told.registers low rest-told.status lets.busy acts)
      (goes_on _ _ _ (ended table cell setup last_of made (asked_injection request) (cell-mapped table cell setup told_of rest-told) rest.cell_below (omega (arith, low))
      (told-value table cell setup told_of rest-told)
      (ap (λ at. bytes_at last_of Memory at 16) (sym (add-zero table)) ∙ table-bytes table cell setup told_of rest-told 0 16 (omega arith))
      (table-bytes table cell setup told_of rest-told 16 32 (omega arith)))
      (gives (record { busy_reads = setup.busy }) _ 0)))
