-- What the entries of an action do on a bus, one after another, each on the value that the one before left
-- (ACPI 6.5, 18.6.3).
use Rattle.std.specs.Prelude.{◌≡◌, ◌⊎◌, ℕ, ◌-◌, ◌*◌, ◌/◌, ◌%◌, ◌^◌, Bool, true, false, ◌==◌, bit_and, bit_or, if◌then◌else◌, List, [], ◌∷◌}
use Rattle.apei_base.specs.Bus.{Reach, Access, Reads, Writes}
use Rattle.apei_base.specs.Region.{space_of, access_width}
use Rattle.apei_einj.specs.declared.entry.Entry.{Entry}

-- the instructions (ACPI 6.5, 18.6.3)
pub data Instruction : Type 0 where
  ReadRegister : Instruction
  ReadRegisterValue : Instruction
  WriteRegister : Instruction
  WriteRegisterValue : Instruction
  NoOperation : Instruction

-- the instruction of a code: 0 to 4; the others are refused with their table (ACPI 6.5, 18.6.3)
abbrev pub instruction_of : ℕ → Instruction
instruction_of code =
    if code == 0 then ReadRegister
    else if code == 1 then ReadRegisterValue
    else if code == 2 then WriteRegister
    else if code == 3 then WriteRegisterValue
    else NoOperation

-- where the register of an entry is reached (ACPI 6.5, 5.2.3.2)
abbrev pub entry_reach : Entry → Reach
entry_reach entry = record {
  space = space_of entry.register.space;
  address = entry.register.address;
  width = access_width entry.register;
}

-- the field of an entry in what its register holds: shifted down to bit 0, and then masked (ACPI 6.5, 18.6.3)
abbrev pub field_of : Entry → ℕ → ℕ
field_of entry cell = bit_and (cell / 2 ^ entry.register.bit_offset) entry.mask

-- a masked value, shifted up to the place of the field (ACPI 6.5, 18.6.3)
abbrev pub placed : Entry → ℕ → ℕ
placed entry value = bit_and value entry.mask * 2 ^ entry.register.bit_offset

-- the bits of what a register holds that are not under the mask, shifted up to the place of the field
abbrev pub outside : Entry → ℕ → ℕ
outside entry cell = cell - bit_and cell (entry.mask * 2 ^ entry.register.bit_offset)

-- the low bits of a number, as many as an access of the register has
abbrev pub cut : Entry → ℕ → ℕ
cut entry number = number % 2 ^ access_width entry.register

-- what a register holds after its field was set to a value, where it held this before: what is outside the field is kept
abbrev pub with_field : Entry → ℕ → ℕ → ℕ
with_field entry cell value = cut entry (bit_or (outside entry cell) (placed entry value))

-- a write keeps what the register holds outside the field: bit 0 of the flags (ACPI 6.5, 18.6.2)
abbrev pub preserves : Entry → Bool
preserves entry = entry.flags % 2 == 1

module _ {S : Type 0} (step : S → Access → S → Type 0) where
  -- the field of a register is set to a value; to keep what is outside, the register is read first
  abbrev pub Puts : Bool → Entry → ℕ → S → S → Type 0
  Puts false entry value before after = step before (Writes (entry_reach entry) (cut entry (placed entry value))) after
  Puts true entry value before after =
      (cell : ℕ) × (between : S) × step before (Reads (entry_reach entry) cell) between
      × step between (Writes (entry_reach entry) (with_field entry cell value)) after

  -- An instruction leads from a value and a state to others. What it leaves as the value: a read its field, a compared
  -- read 1 where its field is the entry's value and else 0, and a write what was there (ACPI 6.5, 18.6.3; what the
  -- compared read and the write of the entry's value leave: own choice).
  abbrev pub Does : Instruction → Entry → ℕ → S → ℕ → S → Type 0
  Does ReadRegister entry value before next after =
      (cell : ℕ) × step before (Reads (entry_reach entry) cell) after × (next ≡ field_of entry cell)
  Does ReadRegisterValue entry value before next after =
      (cell : ℕ) × step before (Reads (entry_reach entry) cell) after
      × (next ≡ (if field_of entry cell == entry.value then 1 else 0))
  Does WriteRegister entry value before next after = Puts (preserves entry) entry value before after × (next ≡ value)
  Does WriteRegisterValue entry value before next after =
      Puts (preserves entry) entry entry.value before after × (next ≡ value)
  Does NoOperation entry value before next after = (after ≡ before) × (next ≡ value)

  -- Entries lead from a value and a state to others, one after another in table order (ACPI 6.5, 18.6.1).
  unfoldable pub Runs : List Entry → ℕ → S → ℕ → S → Type 0
  Runs [] value before next after = (next ≡ value) × (after ≡ before)
  Runs (entry ∷ entries) value before next after =
      (between : ℕ) × (middle : S) × Does (instruction_of entry.instruction) entry value before between middle
      × Runs entries between middle next after

  -- A write was cut off by an access that failed: nothing was done, or only its read.
  abbrev pub IsPutCutOff : Bool → Entry → S → S → Type 0
  IsPutCutOff false entry before after = after ≡ before
  IsPutCutOff true entry before after =
      (after ≡ before) ⊎ ((cell : ℕ) × step before (Reads (entry_reach entry) cell) after)

  -- An instruction was cut off by an access that failed, and this is what it did before.
  abbrev pub IsCutIn : Instruction → Entry → S → S → Type 0
  IsCutIn ReadRegister entry before after = after ≡ before
  IsCutIn ReadRegisterValue entry before after = after ≡ before
  IsCutIn WriteRegister entry before after = IsPutCutOff (preserves entry) entry before after
  IsCutIn WriteRegisterValue entry before after = IsPutCutOff (preserves entry) entry before after
  IsCutIn NoOperation entry before after = ⊥

  -- Entries were cut off by an access that failed: those before have run, and no later one has.
  unfoldable pub IsCutOff : List Entry → ℕ → S → S → Type 0
  IsCutOff [] value before after = ⊥
  IsCutOff (entry ∷ entries) value before after =
      IsCutIn (instruction_of entry.instruction) entry before after
      ⊎ ((between : ℕ) × (middle : S) × Does (instruction_of entry.instruction) entry value before between middle
      × IsCutOff entries between middle after)
