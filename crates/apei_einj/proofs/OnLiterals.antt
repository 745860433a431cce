-- The definitions computed on known bytes, so that each is held against the standard's own.
use Rattle.std.proofs.Common.{◌≡◌, [], ◌∷◌, length, take, Some, None, refl}
use Rattle.std.specs.List.{repeat}
use Rattle.apei_base.specs.declared.gas.GasError.TheVariants.{Space, PastEnd}
use Rattle.apei_base.specs.declared.sdt.SdtError.TheVariants.{Short}
use Rattle.apei_einj.specs.Anchor.{anchor_of}
use Rattle.apei_einj.specs.Entry.{pieces_of, entries_from}
use Rattle.apei_einj.specs.Refusal.{first_refusal, first_missing}
use Rattle.apei_einj.specs.Table.{einj_entries, einj_refusal}
use Rattle.apei_einj.specs.declared.entry.Entry.{Entry}
use Rattle.apei_einj.specs.declared.error.EinjError.TheVariants.{Table, HeaderSize, CountMismatch, Instruction, Register, Missing}
use Rattle.apei_einj.proofs.Samples.{injection, table, entries, nine_entries, above_7e}

-- the last entry of the sample
abbrev last : Entry
last = record {
  at = 304;
  action = 8;
  instruction = 2;
  flags = 0;
  register = record { space = 0; bit_width = 32; bit_offset = 0; access = 3; address = 0x7e000040 };
  value = 0;
  mask = 0xffffffff;
}

-- the sample has as many bytes as it states
pub length-sample : length injection ≡ 336
length-sample = refl

-- it is accepted
pub einj_refusal-sample : einj_refusal injection ≡ None
unfolding einj_refusal einj_entries pieces_of entries_from first_refusal anchor_of first_missing
einj_refusal-sample = refl

-- it has nine entries
pub length-entries : length (einj_entries injection) ≡ 9
unfolding einj_entries pieces_of entries_from
length-entries = refl

-- the anchor of action 8 is the last of them
pub anchor_of-eight : anchor_of 8 (einj_entries injection) ≡ Some last
unfolding einj_entries pieces_of entries_from anchor_of
anchor_of-eight = refl

-- its first 35 bytes are no header
pub einj_refusal-short : einj_refusal (take 35 injection) ≡ Some (Table Short)
unfolding einj_refusal einj_entries pieces_of entries_from first_refusal anchor_of
einj_refusal-short = refl

-- a header size of 16
pub einj_refusal-size_16 : einj_refusal (table 0x91 16 9 nine_entries) ≡ Some HeaderSize
unfolding einj_refusal einj_entries pieces_of entries_from first_refusal anchor_of
einj_refusal-size_16 = refl

-- a header size of 12 is accepted
pub einj_refusal-size_12 : einj_refusal (table 0x95 12 9 nine_entries) ≡ None
unfolding einj_refusal einj_entries pieces_of entries_from first_refusal anchor_of first_missing
einj_refusal-size_12 = refl

-- ten entries are stated
pub einj_refusal-count_10 : einj_refusal (table 0x70 48 10 nine_entries) ≡ Some (CountMismatch 10 9)
unfolding einj_refusal einj_entries pieces_of entries_from first_refusal anchor_of
einj_refusal-count_10 = refl

-- there is no instruction 5
pub einj_refusal-instruction_5 : einj_refusal (table 0x70 48 9 (entries 5 1 0 7 (above_7e 0x40))) ≡ Some (Instruction 48)
unfolding einj_refusal einj_entries pieces_of entries_from first_refusal anchor_of
einj_refusal-instruction_5 = refl

-- a register in the configuration space of PCI
pub einj_refusal-space_2 : einj_refusal (table 0x6f 48 9 (entries 4 1 2 7 (above_7e 0x40))) ≡ Some (Register 144 Space)
unfolding einj_refusal einj_entries pieces_of entries_from first_refusal anchor_of
einj_refusal-space_2 = refl

-- action 7 is missing where action 9 stands in its place
pub einj_refusal-no_status : einj_refusal (table 0x6f 48 9 (entries 4 1 0 9 (above_7e 0x40))) ≡ Some (Missing 7)
unfolding einj_refusal einj_entries pieces_of entries_from first_refusal anchor_of first_missing
einj_refusal-no_status = refl

-- and so is action 1
pub einj_refusal-no_trigger : einj_refusal (table 0x69 48 9 (entries 4 9 0 7 (above_7e 0x40))) ≡ Some (Missing 1)
unfolding einj_refusal einj_entries pieces_of entries_from first_refusal anchor_of first_missing
einj_refusal-no_trigger = refl

-- 36 bytes do not fit above the last address but 31
pub einj_refusal-past_end : einj_refusal (table 0x56 48 9 (entries 4 1 0 7 (0xe0 ∷ repeat 7 (0xff ∷ [])))) ≡ Some (Register 304 PastEnd)
unfolding einj_refusal einj_entries pieces_of entries_from first_refusal anchor_of
einj_refusal-past_end = refl

-- 36 bytes that end with the last address are accepted
pub einj_refusal-at_end : einj_refusal (table 0x5a 48 9 (entries 4 1 0 7 (0xdc ∷ repeat 7 (0xff ∷ [])))) ≡ None
unfolding einj_refusal einj_entries pieces_of entries_from first_refusal anchor_of first_missing
einj_refusal-at_end = refl
