-- What an entry reads and writes, computed on known cells.
use Rattle.std.proofs.Common.{◌≡◌, ℕ, true, false, bit_or, refl}
use Rattle.apei_einj.specs.Action.{field_of, placed, outside, cut, preserves}
use Rattle.apei_einj.specs.declared.entry.Entry.{Entry}

-- an entry about a field in memory, by its width and offset in bits, its access size code, its mask and its flags
abbrev about : ℕ → ℕ → ℕ → ℕ → ℕ → Entry
about bit_width bit_offset access mask flags = record {
  at = 48;
  action = 2;
  instruction = 2;
  flags = flags;
  register = record { space = 0; bit_width = bit_width; bit_offset = bit_offset; access = access; address = 0x1000 };
  value = 0;
  mask = mask;
}

-- the field of 8 bits from bit 4 on, in 32 bits
pub field_of-known : field_of (about 8 4 3 0xff 0) 0xabcd15a4 ≡ 0x5a
field_of-known = refl

-- what is written there, with what is outside
pub written-kept : (let e = about 8 4 3 0xff 1 in cut e (bit_or (outside e 0xabcd1234) (placed e 0x5a))) ≡ 0xabcd15a4
written-kept = refl

-- and without it
pub written-alone : (let e = about 8 4 3 0xff 0 in cut e (placed e 0x5a)) ≡ 0x5a0
written-alone = refl

-- a mask that reaches past 8 bits
pub written-cut : (let e = about 8 0 1 0xffff 0 in cut e (placed e 0x5a5)) ≡ 0xa5
written-cut = refl

-- the last four of 64 bits, with a mask of eight
pub written-last : (let e = about 4 60 4 0xff 1 in cut e (bit_or (outside e 0xfedcba98abcd1234) (placed e 0xa5))) ≡ 0x5edcba98abcd1234
written-last = refl

-- a field that begins behind the last bit: nothing is read, and what is written changes nothing
pub field_of-behind : field_of (about 0 64 4 0xff 0) 0xfedcba98abcd1234 ≡ 0
field_of-behind = refl

pub written-behind : (let e = about 0 64 4 0xff 1 in cut e (bit_or (outside e 0xfedcba98abcd1234) (placed e 0x5a))) ≡ 0xfedcba98abcd1234
written-behind = refl

-- bit 0 of the flags keeps what is outside, and bit 1 does not
pub preserves-known : preserves (about 8 4 3 0xff 3) ≡ true
preserves-known = refl

pub preserves-other : preserves (about 8 4 3 0xff 2) ≡ false
preserves-other = refl
