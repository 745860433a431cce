-- The sample table "injection" by parts: an EINJ of 336 bytes with nine entries, and what is changed in it.
use Rattle.std.proofs.Common.{ℕ, List, [], ◌∷◌, ◌++◌, codes}
use Rattle.std.specs.List.{repeat}

-- the common header, 36 bytes: signature, length 336, revision 1, checksum, who made the table
abbrev pub header : ℕ → List ℕ
header checksum =
    codes "EINJ" ++ (0x50 ∷ 1 ∷ 0 ∷ 0 ∷ 1 ∷ checksum ∷ []) ++ codes "GHESRT" ++ codes "REPLAY01"
    ++ (1 ∷ 0 ∷ 0 ∷ 0 ∷ []) ++ codes "GHES" ++ (1 ∷ 0 ∷ 0 ∷ 0 ∷ [])

-- the injection header, 12 bytes: its size, no flags, and the count of the entries
abbrev pub injection_header : ℕ → ℕ → List ℕ
injection_header size count = size ∷ 0 ∷ 0 ∷ 0 ∷ 0 ∷ 0 ∷ 0 ∷ 0 ∷ count ∷ 0 ∷ 0 ∷ 0 ∷ []

-- so many zeros
abbrev zeros : ℕ → List ℕ
zeros n = repeat n (0 ∷ [])

-- the front of an entry: action, instruction, no flags, reserved, and of the register its space, its width in bits, its
-- offset in bits and its access size
abbrev front : ℕ → ℕ → ℕ → ℕ → ℕ → ℕ → List ℕ
front action instruction space width offset access = action ∷ instruction ∷ 0 ∷ 0 ∷ space ∷ width ∷ offset ∷ access ∷ []

-- an address from 0x7E000000 on
abbrev pub above_7e : ℕ → List ℕ
above_7e low = low ∷ 0 ∷ 0 ∷ 0x7e ∷ 0 ∷ 0 ∷ 0 ∷ 0 ∷ []

-- a number of one byte, and so many bytes that are all ones, each in 8 bytes
abbrev small : ℕ → List ℕ
small n = n ∷ zeros 7

abbrev four_ones : List ℕ
four_ones = repeat 4 (0xff ∷ []) ++ zeros 4

-- the nine entries with this instruction of the first, this action of the second, this space of the fourth, this action
-- of the eighth and this address of the last
abbrev pub entries : ℕ → ℕ → ℕ → ℕ → List ℕ → List ℕ
entries instruction second space eighth address =
    front 0 instruction 0 0 0 0 ++ zeros 24
    ++ (front second 0 0 64 0 4 ++ above_7e 0 ++ zeros 8 ++ repeat 8 (0xff ∷ []))
    ++ (front 2 2 0 32 0 3 ++ above_7e 8 ++ zeros 8 ++ four_ones)
    ++ (front 3 0 space 32 0 3 ++ above_7e 0x0c ++ zeros 8 ++ four_ones)
    ++ (front 4 4 0 0 0 0 ++ zeros 24)
    ++ (front 5 3 1 8 0 1 ++ small 0xb2 ++ small 0x9a ++ small 0xff)
    ++ (front 6 1 0 32 0 3 ++ above_7e 0x10 ++ small 1 ++ small 1)
    ++ (front eighth 0 0 8 1 3 ++ above_7e 0x10 ++ zeros 8 ++ small 0xff)
    ++ (front 8 2 0 32 0 3 ++ address ++ zeros 8 ++ four_ones)

-- the entries as they are
abbrev pub nine_entries : List ℕ
nine_entries = entries 4 1 0 7 (above_7e 0x40)

-- a table of the length of the sample
abbrev pub table : ℕ → ℕ → ℕ → List ℕ → List ℕ
table checksum size count entries = header checksum ++ injection_header size count ++ entries

-- the sample as it is
abbrev pub injection : List ℕ
injection = table 0x71 48 9 nine_entries
