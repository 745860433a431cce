-- The sample table "one source" by parts: a HEST of 104 bytes with one generic hardware error source.
use Rattle.std.proofs.Common.{ℕ, List, [], ◌∷◌, ◌++◌, codes}

-- the common header, 36 bytes: signature, length 104, revision 1, checksum, who made the table
abbrev pub header : ℕ → List ℕ
header checksum =
    codes "HEST" ++ (0x68 ∷ 0 ∷ 0 ∷ 0 ∷ 1 ∷ checksum ∷ []) ++ codes "GHESRT" ++ codes "REPLAY01"
    ++ (1 ∷ 0 ∷ 0 ∷ 0 ∷ []) ++ codes "GHES" ++ (1 ∷ 0 ∷ 0 ∷ 0 ∷ [])

-- one source is counted
abbrev pub count : List ℕ
count = 1 ∷ 0 ∷ 0 ∷ 0 ∷ []

-- the structure up to its notification, 32 bytes, with this access size code at its status address:
-- type 9, id 1, no related source, enabled, 1 record, 1 section, memory, 64 bits, 0x7F000000
abbrev pub structure : ℕ → List ℕ
structure access =
    (9 ∷ 0 ∷ 1 ∷ 0 ∷ 0xff ∷ 0xff ∷ 0 ∷ 1 ∷ [])
    ++ (1 ∷ 0 ∷ 0 ∷ 0 ∷ 1 ∷ 0 ∷ 0 ∷ 0 ∷ 0 ∷ 0 ∷ 0 ∷ 0 ∷ [])
    ++ (0 ∷ 64 ∷ 0 ∷ access ∷ 0 ∷ 0 ∷ 0 ∷ 0x7f ∷ 0 ∷ 0 ∷ 0 ∷ 0 ∷ [])

-- the notification, 28 bytes: by NMI, all else 0
abbrev pub notification : List ℕ
notification =
    (4 ∷ 0x1c ∷ 0 ∷ 0 ∷ 0 ∷ 0 ∷ 0 ∷ 0 ∷ 0 ∷ 0 ∷ 0 ∷ 0 ∷ 0 ∷ 0 ∷ [])
    ++ (0 ∷ 0 ∷ 0 ∷ 0 ∷ 0 ∷ 0 ∷ 0 ∷ 0 ∷ 0 ∷ 0 ∷ 0 ∷ 0 ∷ 0 ∷ 0 ∷ [])

-- a block has at most 4096 bytes
abbrev pub block_length : List ℕ
block_length = 0 ∷ 0x10 ∷ 0 ∷ 0 ∷ []

-- the whole table with this checksum, and this access size code at its status address
abbrev pub one_source_with : ℕ → ℕ → List ℕ
one_source_with checksum access = header checksum ++ count ++ structure access ++ notification ++ block_length

-- the sample as it is
abbrev pub one_source : List ℕ
one_source = one_source_with 0x40 4
