-- The words for a malformed block, with their numbers (own choice).
use Rattle.std.specs.Prelude.{ℕ, List, [], ◌++◌, codes}
use Rattle.std.specs.Fmt.{decimal}
use Rattle.cper_block.specs.declared.malformed.Malformed.{Malformed}
use Rattle.cper_block.specs.declared.malformed.Malformed.TheVariants.{TooShort, TooLong, DataLength, RawOffset, EntryTruncated, Leftover}

-- the words for a malformed block, up to a number of entries (own choice)
abbrev pub malformed_word : Malformed → List ℕ
malformed_word TooShort = codes "1 too short"
malformed_word TooLong = codes "2 too long"
malformed_word DataLength = codes "3 data length"
malformed_word RawOffset = codes "4 raw offset"
malformed_word (EntryTruncated whole) = codes "5 entry "
malformed_word Leftover = codes "6 left over"

-- how the words go on where there is a number of entries (own choice)
abbrev pub malformed_rest : Malformed → List ℕ
malformed_rest (EntryTruncated whole) = decimal whole ++ codes " truncated"
malformed_rest TooShort = []
malformed_rest TooLong = []
malformed_rest DataLength = []
malformed_rest RawOffset = []
malformed_rest Leftover = []

-- all words for a malformed block (own choice)
abbrev pub malformed_text : Malformed → List ℕ
malformed_text reason = malformed_word reason ++ malformed_rest reason
