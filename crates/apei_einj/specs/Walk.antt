-- Entries that were read so far, before the rest of a table.
use Rattle.std.specs.Prelude.{◌≡◌, ℕ, ◌+◌, ◌*◌, ◌++◌, List, length}
use Rattle.std.specs.List.{filter, AllByRecursion}
use Rattle.apei_einj.specs.Entry.{pieces_of, entries_from, is_injection}
use Rattle.apei_einj.specs.Table.{einj_entries, IsRunnable}
use Rattle.apei_einj.specs.declared.entry.Entry.{Entry}

-- A table of a stated count is read up to a rest: it has these entries and then those of the rest, which is so many whole
-- ones and stands at this offset; the first ones can be run (own choice).
pub record IsReadUpTo (bytes : List ℕ) (found : List Entry) (at : ℕ) (rest : List ℕ) : Type 0 where
  pub left : ℕ
  pub whole : 32 * left ≡ length rest
  pub place : at + length rest ≡ length bytes
  pub entries : einj_entries bytes ≡ found ++ filter is_injection (entries_from at (pieces_of left rest))
  pub runnable : AllByRecursion IsRunnable found
