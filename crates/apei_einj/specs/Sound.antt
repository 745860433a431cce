-- What is known of a table that is accepted.
use Rattle.std.specs.Prelude.{◌≡◌, ◌≤◌, ◌⊎◌, ℕ, Bool, true, false, ◌==◌, ◌&&◌, List, [], ◌∷◌, ◌++◌, length, drop, codes, IsSome}
use Rattle.std.specs.List.{AllByRecursion}
use Rattle.apei_base.specs.Cut.{CutsInto}
use Rattle.apei_base.specs.Table.{IsTable}
use Rattle.apei_einj.specs.Anchor.{may_anchor, anchor_of}
use Rattle.apei_einj.specs.Entry.{pieces_of}
use Rattle.apei_einj.specs.Table.{stated_count, has_header_size, IsRunnable}
use Rattle.apei_einj.specs.declared.entry.Entry.{Entry}

-- the bytes of the entries: so many pieces as the table states, from 48 on (ACPI 6.5, 18.6.1)
abbrev pub einj_pieces : List ℕ → List (List ℕ)
einj_pieces bytes = pieces_of (stated_count bytes) (drop 48 bytes)

-- The bytes are an injection table: its header and its injection header, and then its entries, of 32 bytes each and as
-- many as it states (ACPI 6.5, 18.6.1).
pub record IsEinj (bytes : List ℕ) : Type 0 where
  pub table : IsTable (codes "EINJ") bytes
  pub whole : 48 ≤ length bytes
  pub sized : has_header_size bytes ≡ true
  pub cut : CutsInto (λ piece. length piece ≡ 32) (drop 48 bytes) (einj_pieces bytes) []
  pub as_many : length (einj_pieces bytes) ≡ stated_count bytes

-- Each action that an injection needs has an anchor: 2 or 8 to set the error type, and the others (own choice).
pub record HasAnchors (entries : List Entry) : Type 0 where
  pub get_trigger : IsSome (anchor_of 1 entries)
  pub set_type : IsSome (anchor_of 2 entries) ⊎ IsSome (anchor_of 8 entries)
  pub get_type : IsSome (anchor_of 3 entries)
  pub execute : IsSome (anchor_of 5 entries)
  pub check_busy : IsSome (anchor_of 6 entries)
  pub get_status : IsSome (anchor_of 7 entries)

-- What reading a table proves of the entries that it gives: each can be run, and no anchor is missing (own choice).
pub record CanInject (entries : List Entry) : Type 0 where
  pub runnable : AllByRecursion IsRunnable entries
  pub anchored : HasAnchors entries

-- the entry is of the action, and may be its anchor (own choice)
abbrev pub fits : ℕ → Entry → Bool
fits action entry = (entry.action == action) && may_anchor action entry

-- The entry is the first one that fits the action (own choice).
pub record IsAnchor (action : ℕ) (entries : List Entry) (entry : Entry) : Type 0 where
  pub before : List Entry
  pub after : List Entry
  pub place : entries ≡ before ++ entry ∷ after
  pub fitting : fits action entry ≡ true
  pub first : AllByRecursion (λ other. fits action other ≡ false) before
