-- What files and an output tell of a run, and what loads change.
use Rattle.std.specs.Prelude.{◌≡◌, ◌≤◌, ℕ, List, ◌++◌, length}
use Rattle.std.specs.Option.{option_map}
use Rattle.std.specs.List.{AllByRecursion}
use Rattle.cper_block.specs.Block.{largest_block}
use Rattle.ghes_outside.specs.Outside.{FilesSeen, SinkSeen, Agrees}
use Rattle.ghes_replay.specs.declared.exit.InputFile.{InputFile}
use Rattle.ghes_replay.specs.declared.exit.InputFile.TheVariants as files

-- what is outside of a run: files and an output
pub record Outside : Type 0 where
  pub files : FilesSeen
  pub out : SinkSeen

abbrev pub outside : FilesSeen → SinkSeen → Outside
outside files out = record { files = files; out = out }

-- a table has at most 1 MiB, a script at most 16 MiB, and the file of a block as many bytes as a block (own choice)
abbrev pub limit_for : InputFile → ℕ
limit_for files.Hest = 1048576
limit_for files.Einj = 1048576
limit_for files.Script = 16777216
limit_for files.Block = largest_block

-- new failed names, behind the old ones
abbrev pub AddsNames : FilesSeen → FilesSeen → List (List ℕ) → Type 0
AddsNames before after names = after.failed ≡ option_map (λ old. old ++ names) before.failed

-- Files were loaded, whose names are all of a kind: their contents stay, and only failed loads are noted.
pub record Loads (IsName : List ℕ → Type 0) (before after : FilesSeen) : Type 0 where
  pub contents : (name : List ℕ) → after.contents name ≡ before.contents name
  pub grows : before.faults ≤ after.faults
  pub names : List (List ℕ)
  pub added : AddsNames before after names
  pub each : AllByRecursion IsName names

-- No load failed in between: no name was noted, and the count is the same.
pub record NoneFailed (before after : FilesSeen) : Type 0 where
  pub names : after.failed ≡ before.failed
  pub count : after.faults ≡ before.faults

-- These bytes were loaded from a file: they are its contents, where these are told, and within the limit of such a file.
pub record IsLoaded (seen : FilesSeen) (file : InputFile) (name bytes : List ℕ) : Type 0 where
  pub told : Agrees (seen.contents name) bytes
  pub within : length bytes ≤ limit_for file
