-- What the words of the command line ask for.
use Rattle.std.specs.Prelude.{◌≡◌, ◌≢◌, ◌⊎◌, ℕ, List, [], ◌∷◌, codes}
use Rattle.ghes_replay.specs.declared.exit.InputFile.{InputFile}
use Rattle.ghes_replay.specs.declared.exit.InputFile.TheVariants as files
use Rattle.ghes_replay.specs.declared.task.Task.{Task as Words}
use Rattle.ghes_replay.specs.declared.task.Task.TheVariants as words

-- a replay of a script on a table and an injection table, the listing of a table and an injection table, or the text of a block, by
-- the names of their files; `-` stands for no injection table (own choice)
pub data Task : Type 0 where
  Replay : List ℕ → List ℕ → List ℕ → Task
  Check : List ℕ → List ℕ → Task
  Decode : List ℕ → Task

-- the words ask for this (own choice)
abbrev pub IsTask : List (List ℕ) → Task → Type 0
IsTask words (Replay hest einj script) = words ≡ codes "replay" ∷ hest ∷ einj ∷ script ∷ []
IsTask words (Check hest einj) = words ≡ codes "check" ∷ hest ∷ einj ∷ []
IsTask words (Decode block) = words ≡ codes "decode" ∷ block ∷ []

-- the word names an injection table (own choice)
abbrev pub IsEinjName : List ℕ → Type 0
IsEinjName einj = einj ≢ codes "-"

-- the name of a file of a table (own choice)
abbrev pub IsTableName : List ℕ → List ℕ → List ℕ → Type 0
IsTableName hest einj name = (name ≡ hest) ⊎ ((name ≡ einj) × IsEinjName einj)

-- the name of a file that is read for it (own choice)
abbrev pub IsFileOf : Task → List ℕ → Type 0
IsFileOf (Replay hest einj script) name = IsTableName hest einj name ⊎ (name ≡ script)
IsFileOf (Check hest einj) name = IsTableName hest einj name
IsFileOf (Decode block) name = name ≡ block

-- a word of the command line that stands for a file
abbrev pub IsFileWord : List (List ℕ) → List ℕ → Type 0
IsFileWord words name = (task : Task) × IsTask words task × IsFileOf task name

-- the name of a file of a task, by what it is; empty where the task has none (own choice)
abbrev pub file_of : Task → InputFile → List ℕ
file_of (Replay hest einj script) files.Hest = hest
file_of (Replay hest einj script) files.Einj = einj
file_of (Replay hest einj script) files.Script = script
file_of (Check hest einj) files.Hest = hest
file_of (Check hest einj) files.Einj = einj
file_of (Decode block) files.Block = block
file_of task file = []

-- a task without where its names lie in memory
abbrev pub task_seen : Words → Task
task_seen (words.Replay hest einj script) = Replay hest.now einj.now script.now
task_seen (words.Check hest einj) = Check hest.now einj.now
task_seen (words.Decode block) = Decode block.now
