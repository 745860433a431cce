-- Refusals of a run: the status and the line of each (own choice).
use Rattle.std.specs.Prelude.{ℕ, List, [], ◌++◌, codes}
use Rattle.std.specs.Fmt.{decimal}
use Rattle.apei_einj.specs.Text.{einj_error_text}
use Rattle.apei_hest.specs.Text.{hest_error_text}
use Rattle.ghes_outside.specs.Text.{load_error_text}
use Rattle.fw_map.specs.Text.{fw_error_text}
use Rattle.ghes_script.specs.Text.{kind_text}
use Rattle.ghes_script.specs.declared.error.ScriptKind.{ScriptKind}
use Rattle.ghes_replay.specs.declared.exit.Refusal.{Refusal}
use Rattle.ghes_replay.specs.declared.exit.Refusal.TheVariants as refusals
use Rattle.ghes_replay.specs.Task.{Task, file_of}

-- the status that a refusal gives
abbrev pub status_of : Refusal → ℕ
status_of refusals.Usage = 2
status_of (refusals.Hest error) = 3
status_of (refusals.Einj error) = 3
status_of (refusals.Platform error) = 8
status_of (refusals.Script line kind) = 4
status_of (refusals.Full line) = 8
status_of (refusals.Load file why) = 5
status_of refusals.OutOfMemory = 7
status_of refusals.HandlerMemory = 7

-- the line for a command line that is none of the forms
abbrev pub usage_line : List ℕ
usage_line = codes "ghes: usage: replay HEST EINJ SCRIPT | check HEST EINJ | decode BLOCK | load N\n"

-- the line for a file that was not loaded
unfoldable pub load_line : List ℕ → List ℕ → List ℕ
load_line name why = codes "ghes: read " ++ name ++ codes ": " ++ why ++ codes "\n"

-- the line for a refused table
unfoldable pub hest_line : List ℕ → List ℕ
hest_line reason = codes "ghes: hest: " ++ reason ++ codes "\n"

-- the line for a refused injection table
unfoldable pub einj_line : List ℕ → List ℕ
einj_line reason = codes "ghes: einj: " ++ reason ++ codes "\n"

-- the line for a refused script, by its first bad line
unfoldable pub script_line : ℕ → ScriptKind → List ℕ
script_line line kind = codes "ghes: script: line " ++ decimal line ++ codes ": " ++ kind_text kind ++ codes "\n"

-- the line for a machine that is refused
unfoldable pub platform_line : List ℕ → List ℕ
platform_line reason = codes "ghes: platform: " ++ reason ++ codes "\n"

-- the line for want of memory
abbrev pub memory_line : List ℕ
memory_line = codes "ghes: out of memory\n"

-- the line for a block too many
abbrev pub full_line : List ℕ
full_line = codes "ghes: platform: 2 room\n"

-- the line of a refusal, by the name of the file that it is about
abbrev pub line_of : List ℕ → Refusal → List ℕ
line_of name refusals.Usage = usage_line
line_of name (refusals.Load file why) = load_line name (load_error_text why)
line_of name (refusals.Hest error) = hest_line (hest_error_text error)
line_of name (refusals.Einj error) = einj_line (einj_error_text error)
line_of name (refusals.Platform error) = platform_line (fw_error_text error)
line_of name (refusals.Script line kind) = script_line line kind
line_of name (refusals.Full line) = full_line
line_of name refusals.OutOfMemory = memory_line
line_of name refusals.HandlerMemory = memory_line

-- the name of the file in the line of a refusal, which only a file that was not loaded has
abbrev pub refused_name : Task → Refusal → List ℕ
refused_name task (refusals.Load file why) = file_of task file
refused_name task other = []
