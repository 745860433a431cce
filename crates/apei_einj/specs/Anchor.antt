-- The anchor of an action: the entry whose register stands for what the action reads or writes (own choice).
use Rattle.std.specs.Prelude.{ℕ, Bool, false, ◌&&◌, ◌||◌, ◌==◌, if◌then◌else◌, List, [], ◌∷◌, Option, Some, None}
use Rattle.apei_einj.specs.Entry.{reads_register, writes_register}
use Rattle.apei_einj.specs.declared.entry.Entry.{Entry}

-- an entry of this action may be its anchor by its instruction and its space: what is got is read (1 get trigger table,
-- 3 get error type, 6 check busy, 7 get command status), what is set or begun is written (2 set error type, 5 execute),
-- and the address structure of action 8 is written to memory
abbrev pub may_anchor : ℕ → Entry → Bool
may_anchor action entry =
    if (action == 1) || (action == 3) || (action == 6) || (action == 7) then reads_register entry
    else if (action == 2) || (action == 5) then writes_register entry
    else if action == 8 then writes_register entry && (entry.register.space == 0)
    else false

-- the first of the entries that is of this action and may be its anchor
unfoldable pub anchor_of : ℕ → List Entry → Option Entry
anchor_of action [] = None
anchor_of action (entry ∷ entries) =
    if (entry.action == action) && may_anchor action entry then Some entry else anchor_of action entries
