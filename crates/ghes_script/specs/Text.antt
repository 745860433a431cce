-- The words for the kinds of a bad line, with their numbers (own choice).
use Rattle.std.specs.Prelude.{ℕ, List, codes}
use Rattle.ghes_script.specs.declared.error.ScriptKind.{ScriptKind}
use Rattle.ghes_script.specs.declared.error.ScriptKind.TheVariants.{Command, Words, Number, Hex, Range, Order, Unprintable, TooLong, Source, NoInjection}

-- the words for the kind of a bad line
abbrev pub kind_text : ScriptKind → List ℕ
kind_text Command = codes "1 command"
kind_text Words = codes "2 words"
kind_text Number = codes "3 number"
kind_text Hex = codes "4 hex"
kind_text Range = codes "5 range"
kind_text Order = codes "6 order"
kind_text Unprintable = codes "7 unprintable"
kind_text TooLong = codes "8 too long"
kind_text Source = codes "9 source"
kind_text NoInjection = codes "10 no injection"
