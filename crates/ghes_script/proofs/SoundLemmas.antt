-- What is read of a script is allowed, and its settings and times come in order.
use Rattle.std.proofs.Common.{◌≡◌, ◌≤◌, ℕ, ◌+◌, Bool, true, false, cond, not, ◌&&◌, ltb, List, [], ◌∷◌, length, Result, Ok, Err, IfOk, refl, subst, arith}
use Rattle.std.specs.List.{list_all, AllByRecursion}
use Rattle.std.specs.Prelude.{MatchBool}
use Rattle.std.proofs.lemmas.Bool.{leb-true}
use Rattle.ghes_script.specs.Answer.{is_printable, is_comment, in_order, words_answer, answer_of}
use Rattle.ghes_script.specs.Asked.{asked}
use Rattle.ghes_script.specs.Script.{BadLine, with_line, read_line, reads_from, IsScript}
use Rattle.ghes_script.specs.Setup.{Setup}
use Rattle.ghes_script.specs.Sofar.{start, is_in_order, after}
use Rattle.ghes_script.specs.Sound.{IsAllowed, AreAllowed, is_setting, AreSettingsFirst, time_after, DoesNotFall}
use Rattle.ghes_script.specs.Words.{words_of}
use Rattle.ghes_script.specs.declared.answer.Answer.{Answer}
use Rattle.ghes_script.specs.declared.answer.Answer.TheVariants.{Skipped, Asks, Bad}
use Rattle.ghes_script.specs.declared.error.ScriptKind.{ScriptKind}
use Rattle.ghes_script.specs.declared.error.ScriptKind.TheVariants.{Order, Unprintable, TooLong}
use Rattle.ghes_script.specs.declared.line.Line.{Line}
use Rattle.ghes_script.specs.declared.line.What.{What}
use Rattle.ghes_script.specs.declared.line.What.TheVariants.{Slots, Contexts, Serve, AckCell, Available, Busy, Status, Route, Clock, Raise, Inject, Nmi, Work, Run, Peek, Fail}
use Rattle.ghes_script.specs.declared.sofar.Sofar.{Sofar}
use Rattle.ghes_script.proofs.FormLemmas.{asked_is}

-- what holds of what a line asks for, where it asks for something
abbrev IfAsks : Answer → (What → Type 0) → Type 0
IfAsks Skipped P = Unit {0}
IfAsks (Asks what) P = P what
IfAsks (Bad kind) P = Unit {0}

abbrev Comes : Setup → Sofar → What → Type 0
Comes setup sofar what = IsAllowed setup sofar what × (is_in_order sofar what ≡ true)

comes_in_order : (setup : Setup) (sofar : Sofar) (asked : Result What ScriptKind) → IfOk asked (IsAllowed setup sofar) → IfAsks (in_order sofar asked) (Comes setup sofar)
comes_in_order setup sofar (Ok what) allowed = by_test (is_in_order sofar what) refl where
  by_test : (b : Bool) → is_in_order sofar what ≡ b → IfAsks (cond b (Asks what) (Bad Order)) (Comes setup sofar)
  by_test true e = (allowed, e)
  by_test false e = tt
comes_in_order setup sofar (Err kind) allowed = tt

words_come : (setup : Setup) (sofar : Sofar) (words : List (List ℕ)) → IfAsks (words_answer setup sofar words) (Comes setup sofar)
words_come setup sofar [] = tt
words_come setup sofar (name ∷ args) = by_test (is_comment name) where
  by_test : (b : Bool) → IfAsks (cond b Skipped (in_order sofar (asked setup sofar name args))) (Comes setup sofar)
  by_test true = tt
  by_test false = comes_in_order setup sofar (asked setup sofar name args) (asked_is setup sofar name args)

answer_comes : (setup : Setup) (sofar : Sofar) (text : List ℕ) → IfAsks (answer_of setup sofar text) (Comes setup sofar)
unfolding answer_of
answer_comes setup sofar text = by_test (ltb 132000 (length text)) (list_all is_printable text) where
  by_test : (x y : Bool) → IfAsks (cond x (Bad TooLong) (cond y (words_answer setup sofar (words_of text)) (Bad Unprintable))) (Comes setup sofar)
  by_test true y = tt
  by_test false true = words_come setup sofar (words_of text)
  by_test false false = tt

line_allowed : (setup : Setup) (number : ℕ) (sofar : Sofar) (answer : Answer) (next : Sofar → Result (List Line) BadLine) → IfAsks answer (Comes setup sofar) → ((s : Sofar) → IfOk (next s) (AreAllowed setup s)) → IfOk (read_line number sofar answer next) (AreAllowed setup sofar)
line_allowed setup number sofar Skipped next comes rest = rest sofar
line_allowed setup number sofar (Asks what) next comes rest = by_rest (next (after sofar what)) (rest (after sofar what)) where
  by_rest : (r : Result (List Line) BadLine) → IfOk r (AreAllowed setup (after sofar what)) → IfOk (with_line (record { number = number; what = what }) r) (AreAllowed setup sofar)
  by_rest (Ok lines) allowed = (comes.0, comes.1, allowed)
  by_rest (Err bad) allowed = tt
line_allowed setup number sofar (Bad kind) next comes rest = tt

reads_allowed : (setup : Setup) (number : ℕ) (sofar : Sofar) (texts : List (List ℕ)) → IfOk (reads_from setup number sofar texts) (AreAllowed setup sofar)
reads_allowed setup number sofar [] = tt
reads_allowed setup number sofar (text ∷ texts) =
    line_allowed setup number sofar (answer_of setup sofar text) (λ next. reads_from setup (number + 1) next texts) (answer_comes setup sofar text) (λ next. reads_allowed setup (number + 1) next texts)

-- each line of a script is allowed
pub script_allowed : (setup : Setup) (bytes : List ℕ) (lines : List Line) → IsScript setup bytes lines → AreAllowed setup start lines
script_allowed setup bytes lines script =
    let P : Result (List Line) BadLine → Type 0 = λ r. IfOk r (AreAllowed setup start) in
    subst P script.read (reads_allowed setup 1 start script.texts)

not_false : (b : Bool) → not b ≡ true → b ≡ true → ⊥
not_false true e is = cc
not_false false e is = cc

first : (x y : Bool) → (x && y) ≡ true → x ≡ true
first true y e = refl
first false y e = e

-- a command, behind which there are no settings
commands_only : (setup : Setup) (sofar : Sofar) (lines : List Line) → sofar.commands ≡ true → AreAllowed setup sofar lines → AllByRecursion (λ line. is_setting line.what ≡ false) lines
commands_only setup sofar [] begun allowed = tt
commands_only setup sofar (line ∷ lines) begun allowed = (command line.what allowed.1, commands_only setup (after sofar line.what) lines (stays line.what) allowed.2) where
  command : (what : What) → is_in_order sofar what ≡ true → is_setting what ≡ false
  command (Slots n) e = absurd (not_false sofar.commands e begun)
  command (Contexts n) e = absurd (not_false sofar.commands (first (not sofar.commands) (not sofar.served) e) begun)
  command (Serve source context) e = absurd (not_false sofar.commands e begun)
  command (AckCell source value) e = absurd (not_false sofar.commands e begun)
  command (Available value) e = absurd (not_false sofar.commands e begun)
  command (Busy n) e = absurd (not_false sofar.commands e begun)
  command (Status n) e = absurd (not_false sofar.commands e begun)
  command (Route class source) e = absurd (not_false sofar.commands e begun)
  command (Clock time) e = refl
  command (Raise source block) e = refl
  command (Inject request) e = refl
  command (Nmi source) e = refl
  command Work e = refl
  command (Run n) e = refl
  command (Peek source) e = refl
  command (Fail source n) e = refl

  stays : (what : What) → (after sofar what).commands ≡ true
  stays (Slots n) = begun
  stays (Contexts n) = begun
  stays (Serve source context) = begun
  stays (AckCell source value) = begun
  stays (Available value) = begun
  stays (Busy n) = begun
  stays (Status n) = begun
  stays (Route class source) = begun
  stays (Clock time) = refl
  stays (Raise source block) = refl
  stays (Inject request) = refl
  stays (Nmi source) = refl
  stays Work = refl
  stays (Run n) = refl
  stays (Peek source) = refl
  stays (Fail source n) = refl

-- settings come first
pub settings_first : (setup : Setup) (sofar : Sofar) (lines : List Line) → AreAllowed setup sofar lines → AreSettingsFirst lines
settings_first setup sofar [] allowed = tt
settings_first setup sofar (line ∷ lines) allowed = by_what line.what allowed.2 (settings_first setup (after sofar line.what) lines allowed.2) where
  by_what : (what : What) → AreAllowed setup (after sofar what) lines → AreSettingsFirst lines → MatchBool (is_setting what) (AreSettingsFirst lines) (AllByRecursion (λ other. is_setting other.what ≡ false) lines)
  by_what (Slots n) rest more = more
  by_what (Contexts n) rest more = more
  by_what (Serve source context) rest more = more
  by_what (AckCell source value) rest more = more
  by_what (Available value) rest more = more
  by_what (Busy n) rest more = more
  by_what (Status n) rest more = more
  by_what (Route class source) rest more = more
  by_what (Clock time) rest more = commands_only setup (after sofar (Clock time)) lines refl rest
  by_what (Raise source block) rest more = commands_only setup (after sofar (Raise source block)) lines refl rest
  by_what (Inject request) rest more = commands_only setup (after sofar (Inject request)) lines refl rest
  by_what (Nmi source) rest more = commands_only setup (after sofar (Nmi source)) lines refl rest
  by_what Work rest more = commands_only setup (after sofar Work) lines refl rest
  by_what (Run n) rest more = commands_only setup (after sofar (Run n)) lines refl rest
  by_what (Peek source) rest more = commands_only setup (after sofar (Peek source)) lines refl rest
  by_what (Fail source n) rest more = commands_only setup (after sofar (Fail source n)) lines refl rest

-- the time does not fall
pub does_not_fall : (setup : Setup) (sofar : Sofar) (lines : List Line) → AreAllowed setup sofar lines → DoesNotFall sofar.clock lines
does_not_fall setup sofar [] allowed = tt
does_not_fall setup sofar (line ∷ lines) allowed =
    let P : ℕ → Type 0 = λ time. DoesNotFall time lines in
    (not_below line.what allowed.1, subst P (same line.what) (does_not_fall setup (after sofar line.what) lines allowed.2)) where
      not_below : (what : What) → is_in_order sofar what ≡ true → sofar.clock ≤ time_after sofar.clock what
      not_below (Clock time) e = leb-true sofar.clock time e
      not_below (Slots n) e = omega arith
      not_below (Contexts n) e = omega arith
      not_below (Serve source context) e = omega arith
      not_below (AckCell source value) e = omega arith
      not_below (Available value) e = omega arith
      not_below (Busy n) e = omega arith
      not_below (Status n) e = omega arith
      not_below (Route class source) e = omega arith
      not_below (Raise source block) e = omega arith
      not_below (Inject request) e = omega arith
      not_below (Nmi source) e = omega arith
      not_below Work e = omega arith
      not_below (Run n) e = omega arith
      not_below (Peek source) e = omega arith
      not_below (Fail source n) e = omega arith

      same : (what : What) → (after sofar what).clock ≡ time_after sofar.clock what
      same (Clock time) = refl
      same (Slots n) = refl
      same (Contexts n) = refl
      same (Serve source context) = refl
      same (AckCell source value) = refl
      same (Available value) = refl
      same (Busy n) = refl
      same (Status n) = refl
      same (Route class source) = refl
      same (Raise source block) = refl
      same (Inject request) = refl
      same (Nmi source) = refl
      same Work = refl
      same (Run n) = refl
      same (Peek source) = refl
      same (Fail source n) = refl
