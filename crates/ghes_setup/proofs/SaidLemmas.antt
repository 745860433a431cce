-- What holds of the numbers that the settings of a script say, where its lines are allowed.
use Rattle.std.proofs.Common.{◌≡◌, ◌<◌, ℕ, Bool, true, false, not, ◌&&◌, cond, eqb, List, [], ◌∷◌, refl, sym, ap, subst, ◌∙◌}
use Rattle.std.proofs.lemmas.Bool.{false≢true}
use Rattle.ghes_script.specs.Setup.{Setup}
use Rattle.ghes_script.specs.Sofar.{is_in_order, after}
use Rattle.ghes_script.specs.Sound.{IsAllowed, AreAllowed, is_setting}
use Rattle.ghes_script.specs.declared.line.Line.{Line}
use Rattle.ghes_script.specs.declared.line.What.{What}
use Rattle.ghes_script.specs.declared.line.What.TheVariants as asks
use Rattle.ghes_setup.specs.Settings.{settings_of, said_by, contexts_by, server_by}

-- of two lists of lines one is chosen
either_allowed : (setup : Setup) (sofar : _) (b : Bool) (one other : List Line) → AreAllowed setup sofar one → AreAllowed setup sofar other → AreAllowed setup sofar (cond b one other)
either_allowed setup sofar true one other first second = first
either_allowed setup sofar false one other first second = second

-- the settings are allowed where all lines are
pub settings_allowed : (setup : Setup) (sofar : _) (lines : List Line) → AreAllowed setup sofar lines → AreAllowed setup sofar (settings_of lines)
settings_allowed setup sofar [] all = tt
settings_allowed setup sofar (line ∷ lines) all =
    either_allowed setup sofar (is_setting line.what) (line ∷ settings_of lines) []
    (all.0, all.1, settings_allowed setup (after sofar line.what) lines all.2) tt

-- behind a source that is served, one is served
served_stays : (sofar : _) (what : What) → is_in_order sofar what ≡ true → sofar.served ≡ true → (after sofar what).served ≡ true
served_stays sofar (asks.Slots n) order served = served
served_stays sofar (asks.Contexts n) order served = served
served_stays sofar (asks.Serve source context) order served = refl
served_stays sofar (asks.AckCell source value) order served = served
served_stays sofar (asks.Available value) order served = served
served_stays sofar (asks.Busy n) order served = served
served_stays sofar (asks.Status n) order served = served
served_stays sofar (asks.Route class source) order served = served
served_stays sofar (asks.Clock time) order served = served
served_stays sofar (asks.Raise source block) order served = served
served_stays sofar (asks.Inject request) order served = served
served_stays sofar (asks.Nmi source) order served = served
served_stays sofar asks.Work order served = served
served_stays sofar (asks.Run n) order served = served
served_stays sofar (asks.Peek source) order served = served
served_stays sofar (asks.Fail source n) order served = served

-- not both
never_both : (b c : Bool) → c ≡ true → (not b && not c) ≡ true → ⊥
never_both true c is both = false≢true both
never_both false true is both = false≢true both
never_both false false is both = false≢true is

-- behind a source that is served, the contexts stay
contexts_stay : (sofar : _) (what : What) (contexts : ℕ) → is_in_order sofar what ≡ true → sofar.served ≡ true → contexts_by contexts what ≡ contexts
contexts_stay sofar (asks.Contexts n) contexts order served = absurd (never_both sofar.commands sofar.served served order)
contexts_stay sofar (asks.Slots n) contexts order served = refl
contexts_stay sofar (asks.Serve source context) contexts order served = refl
contexts_stay sofar (asks.AckCell source value) contexts order served = refl
contexts_stay sofar (asks.Available value) contexts order served = refl
contexts_stay sofar (asks.Busy n) contexts order served = refl
contexts_stay sofar (asks.Status n) contexts order served = refl
contexts_stay sofar (asks.Route class source) contexts order served = refl
contexts_stay sofar (asks.Clock time) contexts order served = refl
contexts_stay sofar (asks.Raise source block) contexts order served = refl
contexts_stay sofar (asks.Inject request) contexts order served = refl
contexts_stay sofar (asks.Nmi source) contexts order served = refl
contexts_stay sofar asks.Work contexts order served = refl
contexts_stay sofar (asks.Run n) contexts order served = refl
contexts_stay sofar (asks.Peek source) contexts order served = refl
contexts_stay sofar (asks.Fail source n) contexts order served = refl

said_stays : (setup : Setup) (sofar : _) (lines : List Line) (contexts : ℕ) → AreAllowed setup sofar lines → sofar.served ≡ true → said_by contexts_by contexts lines ≡ contexts
said_stays setup sofar [] contexts all served = refl
said_stays setup sofar (line ∷ lines) contexts all served =
    ap (λ n. said_by contexts_by n lines) (contexts_stay sofar line.what contexts all.1 served)
    ∙ said_stays setup (after sofar line.what) lines contexts all.2 (served_stays sofar line.what all.1 served)

-- the contexts so far are those that the lines so far said
contexts_are : (sofar : _) (what : What) → (after sofar what).contexts ≡ contexts_by sofar.contexts what
contexts_are sofar (asks.Slots n) = refl
contexts_are sofar (asks.Contexts n) = refl
contexts_are sofar (asks.Serve source context) = refl
contexts_are sofar (asks.AckCell source value) = refl
contexts_are sofar (asks.Available value) = refl
contexts_are sofar (asks.Busy n) = refl
contexts_are sofar (asks.Status n) = refl
contexts_are sofar (asks.Route class source) = refl
contexts_are sofar (asks.Clock time) = refl
contexts_are sofar (asks.Raise source block) = refl
contexts_are sofar (asks.Inject request) = refl
contexts_are sofar (asks.Nmi source) = refl
contexts_are sofar asks.Work = refl
contexts_are sofar (asks.Run n) = refl
contexts_are sofar (asks.Peek source) = refl
contexts_are sofar (asks.Fail source n) = refl

-- one line more leaves some context
some_stay : (setup : Setup) (sofar : _) (what : What) → IsAllowed setup sofar what → 0 < sofar.contexts → 0 < (after sofar what).contexts
some_stay setup sofar (asks.Contexts n) may some = may.0
some_stay setup sofar (asks.Slots n) may some = some
some_stay setup sofar (asks.Serve source context) may some = some
some_stay setup sofar (asks.AckCell source value) may some = some
some_stay setup sofar (asks.Available value) may some = some
some_stay setup sofar (asks.Busy n) may some = some
some_stay setup sofar (asks.Status n) may some = some
some_stay setup sofar (asks.Route class source) may some = some
some_stay setup sofar (asks.Clock time) may some = some
some_stay setup sofar (asks.Raise source block) may some = some
some_stay setup sofar (asks.Inject request) may some = some
some_stay setup sofar (asks.Nmi source) may some = some
some_stay setup sofar asks.Work may some = some
some_stay setup sofar (asks.Run n) may some = some
some_stay setup sofar (asks.Peek source) may some = some
some_stay setup sofar (asks.Fail source n) may some = some

-- there is a context
pub some_context : (setup : Setup) (sofar : _) (lines : List Line) → AreAllowed setup sofar lines → 0 < sofar.contexts → 0 < said_by contexts_by sofar.contexts lines
some_context setup sofar [] all some = some
some_context setup sofar (line ∷ lines) all some =
    subst (λ n. 0 < said_by contexts_by n lines) (contexts_are sofar line.what)
    (some_context setup (after sofar line.what) lines all.2 (some_stay setup sofar line.what all.0 some))

-- the one of two that a test chooses
either_below : (b : Bool) (x y n : ℕ) → x < n → y < n → cond b x y < n
either_below true x y n first second = first
either_below false x y n first second = second

-- one line more says a context that is there
server_line : (setup : Setup) (sofar : _) (what : What) (lines : List Line) (s before : ℕ) → IsAllowed setup sofar what → AreAllowed setup (after sofar what) lines → before < said_by contexts_by (contexts_by sofar.contexts what) lines → server_by s before what < said_by contexts_by (contexts_by sofar.contexts what) lines
server_line setup sofar (asks.Serve source context) lines s before may all below =
    either_below (eqb source s) context before _
    (subst (λ n. context < n) (sym (said_stays setup (after sofar (asks.Serve source context)) lines sofar.contexts all refl)) may.1) below
server_line setup sofar (asks.Contexts n) lines s before may all below = below
server_line setup sofar (asks.Slots n) lines s before may all below = below
server_line setup sofar (asks.AckCell source value) lines s before may all below = below
server_line setup sofar (asks.Available value) lines s before may all below = below
server_line setup sofar (asks.Busy n) lines s before may all below = below
server_line setup sofar (asks.Status n) lines s before may all below = below
server_line setup sofar (asks.Route class source) lines s before may all below = below
server_line setup sofar (asks.Clock time) lines s before may all below = below
server_line setup sofar (asks.Raise source block) lines s before may all below = below
server_line setup sofar (asks.Inject request) lines s before may all below = below
server_line setup sofar (asks.Nmi source) lines s before may all below = below
server_line setup sofar asks.Work lines s before may all below = below
server_line setup sofar (asks.Run n) lines s before may all below = below
server_line setup sofar (asks.Peek source) lines s before may all below = below
server_line setup sofar (asks.Fail source n) lines s before may all below = below

-- each source is served by a context that is there
pub server_below : (setup : Setup) (sofar : _) (lines : List Line) (s before : ℕ) → AreAllowed setup sofar lines → before < said_by contexts_by sofar.contexts lines → said_by (server_by s) before lines < said_by contexts_by sofar.contexts lines
server_below setup sofar [] s before all below = below
server_below setup sofar (line ∷ lines) s before all below =
    subst (λ n. said_by (server_by s) (server_by s before line.what) lines < said_by contexts_by n lines) (contexts_are sofar line.what)
    (server_below setup (after sofar line.what) lines s (server_by s before line.what) all.2
    (subst (λ n. server_by s before line.what < said_by contexts_by n lines) (sym (contexts_are sofar line.what))
    (server_line setup sofar line.what lines s before all.0 all.2 below)))
