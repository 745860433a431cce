-- A run in the middle of its script, and at its end.
use Rattle.std.proofs.Common.{◌≡◌, ◌≤◌, ◌<◌, ℕ, zero, suc, ◌+◌, Bool, true, false, not, eqb, List, [], ◌∷◌, ◌++◌, map, length, take, drop, get_or, refl, sym, ap, subst, ◌∙◌, arith, append-nil, append_assoc, Option, Some, None}
use Rattle.std.specs.List.{AllByRecursion}
use Rattle.std.proofs.lemmas.Bool.{false≢true, eqb-true}
use Rattle.std.proofs.lemmas.List.{map-append, length-append, take_more, nil_from_length, take-append-drop, drop_all}
use Rattle.std.proofs.lemmas.List.Concat.{flat_map-append}
use Rattle.apei_base.specs.Firmware.{Seen}
use Rattle.ghes_call.specs.Receive.{AckRuleSeen}
use Rattle.ghes_ledger.proofs.Serial.{Keeps, lawful_at_end}
use Rattle.apei_einj.specs.declared.request.Request.{Request}
use Rattle.ghes_ledger.specs.Asks.{Asks, Makes, Injects}
use Rattle.ghes_ledger.specs.History.{Act, Made, Executed, script_end, acts_in, calls_in}
use Rattle.ghes_ledger.specs.declared.ledger.InjectionEnd.{InjectionEnd}
use Rattle.ghes_ledger.specs.declared.ledger.InjectionEnd.TheVariants.{Made as InjectionMade}
use Rattle.ghes_ledger.specs.Lawful.{AreExecuted, MadeAtEnd, MakesBlocks}
use Rattle.ghes_ledger.specs.Names.{fatal_names}
use Rattle.ghes_ledger.specs.declared.ledger.PanicEntry.{PanicEntry}
use Rattle.ghes_script.specs.declared.line.Line.{Line}
use Rattle.ghes_script.specs.declared.line.What.{What}
use Rattle.ghes_script.specs.declared.line.What.TheVariants as asks
use Rattle.ghes_desk.specs.Desk.{DeskSeen, new_desk}
use Rattle.ghes_lines.specs.Follows.{blocks_in, Follows}
use Rattle.ghes_lines.specs.Injector.{request_of, requests_of, injection_by, injections_in, Injections}
use Rattle.ghes_lines.specs.Lines.{asks_of, act_of, Executes, GoesOn, InjectsBy, IsLed, IsStopAt}
use Rattle.ghes_lines.specs.declared.injector.Injected.{Injected}
use Rattle.ghes_lines.specs.Machine.{rule_of, first_cell, cell_after, plan_of}
use Rattle.ghes_lines.specs.Run.{AreFresh, Leads, IsRun, IsStopOf}
use Rattle.ghes_lines.specs.declared.error.Stop.{Stop}
use Rattle.ghes_lines.specs.declared.error.Stop.TheVariants.{Full, OutOfMemory}
use Rattle.ghes_lines.specs.declared.machine.Machine.{Machine}
use Rattle.ghes_lines.proofs.LineLemmas.{keeps_of}

not_was_false : (b : Bool) → not b ≡ false → b ≡ true
not_was_false true is = refl
not_was_false false is = absurd (false≢true (sym is))

-- a replay that is not stopped has no panic list, and one that is stopped has one
pub not_stopped : (panic : List PanicEntry) (stopped : Bool) → stopped ≡ not (eqb (length panic) 0) → stopped ≡ false → panic ≡ []
not_stopped panic stopped is go = nil_from_length panic (eqb-true (length panic) 0 (not_was_false (eqb (length panic) 0) (sym is ∙ go)))

pub was_stopped : (panic : List PanicEntry) (stopped : Bool) → stopped ≡ not (eqb (length panic) 0) → stopped ≡ true → panic ≡ [] → ⊥
was_stopped panic stopped is stop none = false≢true (ap (λ xs. not (eqb (length xs) 0)) (sym none) ∙ sym is ∙ stop)

-- what holds of each line holds of the one at a place
pub line_at : (Q : Line → Type 0) (lines : List Line) (i : ℕ) (d : Line) → AllByRecursion Q lines → i < length lines → Q (get_or lines i d)
line_at Q [] i d all inside = absurd (omega arith)
line_at Q (line ∷ lines) zero d all inside = all.0
line_at Q (line ∷ lines) (suc i) d all inside = line_at Q lines i d all.1 (omega arith)

-- a list is what stands before a place, what stands there, and the rest
cut_at : (lines : List Line) (i : ℕ) (line : Line) → i < length lines → line ≡ get_or lines i line → lines ≡ take i lines ++ line ∷ drop (i + 1) lines
cut_at lines i line inside here =
    let one_more : take (i + 1) lines ≡ take i lines ++ line ∷ [] = take_more lines i line inside ∙ ap (λ l. take i lines ++ l ∷ []) (sym here) in
    sym (take-append-drop (i + 1) lines) ∙ ap (λ xs. xs ++ drop (i + 1) lines) one_more ∙ append_assoc (take i lines) (line ∷ []) (drop (i + 1) lines)

-- the cell before the first acknowledgement
cell_zero : (rule : Option AckRuleSeen) (cell : ℕ) → cell_after rule cell 0 ≡ cell
cell_zero None cell = refl
cell_zero (Some rule) cell = refl

-- the front of a list that is empty
nil_front : {A : Type 0} (xs ys : List A) → xs ++ ys ≡ [] → xs ≡ []
nil_front [] ys is = refl
nil_front (x ∷ xs) ys is = absurd cc

-- the injections of one list of lines and then of another
requests-append : (xs ys : List Line) → requests_of (xs ++ ys) ≡ requests_of xs ++ requests_of ys
requests-append [] ys = refl
requests-append (line ∷ xs) ys = ap (λ rest. request_of line.what ++ rest) (requests-append xs ys) ∙ sym (append_assoc (request_of line.what) (requests_of xs) (requests_of ys))

injections_then : {S : Type 0} (does : S → Request → Injected → S → Type 0) (first next last : S) (requests more : List Request) (lines later : List Executed) → Injections does first requests lines next → Injections does next more later last → Injections does first (requests ++ more) (lines ++ later) last
injections_then does first next last [] more [] later these those = subst (λ s. Injections does s more later last) these those
injections_then does first next last [] more (line ∷ lines) later these those = absurd these
injections_then does first next last (request ∷ requests) more [] later these those = absurd these
injections_then does first next last (request ∷ requests) more (line ∷ lines) later these those =
    (these.0, these.1, these.2, these.3, injections_then does these.1 next last requests more lines later these.4 those)

-- a line makes one block at most
made_few : (before : List Executed) (asks : Asks) (made : List Made) (ends : List InjectionEnd) → MakesBlocks before asks made ends → length made ≤ 1
made_few before (Makes s block) made ends is = omega (arith, ap length is.0)
made_few before Injects made ends is = at_end is.0 is.2 where
  at_end : (end : InjectionEnd) → MadeAtEnd before made end → length made ≤ 1
  at_end (InjectionMade s n) at = omega (arith, ap length at.1)
  at_end _ at = omega (arith, ap length at)
made_few before _ made ends is = omega (arith, ap length is.0)

room_or : (made : List Made) (n : ℕ) → ((made ≡ [] → ⊥) → n < 65536) → length made ≤ 1 → n ≤ 65536 → n + length made ≤ 65536
room_or [] n room few most = omega (arith, most)
room_or (block ∷ made) n room few most = omega (arith, few, room (λ e. let none : block ∷ made ≡ [] = e in absurd cc))

module _ {P S : Type 0} (seen : P → Seen) (faults : P → ℕ) (does : S → Request → Injected → S → Type 0) (machine : Machine) (first : S) where
  -- a line leaves no more blocks than a machine may have
  most_more : (act : Act) (ports : List P) (desk : DeskSeen) (before : List Executed) (g : GoesOn seen faults machine act ports desk before) → length (blocks_in before) ≤ 65536 → length (blocks_in (g.line ∷ before)) ≤ 65536
  most_more act ports desk before g most =
      omega (arith, length-append (blocks_in before) g.line.made, room_or g.line.made (length (blocks_in before)) g.room (made_few before g.line.act.asks g.line.made g.line.ends g.follows.account.lines.1.makes) most)

  -- a line goes on, and its injections are steps
  next_line : (number : ℕ) (what : What) (from to : S) (ports ports' : List P) (desk desk' : DeskSeen) (before : List Executed) → Executes seen faults machine (record { number = number; asks = asks_of what }) ports desk ports' desk' → InjectsBy seen faults does machine number what from ports desk to ports' desk' → Follows seen faults machine ports desk before → (g : GoesOn seen faults machine (record { number = number; asks = asks_of what }) ports' desk' before) × Injections does from (request_of what) (injection_by (asks_of what) g.line) to
  next_line number (asks.Inject request) from to ports ports' desk desk' before goes injects f = let g = injects.2 before f in (g.goes, (injects.0, to, injects.1, g.told, refl))
  next_line number _ from to ports ports' desk desk' before goes injects f = (goes before f, injects)

  -- where some lines lead, a history leads
  pub led : (ports : List P) (desk : DeskSeen) (lines : List Line) (last : S) → Leads seen faults does machine first ports desk lines last → IsLed seen faults machine ports desk
  led ports desk lines last l = record { history = l.history; follows = l.follows }

  -- at first
  pub leads_none : (ports : List P) (desk : DeskSeen) (block_len : ℕ) → desk ≡ new_desk machine.slots block_len → AreFresh seen machine ports → Leads seen faults does machine first ports desk [] first
  leads_none ports desk block_len is fresh =
      subst (λ d. Leads seen faults does machine first ports d [] first) (sym is) (record {
        history = [];
        acts_are = refl;
        injected = refl;
        most = omega arith;
        follows = record {
          as_many = fresh.as_many;
          tied = λ s source port at there.
              let f = fresh.each s source port at there in
              record {
                source = f.source_is;
                made_is = f.made;
                acknowledged_is = f.acknowledged;
                waits_is = f.waits;
                cell_is = f.cell ∙ sym (ap (λ o. cell_after (rule_of o) (first_cell o) 0) at ∙ cell_zero (rule_of (Some source)) (first_cell (Some source)));
                failed = omega arith;
                planned = omega (arith, f.planned);
              };
          account = record {
            lines = tt;
            numbers = λ s. refl;
            order = λ c. refl;
            images = tt;
            panic_images = tt;
            panic_order = refl;
            fatal_blocks = refl;
            no_panic = λ empty. refl;
          };
          tells = record { calls = refl; taken = refl; reports = refl; injections = refl; peeks = refl; marks = refl };
          time = refl;
          slots = refl;
          few = omega arith;
          blocks = refl;
          left = λ some. refl;
        };
      })

  -- one more line
  pub leads_more : (lines : List Line) (i : ℕ) (line : Line) (last next : S) (ports ports' : List P) (desk desk' : DeskSeen) → i < length lines → line ≡ get_or lines i line → Executes seen faults machine (act_of line) ports desk ports' desk' → InjectsBy seen faults does machine line.number line.what last ports desk next ports' desk' → Leads seen faults does machine first ports desk (take i lines) last → Leads seen faults does machine first ports' desk' (take (i + 1) lines) next
  leads_more lines i line last next ports ports' desk desk' inside here goes injects l =
      let one_more : take (i + 1) lines ≡ take i lines ++ line ∷ [] = take_more lines i line inside ∙ ap (λ l. take i lines ++ l ∷ []) (sym here) in
      let step = next_line line.number line.what last next ports ports' desk desk' l.history goes injects l.follows in
      let g = step.0 in
      let asks_are : g.line.act.asks ≡ asks_of line.what = ap (λ a. a.asks) g.act_is in
      let here_too : Injections does last (request_of line.what) (injection_by g.line.act.asks g.line) next = subst (λ (a : Asks). Injections does last (request_of line.what) (injection_by a g.line) next) (sym asks_are) step.1 in
      let requests : requests_of (take i lines) ++ request_of line.what ≡ requests_of (take (i + 1) lines) =
      sym (ap requests_of one_more ∙ requests-append (take i lines) (line ∷ []) ∙ ap (λ rest. requests_of (take i lines) ++ rest) (append-nil (request_of line.what))) in
      record {
        history = g.line ∷ l.history;
        acts_are =
            ap (λ a. acts_in l.history ++ a ∷ []) g.act_is ∙ ap (λ xs. xs ++ act_of line ∷ []) l.acts_are
            ∙ sym (map-append act_of (take i lines) (line ∷ [])) ∙ ap (map act_of) (sym one_more);
        injected = subst (λ (rs : List Request). Injections does first rs (injections_in l.history ++ injection_by g.line.act.asks g.line) next) requests
            (injections_then does first last next (requests_of (take i lines)) (request_of line.what) (injections_in l.history) (injection_by g.line.act.asks g.line) l.injected here_too);
        most = most_more (act_of line) ports' desk' l.history g l.most;
        follows = g.follows;
      }

  -- a line that was not executed
  pub stops_at : (lines : List Line) (i : ℕ) (line : Line) (last : S) (ports : List P) (desk : DeskSeen) (stop : Stop) → i < length lines → line ≡ get_or lines i line → IsStopAt line desk.blocks stop → Leads seen faults does machine first ports desk (take i lines) last → IsStopOf seen faults does machine first lines stop
  stops_at lines i line last ports desk OutOfMemory inside here is l = tt
  stops_at lines i line last ports desk (Full number) inside here is l = record {
    done = take i lines;
    line = line;
    rest = drop (i + 1) lines;
    cut = cut_at lines i line inside here;
    number_is = is.0;
    makes = is.1;
    last = last;
    ports = ports;
    desk = desk;
    leads = l;
    many = omega (arith, is.2, l.follows.blocks);
  }

  -- the first lines were executed, and all of them where there is no panic list; then the end
  pub ends : (lines : List Line) (i : ℕ) (last : S) (ports ports' : List P) (desk desk' : DeskSeen) → (desk.ledger.panic ≡ [] → length lines ≤ i) → desk'.pending.packets ≡ [] → Executes seen faults machine script_end ports desk ports' desk' → Leads seen faults does machine first ports desk (take i lines) last → IsRun seen faults does machine lines first last ports' desk'.ledger
  ends lines i last ports ports' desk desk' all none goes l =
      let plan = plan_of machine in
      let next = goes l.history l.follows in
      let history = next.line ∷ l.history in
      let mild : fatal_names (calls_in history) ≡ [] → fatal_names (calls_in l.history) ≡ [] = λ empty. nil_front (fatal_names (calls_in l.history)) (fatal_names next.line.calls) (sym (flat_map-append _ (calls_in l.history) next.line.calls) ∙ empty) in
      let which : AreExecuted (map act_of lines) (map act_of (take i lines)) history = record {
        rest = map act_of (drop i lines);
        cut = ap (map act_of) (sym (take-append-drop i lines)) ∙ map-append act_of (take i lines) (drop i lines);
        all = λ empty. ap (map act_of) (drop_all i lines (all (l.follows.account.no_panic (mild empty))));
        acts = ap (λ a. acts_in l.history ++ a ∷ []) next.act_is ∙ ap (λ xs. xs ++ script_end ∷ []) l.acts_are;
      } in
      let keeps = subst (λ ps. Keeps plan history ps desk'.ledger.panic) none (keeps_of plan history desk'.pending.packets desk'.ledger.panic next.follows.account) in
      let quiet : injections_in l.history ++ injection_by next.line.act.asks next.line ≡ injections_in l.history =
      ap (λ a. injections_in l.history ++ injection_by a next.line) (ap (λ a. a.asks) next.act_is) ∙ append-nil _ in
      record {
        history = history;
        done = take i lines;
        executed = which.acts;
        injected = subst (λ (xs : List Executed). Injections does first (requests_of (take i lines)) xs last) (sym quiet) l.injected;
        most = most_more script_end ports' desk' l.history next l.most;
        lawful = lawful_at_end plan (map act_of lines) desk'.ledger history (map act_of (take i lines)) keeps which next.follows.tells;
        tied = next.follows.tied;
      }
