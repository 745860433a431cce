-- A line `run` goes on by one call.
use Rattle.std.proofs.Common.{◌≡◌, ◌≤◌, ℕ, List, [], ◌∷◌, ◌++◌, refl, sym, ap, subst, ◌∙◌, arith, append-nil, append_assoc, Option, Some, None}
use Rattle.std.specs.Prelude.{slice_get, slice_set}
use Rattle.apei_base.specs.Firmware.{Seen}
use Rattle.ghes_call.specs.Packet.{PacketSeen}
use Rattle.ghes_call.specs.Receive.{ReceiveSeen}
use Rattle.ghes_call.specs.declared.call.Call.{Call}
use Rattle.ghes_ledger.specs.History.{Executed, calls_in, taken_in, clock_after}
use Rattle.ghes_ledger.specs.Queue.{queue, fails_in}
use Rattle.ghes_ledger.specs.Reports.{reports_in}
use Rattle.ghes_ledger.specs.Turns.{IsMadeBy}
use Rattle.ghes_ledger.specs.declared.ledger.Mark.{Mark}
use Rattle.ghes_nmi.specs.Receive.{receive_seen}
use Rattle.ghes_desk.specs.Desk.{DeskSeen, IsAnswered, IsNmi, IsTurn, entered, marked, panicked_by, with_packets}
use Rattle.ghes_desk.specs.Call.{stopped_reply, standing_packet, queued_by}
use Rattle.ghes_lines.specs.Follows.{Follows}
use Rattle.ghes_lines.specs.Lines.{IsAt}
use Rattle.ghes_lines.specs.Machine.{FitsSource, first_cell, plan_of}
use Rattle.ghes_lines.specs.Midway.{in_order, line_by_line, with_lists, moved_to, IsMidway, Continues, IsAmid}
use Rattle.ghes_lines.specs.declared.machine.Machine.{Machine}
use Rattle.ghes_lines.specs.declared.machine.Source.{Source}
use Rattle.ghes_lines.proofs.NmiFollows.{source_in, follows_nmi}
use Rattle.ghes_lines.proofs.NmiLemmas.{IsSource}

-- what a history says that goes on call by call
module _ (number : ℕ) (before : List Executed) where
  pub calls_line : (made : List Call) → calls_in (line_by_line number before made) ≡ calls_in before ++ in_order made
  calls_line [] = sym (append-nil (calls_in before))
  calls_line (call ∷ older) = ap (λ xs. xs ++ call ∷ []) (calls_line older) ∙ append_assoc (calls_in before) (in_order older) (call ∷ [])

  pub taken_line : (made : List Call) → taken_in (line_by_line number before made) ≡ taken_in before
  taken_line [] = refl
  taken_line (call ∷ older) = append-nil _ ∙ taken_line older

  pub queue_line : (s : ℕ) (made : List Call) → queue s (line_by_line number before made) ≡ queue s before
  queue_line s [] = refl
  queue_line s (call ∷ older) = append-nil _ ∙ queue_line s older

  pub clock_line : (made : List Call) → clock_after (line_by_line number before made) ≡ clock_after before
  clock_line [] = refl
  clock_line (call ∷ older) = clock_line older

  pub reports_line : (made : List Call) → reports_in (line_by_line number before made) ≡ reports_in before
  reports_line [] = refl
  reports_line (call ∷ older) = append-nil _ ∙ reports_line older

  pub fails_line : (s : ℕ) (made : List Call) → fails_in s (line_by_line number before made) ≡ fails_in s before
  fails_line s [] = refl
  fails_line s (call ∷ older) = omega (arith, fails_line s older)

-- a desk keeps its lists apart from the panic list
relisted : (number : ℕ) (fatal : Option PacketSeen) (call : Call) (calls : List Call) (marks : List Mark) (between : DeskSeen) → marked number (panicked_by fatal (entered call (with_lists calls marks between))) ≡ with_lists (marked number (panicked_by fatal (entered call (with_lists calls marks between)))).ledger.calls (marked number (panicked_by fatal (entered call (with_lists calls marks between)))).ledger.marks (panicked_by fatal between)
relisted number None call calls marks between = refl
relisted number (Some packet) call calls marks between = refl

moves : (fatal : Option PacketSeen) (packets : List PacketSeen) (desk start : DeskSeen) → desk ≡ moved_to desk start → panicked_by fatal (with_packets packets desk) ≡ moved_to (panicked_by fatal (with_packets packets desk)) start
moves None packets desk start kept = ap (λ d. panicked_by None (with_packets packets d)) kept
moves (Some packet) packets desk start kept = ap (λ d. panicked_by (Some packet) (with_packets packets d)) kept

module _ {P : Type 0} (seen : P → Seen) (faults : P → ℕ) (machine : Machine) where
  -- before its first call
  pub midway_begins : (number : ℕ) (before : List Executed) (ports : List P) (desk : DeskSeen) → Follows seen faults machine ports desk before → IsMidway seen faults machine number before desk ports desk []
  midway_begins number before ports desk f = record {
    made = [];
    stops = [];
    calls_are = refl;
    stopped = tt;
    running = λ none. refl;
    kept = refl;
    entered = desk.ledger.calls;
    marks = desk.ledger.marks;
    follows = f;
  }

  -- where a line goes on, some line came so far
  pub amid_later : (ports ports' : List P) (desk desk' : DeskSeen) (calls calls' : List Call) → Continues seen faults machine ports desk calls ports' desk' calls' → IsAmid seen faults machine ports desk calls → IsAmid seen faults machine ports' desk' calls'
  amid_later ports ports' desk desk' calls calls' goes amid = record {
    number = amid.number;
    before = amid.before;
    start = amid.start;
    midway = goes amid.number amid.before amid.start amid.midway;
  }

  module _ (block_len number : ℕ) (before : List Executed) (start : DeskSeen) (ports : List P) (desk : DeskSeen) (calls : List Call) (s : ℕ) (source : Source) (call : Call) (at : slice_get machine.sources.items s ≡ Some source) (fits : FitsSource machine.contexts block_len source) (m : IsMidway seen faults machine number before start ports desk calls) where
    -- by a call behind a fatal one
    pub midway_stop : (desk.ledger.panic ≡ [] → ⊥) → call ≡ record { context = source.server; source = s; now = desk.clock; reply = stopped_reply } → IsMidway seen faults machine number before start ports desk (calls ++ call ∷ [])
    midway_stop some is =
        let plan = plan_of machine in
        let own : IsSource plan (receive_seen source.receive) source.server (first_cell (Some source)) s = source_in machine block_len s source at fits in
        let by : IsMadeBy plan before (record { context = source.server; source = s; now = desk.clock; reply = stopped_reply }) = record {
          source = own.inside;
          context = own.server;
          contexts = own.contexts;
          now = m.follows.time ∙ clock_line number before m.made;
        } in
        record {
          made = m.made;
          stops = call ∷ m.stops;
          calls_are = ap (λ xs. xs ++ call ∷ []) m.calls_are;
          stopped = (record { by = subst (λ (c : Call). IsMadeBy plan before c) (sym is) by; reply_is = ap (λ c. c.reply) is }, m.stopped);
          running = λ none. absurd (some none);
          kept = m.kept;
          entered = m.entered;
          marks = m.marks;
          follows = m.follows;
        }

    -- by any other
    pub midway_call : (port port' : P) (desk' : DeskSeen) → slice_get ports s ≡ Some port → faults port' ≤ (seen port').planned → desk.ledger.panic ≡ [] → IsTurn (receive_seen source.receive) source.server s (seen port) (seen port') (faults port) (faults port') desk desk' call → IsMidway seen faults machine number before start (slice_set ports s port') desk' (calls ++ call ∷ [])
    midway_call port port' desk' there sound none turn =
        let receive = receive_seen source.receive in
        let same : Call = record { context = source.server; source = s; now = desk.clock; reply = call.reply } in
        let lists = with_lists m.entered m.marks in
        let a = turn.answered in
        let answered : IsAnswered receive s (seen port) (seen port') (faults port) (faults port') (lists desk) (lists turn.between) call.reply turn.fatal = record {
          answers = a.answers;
          asked = a.asked;
          leaves = a.leaves;
          counts = a.counts;
          pending = ap lists a.pending;
          fatal_is = a.fatal_is;
        } in
        let line_desk = panicked_by turn.fatal (entered same (lists turn.between)) in
        let nmi : IsNmi receive source.server s (seen port) (seen port') (faults port) (faults port') (lists desk) line_desk = record {
          reply = call.reply;
          fatal = turn.fatal;
          between = lists turn.between;
          call = answered;
          desk_is = refl;
        } in
        let f = follows_nmi seen faults machine block_len ports (lists desk) line_desk (line_by_line number before m.made) number s source port port' at fits there sound none nmi m.follows in
        let now = marked number line_desk in
        let is : now ≡ with_lists now.ledger.calls now.ledger.marks desk' = relisted number turn.fatal same m.entered m.marks turn.between ∙ ap (with_lists now.ledger.calls now.ledger.marks) (sym turn.desk_is) in
        let packets = queued_by call.reply.outcome (standing_packet s receive.limit (seen port)) desk.pending.packets in
        let left : desk' ≡ panicked_by turn.fatal (with_packets packets desk) = turn.desk_is ∙ ap (panicked_by turn.fatal) a.pending in
        record {
          made = same ∷ m.made;
          stops = [];
          calls_are = ap (λ xs. xs ++ call ∷ []) m.calls_are ∙ ap (λ xs. in_order (xs ++ m.made) ++ call ∷ []) (m.running none) ∙ ap (λ c. in_order m.made ++ c ∷ []) turn.call_is;
          stopped = tt;
          running = λ empty. refl;
          kept = left ∙ moves turn.fatal packets desk start m.kept ∙ ap (λ d. moved_to d start) (sym left);
          entered = now.ledger.calls;
          marks = now.ledger.marks;
          follows = subst (λ (d : DeskSeen). Follows seen faults machine (slice_set ports s port') d (line_by_line number before (same ∷ m.made))) is f;
        }

  -- each line that came so far goes on by one call more, where the call is stopped
  pub continues_stop : (block_len : ℕ) (ports : List P) (desk : DeskSeen) (s : ℕ) (source : Source) (call : Call) → slice_get machine.sources.items s ≡ Some source → FitsSource machine.contexts block_len source → (desk.ledger.panic ≡ [] → ⊥) → call ≡ record { context = source.server; source = s; now = desk.clock; reply = stopped_reply } → (calls : List Call) → Continues seen faults machine ports desk calls ports desk (calls ++ call ∷ [])
  continues_stop block_len ports desk s source call at fits some is calls number before start m = midway_stop block_len number before start ports desk calls s source call at fits m some is

  -- and where it is not
  pub continues_call : (block_len : ℕ) (ports ports' : List P) (desk desk' : DeskSeen) (s : ℕ) (source : Source) (call : Call) → slice_get machine.sources.items s ≡ Some source → FitsSource machine.contexts block_len source → ((port : P) → faults port ≤ (seen port).planned) → desk.ledger.panic ≡ [] → IsAt s ports ports' (λ old new. IsTurn (receive_seen source.receive) source.server s (seen old) (seen new) (faults old) (faults new) desk desk' call) → (calls : List Call) → Continues seen faults machine ports desk calls ports' desk' (calls ++ call ∷ [])
  continues_call block_len ports ports' desk desk' s source call at fits sound none is calls number before start m =
      subst (λ (ps : List P). IsMidway seen faults machine number before start ps desk' (calls ++ call ∷ [])) (sym is.now)
      (midway_call block_len number before start ports desk calls s source call at fits m is.port is.port' desk' is.there (sound is.port') none is.did)

  -- by whom a call of a turn was made
  pub turn_context : (receive : ReceiveSeen) (context s : ℕ) (ports ports' : List P) (desk desk' : DeskSeen) (call : Call) → IsAt s ports ports' (λ old new. IsTurn receive context s (seen old) (seen new) (faults old) (faults new) desk desk' call) → call.context ≡ context
  turn_context receive context s ports ports' desk desk' call is = ap (λ c. c.context) is.did.call_is
