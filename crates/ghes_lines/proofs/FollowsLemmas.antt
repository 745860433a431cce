-- A history and what it leads to go on by one line.
use Rattle.std.proofs.Common.{◌≡◌, ◌≤◌, ℕ, ◌+◌, cond, ltb, List, [], ◌∷◌, ◌++◌, length, refl, sym, ap, subst, ◌∙◌, arith, append-nil, Some}
use Rattle.std.specs.Prelude.{slice_get, slice_set}
use Rattle.std.proofs.lemmas.Bool.{eq-eqb, ne_eqb}
use Rattle.std.proofs.lemmas.List.{length-append, length-set}
use Rattle.apei_base.specs.Firmware.{Seen}
use Rattle.ghes_call.specs.Packet.{PacketSeen}
use Rattle.ghes_call.specs.Receive.{ReceiveSeen, IsOfSource}
use Rattle.ghes_call.specs.declared.call.Call.{Call}
use Rattle.ghes_ledger.proofs.StepLemmas.{raise_line, lawful_raise}
use Rattle.ghes_ledger.proofs.WorkLemmas.{takings}
use Rattle.ghes_ledger.specs.Asks.{Note, Setting, Clock, Fail, Peek, Asks, Quiet, Injects, Drains, Ends}
use Rattle.ghes_ledger.specs.History.{Executed, calls_in, taken_in, clock_by, clock_after, fails_by}
use Rattle.ghes_ledger.specs.Kept.{mark_of}
use Rattle.ghes_ledger.specs.Lawful.{written_to, peeked, MadeAtEnd, IsLawfulLine}
use Rattle.ghes_ledger.specs.Names.{fatal_names, panic_names, fatals}
use Rattle.ghes_ledger.specs.Plan.{Plan}
use Rattle.ghes_ledger.specs.Queue.{blocks_of, queue, acknowledged, stuck_calls, faulty_calls, fails_in}
use Rattle.ghes_ledger.specs.Reports.{reports_at}
use Rattle.ghes_ledger.specs.declared.ledger.InjectionEnd.{InjectionEnd}
use Rattle.ghes_ledger.specs.declared.ledger.InjectionEnd.TheVariants.{Made as InjectionMade, NotAvailable, Busy, Status, Trigger, NoAddress}
use Rattle.ghes_nmi.specs.Receive.{receive_seen}
use Rattle.ghes_lines.specs.Injector.{IsWithoutBlock}
use Rattle.ghes_desk.specs.Desk.{DeskSeen, worked, marked, drained}
use Rattle.ghes_lines.specs.Follows.{blocks_in, IsTied, IsAccount, Follows}
use Rattle.ghes_lines.specs.Machine.{plan_of}
use Rattle.fw_port.specs.Port.{raised}
use Rattle.ghes_desk.specs.Port.{IsPlanned}
use Rattle.ghes_lines.specs.declared.machine.Machine.{Machine}
use Rattle.ghes_lines.specs.declared.machine.Source.{Source}
use Rattle.ghes_lines.proofs.LineLemmas.{at_set, few_of, account_still, account_work, account_end, quiet_line, lawful_quiet, taking_line, drained_is, tells_more, by_source_none}

-- the same calls, told otherwise
pub tied_with : (plan : Plan) (receive : ReceiveSeen) (s : ℕ) (made made' : List (List ℕ)) (past past' : List Call) (fails fails' : ℕ) (port port' : Seen) (faults faults' : ℕ) → past' ≡ past → port'.layout ≡ port.layout → port'.made ≡ made' → port'.acknowledged ≡ port.acknowledged → port'.waits ≡ port.waits → port'.cell ≡ port.cell → port'.planned ≤ fails' → faults' ≡ faults → IsTied plan receive s made past fails port faults → IsTied plan receive s made' past' fails' port' faults'
tied_with plan receive s made made' past past' fails fails' port port' faults faults' same layout now count waits cell few counts t = record {
  source = subst (λ l. IsOfSource receive l) (sym layout) t.source;
  made_is = now;
  acknowledged_is = count ∙ t.acknowledged_is ∙ ap (acknowledged s) (sym same);
  waits_is = waits ∙ t.waits_is ∙ ap (λ xs. ltb 0 (length (stuck_calls s xs))) (sym same);
  cell_is = cell ∙ t.cell_is ∙ ap (λ xs. plan.cell s (written_to s xs)) (sym same);
  failed = omega (arith, t.failed, counts, ap (λ xs. length (faulty_calls s xs)) same);
  planned = few;
}

-- blocks that are not of a source, and one that is
blocks_own : (s : ℕ) (block : List ℕ) → blocks_of s (record { source = s; bytes = block } ∷ []) ≡ block ∷ []
blocks_own s block = ap (λ b. cond b (block ∷ []) [] ++ []) (eq-eqb s s refl)

blocks_other : (s t : ℕ) (block : List ℕ) → (t ≡ s → ⊥) → blocks_of t (record { source = s; bytes = block } ∷ []) ≡ []
blocks_other s t block differ = ap (λ b. cond b (block ∷ []) [] ++ []) (ne_eqb s t (λ e. differ (sym e)))

module _ {P : Type 0} (seen : P → Seen) (faults : P → ℕ) (machine : Machine) where
  abbrev plan : Plan
  plan = plan_of machine

  abbrev Ties : List Executed → ℕ → P → Type 0
  Ties history t p = (source : Source) → slice_get machine.sources.items t ≡ Some source → IsTied plan (receive_seen source.receive) t (queue t history) (calls_in history) (fails_in t history) (seen p) (faults p)

  -- without a panic list no call was fatal so far
  pub none_fatal : (ports : List P) (desk : DeskSeen) (history : List Executed) → desk.ledger.panic ≡ [] → Follows seen faults machine ports desk history → fatal_names (calls_in history) ≡ []
  none_fatal ports desk history none f = sym f.account.fatal_blocks ∙ ap (λ xs. panic_names (fatals xs)) none

  -- the ties of a memory behind a line without calls and blocks
  tied_still : (history : List Executed) (line : Executed) (t : ℕ) (p : P) → line.calls ≡ [] → line.made ≡ [] → Ties history t p → Ties (line ∷ history) t p
  tied_still history line t p no_calls no_blocks ties source is =
      let t_is = ties source is in
      let same : calls_in history ++ line.calls ≡ calls_in history = ap (λ xs. calls_in history ++ xs) no_calls ∙ append-nil (calls_in history) in
      let blocks : queue t history ++ blocks_of t line.made ≡ queue t history = ap (λ xs. queue t history ++ blocks_of t xs) no_blocks ∙ append-nil (queue t history) in
      tied_with plan (receive_seen source.receive) t (queue t history) (queue t (line ∷ history)) (calls_in history) (calls_in (line ∷ history)) (fails_in t history) (fails_in t (line ∷ history)) (seen p) (seen p) (faults p) (faults p)
      same refl (t_is.made_is ∙ sym blocks) refl refl refl (omega (arith, t_is.planned)) refl t_is

  -- a line without calls
  left_still : (history : List Executed) (line : Executed) (packets : List PacketSeen) → calls_in (line ∷ history) ≡ calls_in history → ((fatal_names (calls_in history) ≡ [] → ⊥) → packets ≡ []) → (fatal_names (calls_in (line ∷ history)) ≡ [] → ⊥) → packets ≡ []
  left_still history line packets same left some = left (λ e. some (ap fatal_names same ∙ e))

  -- after a line `raise`
  pub follows_raise : (ports : List P) (desk : DeskSeen) (history : List Executed) (number s : ℕ) (block : List ℕ) (port port' : P) → slice_get ports s ≡ Some port → seen port' ≡ raised block (seen port) → faults port' ≡ faults port → desk.ledger.panic ≡ [] → Follows seen faults machine ports desk history → Follows seen faults machine (slice_set ports s port') (marked number (record desk { blocks = desk.blocks + 1 })) (raise_line number s block ∷ history)
  follows_raise ports desk history number s block port port' at has counts none f =
      let line = raise_line number s block in
      let same : calls_in history ++ [] ≡ calls_in history = append-nil (calls_in history) in
      let empty = none_fatal ports desk history none f in
      let new : Ties (line ∷ history) s port' = λ source is.
      let t = f.tied s source port is at in
      tied_with plan (receive_seen source.receive) s (queue s history) (queue s (line ∷ history)) (calls_in history) (calls_in (line ∷ history)) (fails_in s history) (fails_in s (line ∷ history)) (seen port) (seen port') (faults port) (faults port')
      same (ap (λ p. p.layout) has)
      (ap (λ p. p.made) has ∙ ap (λ xs. xs ++ block ∷ []) t.made_is ∙ ap (λ xs. queue s history ++ xs) (sym (blocks_own s block)))
      (ap (λ p. p.acknowledged) has) (ap (λ p. p.waits) has) (ap (λ p. p.cell) has)
      (omega (arith, t.planned, ap (λ p. p.planned) has)) counts t in
      let old : (t : ℕ) (p : P) → (t ≡ s → ⊥) → slice_get ports t ≡ Some p → Ties (line ∷ history) t p = λ t p differ there source is.
      let t_is = f.tied t source p is there in
      tied_with plan (receive_seen source.receive) t (queue t history) (queue t (line ∷ history)) (calls_in history) (calls_in (line ∷ history)) (fails_in t history) (fails_in t (line ∷ history)) (seen p) (seen p) (faults p) (faults p)
      same refl (t_is.made_is ∙ sym (ap (λ xs. queue t history ++ xs) (blocks_other s t block differ) ∙ append-nil (queue t history))) refl refl refl (omega (arith, t_is.planned)) refl t_is in
      record {
        as_many = length-set ports s port' ∙ f.as_many;
        tied = λ t source p is there. at_set (Ties (line ∷ history)) ports s port' new old t p there source is;
        account = account_still plan history line desk.pending.packets desk.ledger.panic same (append-nil (taken_in history)) (lawful_raise plan number s block history empty (few_of plan history f.account.lines)) f.account;
        tells = tells_more plan history line desk.ledger _ f.tells (sym (append-nil _) ∙ ap (λ xs. desk.ledger.calls ++ xs) (sym (by_source_none plan))) (sym (append-nil _)) (sym (append-nil _)) (sym (append-nil _)) (sym (append-nil _)) refl;
        time = f.time;
        slots = f.slots;
        few = f.few;
        blocks = ap (λ n. n + 1) f.blocks ∙ sym (length-append (blocks_in history) (record { source = s; bytes = block } ∷ []));
        left = left_still history line desk.pending.packets same f.left;
      }

  -- after a line that takes all that is pending, told the account behind it
  follows_taking : (ports : List P) (desk : DeskSeen) (history : List Executed) (asks : Asks) (number : ℕ) → ((time : ℕ) → clock_by asks time ≡ time) → ((s : ℕ) → fails_by s asks ≡ 0) → IsAccount plan (taking_line plan asks number history desk.pending.packets ∷ history) [] desk.ledger.panic → Follows seen faults machine ports desk history → Follows seen faults machine ports (marked number (worked desk)) (taking_line plan asks number history desk.pending.packets ∷ history)
  follows_taking ports desk history asks number still sane account f =
      let line = taking_line plan asks number history desk.pending.packets in
      let old = desk.ledger in
      let is = drained_is desk.clock desk.pending.packets old in
      let same : calls_in history ++ [] ≡ calls_in history = append-nil (calls_in history) in
      let taking : takings 4 desk.clock old.reports desk.pending.packets ≡ line.taken =
      ap (λ t. takings 4 t old.reports desk.pending.packets) f.time ∙ ap (λ xs. takings 4 (clock_after history) xs desk.pending.packets) f.tells.reports in
      let A : _ → Type 0 = λ panic. IsAccount plan (line ∷ history) [] panic in
      record {
        as_many = f.as_many;
        tied = λ t source p here there. tied_still history line t p refl refl (λ other at. f.tied t other p at there) source here;
        account = subst A (sym (ap (λ k. k.panic) is)) account;
        tells = tells_more plan history line old (marked number (worked desk)).ledger f.tells
            (ap (λ k. k.calls) is ∙ sym (append-nil old.calls) ∙ ap (λ xs. old.calls ++ xs) (sym (by_source_none plan)))
            (ap (λ k. k.taken) is ∙ ap (λ xs. old.taken ++ xs) taking)
            (ap (λ k. k.reports) is ∙ ap (λ t. old.reports ++ reports_at t (takings 4 desk.clock old.reports desk.pending.packets)) f.time ∙ ap (λ xs. old.reports ++ reports_at (clock_after history) xs) taking)
            (ap (λ k. k.injections) is ∙ sym (append-nil old.injections))
            (ap (λ k. k.peeks) is ∙ sym (append-nil old.peeks))
            (ap (λ k. k.marks ++ mark_of number (drained desk.clock desk.pending.packets old) ∷ []) is);
        time = f.time ∙ sym (still (clock_after history));
        slots = f.slots;
        few = omega arith;
        blocks = f.blocks ∙ ap length (sym (append-nil (blocks_in history)));
        left = λ some. refl;
      }

  -- after a line `work`
  pub follows_work : (ports : List P) (desk : DeskSeen) (history : List Executed) (number : ℕ) → desk.ledger.panic ≡ [] → Follows seen faults machine ports desk history → Follows seen faults machine ports (marked number (worked desk)) (taking_line plan Drains number history desk.pending.packets ∷ history)
  follows_work ports desk history number none f =
      follows_taking ports desk history Drains number (λ time. refl) (λ s. refl)
      (account_work plan number history desk.pending.packets desk.ledger.panic (none_fatal ports desk history none f) f.account) f

  -- after the end of a script
  pub follows_end : (ports : List P) (desk : DeskSeen) (history : List Executed) → Follows seen faults machine ports desk history → Follows seen faults machine ports (marked 0 (worked desk)) (taking_line plan Ends 0 history desk.pending.packets ∷ history)
  follows_end ports desk history f =
      follows_taking ports desk history Ends 0 (λ time. refl) (λ s. refl)
      (account_end plan 0 history desk.pending.packets desk.ledger.panic f.left f.account) f

  -- after a line that makes no call and no block and takes nothing, told the ties behind it
  follows_quiet : (ports ports' : List P) (desk desk' : DeskSeen) (history : List Executed) (number : ℕ) (note : Note) (peeks : List ℕ) → length ports' ≡ length ports → ((t : ℕ) (source : Source) (p : P) → slice_get machine.sources.items t ≡ Some source → slice_get ports' t ≡ Some p → IsTied plan (receive_seen source.receive) t (queue t history) (calls_in history) (fails_in t history + fails_by t (Quiet note)) (seen p) (faults p)) → desk'.pending ≡ desk.pending → desk'.blocks ≡ desk.blocks → desk'.clock ≡ clock_by (Quiet note) desk.clock → desk'.ledger ≡ record desk.ledger { peeks = peeks } → peeks ≡ desk.ledger.peeks ++ peeked plan history (Quiet note) → desk.ledger.panic ≡ [] → Follows seen faults machine ports desk history → Follows seen faults machine ports' (marked number desk') (quiet_line plan number note history ∷ history)
  follows_quiet ports ports' desk desk' history number note peeks as_many ties pending blocks clock ledger peeks_is none f =
      let line = quiet_line plan number note history in
      let same : calls_in history ++ [] ≡ calls_in history = append-nil (calls_in history) in
      let empty = none_fatal ports desk history none f in
      let account = account_still plan history line desk.pending.packets desk.ledger.panic same (append-nil (taken_in history)) (lawful_quiet plan number note history empty (few_of plan history f.account.lines)) f.account in
      record {
        as_many = as_many ∙ f.as_many;
        tied = λ t source p is there.
            let t_is = ties t source p is there in
            tied_with plan (receive_seen source.receive) t (queue t history) (queue t (line ∷ history)) (calls_in history) (calls_in (line ∷ history)) (fails_in t history + fails_by t (Quiet note)) (fails_in t (line ∷ history)) (seen p) (seen p) (faults p) (faults p)
            same refl (t_is.made_is ∙ sym (append-nil (queue t history))) refl refl refl t_is.planned refl t_is;
        account = subst (λ panic. IsAccount plan (line ∷ history) (marked number desk').pending.packets panic) (sym (ap (λ k. k.panic) ledger)) (subst (λ (q : _). IsAccount plan (line ∷ history) q.packets desk.ledger.panic) (sym pending) account);
        tells = tells_more plan history line desk.ledger _ f.tells
            (ap (λ k. k.calls) ledger ∙ sym (append-nil _) ∙ ap (λ xs. desk.ledger.calls ++ xs) (sym (by_source_none plan)))
            (ap (λ k. k.taken) ledger ∙ sym (append-nil _))
            (ap (λ k. k.reports) ledger ∙ sym (append-nil _))
            (ap (λ k. k.injections) ledger ∙ sym (append-nil _))
            (ap (λ k. k.peeks) ledger ∙ peeks_is)
            (ap (λ k. k.marks ++ mark_of number desk'.ledger ∷ []) ledger);
        time = clock ∙ ap (clock_by (Quiet note)) f.time;
        slots = ap (λ q. q.slots) pending ∙ f.slots;
        few = subst (λ (q : _). length q.packets ≤ machine.slots) (sym pending) f.few;
        blocks = blocks ∙ f.blocks ∙ ap length (sym (append-nil (blocks_in history)));
        left = subst (λ (q : _). (fatal_names (calls_in (line ∷ history)) ≡ [] → ⊥) → q.packets ≡ []) (sym pending) (left_still history line desk.pending.packets same f.left);
      }

  -- ties that hold of more accesses to fail
  ties_more : (ports : List P) (desk : DeskSeen) (history : List Executed) (asks : Asks) → Follows seen faults machine ports desk history → (t : ℕ) (source : Source) (p : P) → slice_get machine.sources.items t ≡ Some source → slice_get ports t ≡ Some p → IsTied plan (receive_seen source.receive) t (queue t history) (calls_in history) (fails_in t history + fails_by t asks) (seen p) (faults p)
  ties_more ports desk history asks f t source p is there =
      let t_is = f.tied t source p is there in
      tied_with plan (receive_seen source.receive) t (queue t history) (queue t history) (calls_in history) (calls_in history) (fails_in t history) (fails_in t history + fails_by t asks) (seen p) (seen p) (faults p) (faults p)
      refl refl t_is.made_is refl refl refl (omega (arith, t_is.planned)) refl t_is

  -- after a setting
  pub follows_setting : (ports : List P) (desk : DeskSeen) (history : List Executed) (number : ℕ) → desk.ledger.panic ≡ [] → Follows seen faults machine ports desk history → Follows seen faults machine ports (marked number desk) (quiet_line plan number Setting history ∷ history)
  follows_setting ports desk history number none f = follows_quiet ports ports desk desk history number Setting desk.ledger.peeks refl (ties_more ports desk history (Quiet Setting) f) refl refl refl refl (sym (append-nil _)) none f

  -- after a line `clock`
  pub follows_clock : (ports : List P) (desk : DeskSeen) (history : List Executed) (number time : ℕ) → desk.ledger.panic ≡ [] → Follows seen faults machine ports desk history → Follows seen faults machine ports (marked number (record desk { clock = time })) (quiet_line plan number (Clock time) history ∷ history)
  follows_clock ports desk history number time none f = follows_quiet ports ports desk (record desk { clock = time }) history number (Clock time) desk.ledger.peeks refl (ties_more ports desk history (Quiet (Clock time)) f) refl refl refl refl (sym (append-nil _)) none f

  -- after a line `peek`
  pub follows_peek : (ports : List P) (desk : DeskSeen) (history : List Executed) (number s : ℕ) (source : Source) (port : P) → slice_get machine.sources.items s ≡ Some source → slice_get ports s ≡ Some port → desk.ledger.panic ≡ [] → Follows seen faults machine ports desk history → Follows seen faults machine ports (marked number (record desk { ledger = record desk.ledger { peeks = desk.ledger.peeks ++ (seen port).cell ∷ [] } })) (quiet_line plan number (Peek s) history ∷ history)
  follows_peek ports desk history number s source port is there none f =
      follows_quiet ports ports desk (record desk { ledger = record desk.ledger { peeks = desk.ledger.peeks ++ (seen port).cell ∷ [] } }) history number (Peek s) (desk.ledger.peeks ++ (seen port).cell ∷ []) refl (ties_more ports desk history (Quiet (Peek s)) f) refl refl refl refl
      (ap (λ n. desk.ledger.peeks ++ n ∷ []) (f.tied s source port is there).cell_is) none f

  -- after a line `fail`
  pub follows_fail : (ports : List P) (desk : DeskSeen) (history : List Executed) (number s : ℕ) (port port' : P) → slice_get ports s ≡ Some port → IsPlanned (seen port) (seen port') → faults port' ≡ faults port → desk.ledger.panic ≡ [] → Follows seen faults machine ports desk history → Follows seen faults machine (slice_set ports s port') (marked number desk) (quiet_line plan number (Fail s) history ∷ history)
  follows_fail ports desk history number s port port' there planned counts none f =
      let asks : Asks = Quiet (Fail s) in
      let one : fails_by s asks ≡ 1 = ap (λ b. cond b 1 0) (eq-eqb s s refl) in
      let Q : ℕ → P → Type 0 = λ t p. (source : Source) → slice_get machine.sources.items t ≡ Some source → IsTied plan (receive_seen source.receive) t (queue t history) (calls_in history) (fails_in t history + fails_by t asks) (seen p) (faults p) in
      let new : Q s port' = λ source is.
      let t = f.tied s source port is there in
      tied_with plan (receive_seen source.receive) s (queue s history) (queue s history) (calls_in history) (calls_in history) (fails_in s history) (fails_in s history + fails_by s asks) (seen port) (seen port') (faults port) (faults port')
      refl (ap (λ p. p.layout) planned.kept) (ap (λ p. p.made) planned.kept ∙ t.made_is) (ap (λ p. p.acknowledged) planned.kept) (ap (λ p. p.waits) planned.kept) (ap (λ p. p.cell) planned.kept)
      (omega (arith, planned.more, t.planned, one)) counts t in
      follows_quiet ports (slice_set ports s port') desk desk history number (Fail s) desk.ledger.peeks (length-set ports s port')
      (λ t source p is p_there. at_set Q ports s port' new (λ r y differ y_there other at. ties_more ports desk history asks f r other y at y_there) t p p_there source is)
      refl refl refl refl (sym (append-nil _)) none f

-- an injection that made a block, and one that made none
abbrev pub made_line : ℕ → ℕ → List ℕ → ℕ → Executed
made_line number s block seq = record { act = record { number = number; asks = Injects }; made = record { source = s; bytes = block } ∷ []; calls = []; ends = InjectionMade s seq ∷ []; peeks = []; taken = [] }

abbrev pub ended_line : ℕ → InjectionEnd → Executed
ended_line number end = record { act = record { number = number; asks = Injects }; made = []; calls = []; ends = end ∷ []; peeks = []; taken = [] }

lawful_made : (p : Plan) (number s : ℕ) (block : List ℕ) (seq : ℕ) (before : List Executed) → seq ≡ length (queue s before) + 1 → fatal_names (calls_in before) ≡ [] → ((t : ℕ) → length (faulty_calls t (calls_in before)) ≤ fails_in t before) → IsLawfulLine p before (made_line number s block seq)
lawful_made p number s block seq before next none few = record {
  stops = none;
  makes = (InjectionMade s seq, refl, (block, refl, next));
  peeks = refl;
  calls = refl;
  each_call = tt;
  room = tt;
  looks = λ c. tt;
  faults = λ t. subst (λ cs. length (faulty_calls t cs) ≤ fails_in t before) (sym (append-nil (calls_in before))) (few t);
  takes = refl;
  told = tt;
  images = tt;
}

at_end : (before : List Executed) (end : InjectionEnd) → IsWithoutBlock end → MadeAtEnd before [] end
at_end before (InjectionMade s seq) none = absurd none
at_end before NotAvailable none = refl
at_end before Busy none = refl
at_end before (Status value) none = refl
at_end before (Trigger reason) none = refl
at_end before NoAddress none = refl

lawful_ended : (p : Plan) (number : ℕ) (end : InjectionEnd) (before : List Executed) → IsWithoutBlock end → fatal_names (calls_in before) ≡ [] → ((t : ℕ) → length (faulty_calls t (calls_in before)) ≤ fails_in t before) → IsLawfulLine p before (ended_line number end)
lawful_ended p number end before none_made none few = record {
  stops = none;
  makes = (end, refl, at_end before end none_made);
  peeks = refl;
  calls = refl;
  each_call = tt;
  room = tt;
  looks = λ c. tt;
  faults = λ t. subst (λ cs. length (faulty_calls t cs) ≤ fails_in t before) (sym (append-nil (calls_in before))) (few t);
  takes = refl;
  told = tt;
  images = tt;
}

abbrev pub with_end : InjectionEnd → DeskSeen → DeskSeen
with_end end desk = record desk { ledger = record desk.ledger { injections = desk.ledger.injections ++ end ∷ [] } }

module _ {P : Type 0} (seen : P → Seen) (faults : P → ℕ) (machine : Machine) where
  -- after an injection that made no block
  pub follows_ended : (ports : List P) (desk : DeskSeen) (history : List Executed) (number : ℕ) (end : InjectionEnd) → IsWithoutBlock end → desk.ledger.panic ≡ [] → Follows seen faults machine ports desk history → Follows seen faults machine ports (marked number (with_end end desk)) (ended_line number end ∷ history)
  follows_ended ports desk history number end none_made none f =
      let plan = plan_of machine in
      let line = ended_line number end in
      let same : calls_in history ++ [] ≡ calls_in history = append-nil (calls_in history) in
      let empty = none_fatal seen faults machine ports desk history none f in
      record {
        as_many = f.as_many;
        tied = λ t source p here there. tied_still seen faults machine history line t p refl refl (λ other at. f.tied t other p at there) source here;
        account = account_still plan history line desk.pending.packets desk.ledger.panic same (append-nil (taken_in history)) (lawful_ended plan number end history none_made empty (few_of plan history f.account.lines)) f.account;
        tells = tells_more plan history line desk.ledger _ f.tells (sym (append-nil _) ∙ ap (λ xs. desk.ledger.calls ++ xs) (sym (by_source_none plan))) (sym (append-nil _)) (sym (append-nil _)) refl (sym (append-nil _)) refl;
        time = f.time;
        slots = f.slots;
        few = f.few;
        blocks = f.blocks ∙ ap length (sym (append-nil (blocks_in history)));
        left = left_still seen faults machine history line desk.pending.packets same f.left;
      }

  -- after an injection that made a block: what is raised for its source
  pub follows_made : (ports : List P) (desk : DeskSeen) (history : List Executed) (number s : ℕ) (block : List ℕ) (seq : ℕ) (port port' : P) → slice_get ports s ≡ Some port → (source : Source) → slice_get machine.sources.items s ≡ Some source → seq ≡ length (seen port).made + 1 → seen port' ≡ raised block (seen port) → faults port' ≡ faults port → desk.ledger.panic ≡ [] → Follows seen faults machine ports desk history → Follows seen faults machine (slice_set ports s port') (marked number (with_end (InjectionMade s seq) (record desk { blocks = desk.blocks + 1 }))) (made_line number s block seq ∷ history)
  follows_made ports desk history number s block seq port port' at source source_at next has counts none f =
      let plan = plan_of machine in
      let line = made_line number s block seq in
      let same : calls_in history ++ [] ≡ calls_in history = append-nil (calls_in history) in
      let empty = none_fatal seen faults machine ports desk history none f in
      let raise = follows_raise seen faults machine ports desk history number s block port port' at has counts none f in
      let following : seq ≡ length (queue s history) + 1 = next ∙ ap (λ xs. length xs + 1) (f.tied s source port source_at at).made_is in
      record {
        as_many = raise.as_many;
        tied = raise.tied;
        account = account_still plan history line desk.pending.packets desk.ledger.panic same (append-nil (taken_in history)) (lawful_made plan number s block seq history following empty (few_of plan history f.account.lines)) f.account;
        tells = tells_more plan history line desk.ledger _ f.tells (sym (append-nil _) ∙ ap (λ xs. desk.ledger.calls ++ xs) (sym (by_source_none plan))) (sym (append-nil _)) (sym (append-nil _)) refl (sym (append-nil _)) refl;
        time = f.time;
        slots = f.slots;
        few = f.few;
        blocks = raise.blocks;
        left = left_still seen faults machine history line desk.pending.packets same f.left;
      }
