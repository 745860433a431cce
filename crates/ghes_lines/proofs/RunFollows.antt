-- A history and what it leads to go on by a line `run`.
use Rattle.std.proofs.Common.{◌≡◌, ◌≤◌, ℕ, ◌+◌, Bool, true, false, cond, eqb, ltb, ◌&&◌, ◌||◌, inl, inr, List, [], ◌∷◌, ◌++◌, map, length, take, refl, sym, ap, subst, ◌∙◌, arith, append-nil, append_assoc, Option, Some, None}
use Rattle.std.specs.Prelude.{filter, slice_get}
use Rattle.std.specs.List.{flat_map, range_with_len, AllByRecursion}
use Rattle.std.proofs.lemmas.Bool.{eq-eqb, ne_eqb, cases_eq}
use Rattle.std.proofs.lemmas.List.{length-append, take_at}
use Rattle.std.proofs.lemmas.List.Concat.{flat_map-append}
use Rattle.std.proofs.lemmas.List.Elements.{filter-append}
use Rattle.apei_base.specs.Firmware.{Seen}
use Rattle.cper_block.specs.Image.{image_of, image_reason}
use Rattle.cper_block.specs.declared.malformed.Malformed.{Malformed as Reason}
use Rattle.ghes_call.specs.Packet.{PacketSeen}
use Rattle.ghes_call.specs.Receive.{ReceiveSeen}
use Rattle.ghes_call.specs.declared.call.AckState.TheVariants.{NotAsked}
use Rattle.ghes_call.specs.declared.call.Call.{Call}
use Rattle.ghes_call.specs.declared.call.Outcome.{Outcome}
use Rattle.ghes_call.specs.declared.call.Outcome.TheVariants.{Nothing, Queued, Malformed, Duplicate, Fatal, NoSlot, Fault, Stopped}
use Rattle.ghes_call.specs.declared.call.Reply.{Reply}
use Rattle.ghes_ledger.proofs.RunLemmas.{with_more, each_call-push, calls_push, FitsLookAt, looks_of, run_line}
use Rattle.ghes_ledger.proofs.WorkLemmas.{takings, told-takings, images-takings}
use Rattle.ghes_ledger.specs.Asks.{Calls}
use Rattle.ghes_ledger.specs.History.{Executed, calls_in, taken_in, on_source, by_source, of_context, clock_after, Each, EachCall}
use Rattle.ghes_ledger.specs.Kept.{Kept, mark_of}
use Rattle.ghes_ledger.specs.Lawful.{IsAsked, FitsBlock, FitsSlots, FitsStop, FitsHit, FitsLook, Looks, TakesAll, IsImageIn, IsLawfulCall, IsLawfulLine}
use Rattle.ghes_ledger.specs.Names.{panic_packet, name_of, queued_names, fatal_names, taken_names, panic_names, waiting, served_by}
use Rattle.ghes_ledger.specs.Outcomes.{number_of, pending_number, fatal_number, acknowledges, is_fault, is_failed}
use Rattle.ghes_ledger.specs.Plan.{Plan}
use Rattle.ghes_ledger.specs.Queue.{block_at, number_by, queue, numbers_of, acknowledged, stuck_calls, faulty_calls, fails_in, standing}
use Rattle.ghes_ledger.specs.Reports.{hit, reports_in, reports_at}
use Rattle.ghes_ledger.specs.Turns.{AreTurns}
use Rattle.ghes_ledger.specs.declared.ledger.Mark.{Mark}
use Rattle.ghes_ledger.specs.declared.ledger.PanicEntry.{PanicEntry}
use Rattle.ghes_ledger.specs.declared.ledger.Report.{Report}
use Rattle.ghes_ledger.specs.declared.ledger.Taken.{Taken}
use Rattle.ghes_nmi.specs.Receive.{receive_seen}
use Rattle.ghes_desk.specs.Call.{stopped_reply}
use Rattle.ghes_desk.specs.Desk.{DeskSeen, drained, worked, marked, entered_on, entered_by}
use Rattle.ghes_lines.specs.Follows.{blocks_in, IsTied, IsAccount, Follows}
use Rattle.ghes_lines.specs.Machine.{plan_of}
use Rattle.ghes_lines.specs.Midway.{in_order, line_by_line, IsStopped, with_lists, moved_to, IsMidway}
use Rattle.ghes_lines.specs.declared.machine.Machine.{Machine}
use Rattle.ghes_lines.specs.declared.machine.Source.{Source}
use Rattle.ghes_lines.proofs.FollowsLemmas.{none_fatal, tied_with}
use Rattle.ghes_lines.proofs.LineLemmas.{few_of, names_now, drained_is, tells_more}
use Rattle.ghes_lines.proofs.MidwayLemmas.{calls_line, taken_line, queue_line, clock_line, reports_line, fails_line}
use Rattle.ghes_lines.proofs.TiedLemmas.{tied_other, tied_same}

-- What calls behind a fatal one leave alone

module _ (plan : Plan) (before : List Executed) where
  -- a list that they do not make longer
  flat_stops : {A : Type 0} (f : Call → List A) → ((call : Call) → IsStopped plan before call → f call ≡ []) → (past made stops : List Call) → AllByRecursion (IsStopped plan before) stops → flat_map f (past ++ in_order (stops ++ made)) ≡ flat_map f (past ++ in_order made)
  flat_stops f none past made [] all = refl
  flat_stops f none past made (call ∷ stops) all =
      let rest = in_order (stops ++ made) in
      ap (flat_map f) (sym (append_assoc past rest (call ∷ []))) ∙ flat_map-append f (past ++ rest) (call ∷ [])
      ∙ ap (λ xs. flat_map f (past ++ rest) ++ xs) (append-nil (f call) ∙ none call all.0) ∙ append-nil _
      ∙ flat_stops f none past made stops all.1

  filter_stops : (test : Call → Bool) → ((call : Call) → IsStopped plan before call → test call ≡ false) → (past made stops : List Call) → AllByRecursion (IsStopped plan before) stops → filter test (past ++ in_order (stops ++ made)) ≡ filter test (past ++ in_order made)
  filter_stops test none past made [] all = refl
  filter_stops test none past made (call ∷ stops) all =
      let rest = in_order (stops ++ made) in
      ap (filter test) (sym (append_assoc past rest (call ∷ []))) ∙ filter-append test (past ++ rest) (call ∷ [])
      ∙ ap (λ b. filter test (past ++ rest) ++ cond b (call ∷ []) []) (none call all.0) ∙ append-nil _
      ∙ filter_stops test none past made stops all.1

  no_number : (s : ℕ) (call : Call) → IsStopped plan before call → number_by s call ≡ []
  no_number s call is = ap (λ (r : Reply). cond (eqb call.source s) (number_of r.outcome) []) is.reply_is ∙ either_none (eqb call.source s) where
    no_numbers : List ℕ
    no_numbers = []

    either_none : (b : Bool) → cond b [] [] ≡ no_numbers
    either_none true = refl
    either_none false = refl

  is_sane : (s : ℕ) (call : Call) → IsStopped plan before call → eqb call.source s && (is_fault call.reply.outcome || is_failed call.reply.ack) ≡ false
  is_sane s call is = ap (λ (r : Reply). eqb call.source s && (is_fault r.outcome || is_failed r.ack)) is.reply_is ∙ and_none (eqb call.source s) where
    and_none : (b : Bool) → b && false ≡ false
    and_none true = refl
    and_none false = refl

  same_numbers : (s : ℕ) (past made stops : List Call) → AllByRecursion (IsStopped plan before) stops → numbers_of s (past ++ in_order (stops ++ made)) ≡ numbers_of s (past ++ in_order made)
  same_numbers s past made stops all = flat_stops (number_by s) (no_number s) past made stops all

  same_queued : (past made stops : List Call) → AllByRecursion (IsStopped plan before) stops → queued_names (past ++ in_order (stops ++ made)) ≡ queued_names (past ++ in_order made)
  same_queued past made stops all = flat_stops {A = ℕ × ℕ} (λ call. map (λ m. (call.source, m)) (pending_number call.reply.outcome)) (λ call is. ap (λ (r : Reply). map (λ m. (call.source, m)) (pending_number r.outcome)) is.reply_is) past made stops all

  same_fatal : (past made stops : List Call) → AllByRecursion (IsStopped plan before) stops → fatal_names (past ++ in_order (stops ++ made)) ≡ fatal_names (past ++ in_order made)
  same_fatal past made stops all = flat_stops {A = ℕ × ℕ} (λ call. map (λ m. (call.source, m)) (fatal_number call.reply.outcome)) (λ call is. ap (λ (r : Reply). map (λ m. (call.source, m)) (fatal_number r.outcome)) is.reply_is) past made stops all

  same_faulty : (s : ℕ) (past made stops : List Call) → AllByRecursion (IsStopped plan before) stops → faulty_calls s (past ++ in_order (stops ++ made)) ≡ faulty_calls s (past ++ in_order made)
  same_faulty s past made stops all = filter_stops _ (is_sane s) past made stops all

  -- the memory of each source
  tied_stop : (receive : ReceiveSeen) (s : ℕ) (made : List (List ℕ)) (past : List Call) (fails : ℕ) (port : Seen) (faults : ℕ) (call : Call) → IsStopped plan before call → IsTied plan receive s made past fails port faults → IsTied plan receive s made (past ++ call ∷ []) fails port faults
  tied_stop receive s made past fails port faults call is t = elim (cases_eq call.source s) [
    | inl same ↦
        let own : record { context = call.context; source = s; now = call.now; reply = stopped_reply } ≡ call =
        ap (λ n. record { context = call.context; source = n; now = call.now; reply = stopped_reply }) (sym same)
        ∙ ap (λ r. record { context = call.context; source = call.source; now = call.now; reply = r }) (sym is.reply_is) in
        subst (λ (c : Call). IsTied plan receive s made (past ++ c ∷ []) fails port faults) own
        (tied_same plan receive s call.context call.now made past fails port port faults faults Stopped NotAsked refl refl refl (omega arith) t)
    | inr differ ↦ tied_other plan receive s made past fails port faults call (ne_eqb call.source s differ) t
  ]

  tied_stops : (receive : ReceiveSeen) (s : ℕ) (blocks : List (List ℕ)) (past : List Call) (fails : ℕ) (port : Seen) (faults : ℕ) (made stops : List Call) → AllByRecursion (IsStopped plan before) stops → IsTied plan receive s blocks (past ++ in_order made) fails port faults → IsTied plan receive s blocks (past ++ in_order (stops ++ made)) fails port faults
  tied_stops receive s blocks past fails port faults made [] all t = t
  tied_stops receive s blocks past fails port faults made (call ∷ stops) all t =
      subst (λ xs. IsTied plan receive s blocks xs fails port faults) (append_assoc past (in_order (stops ++ made)) (call ∷ []))
      (tied_stop receive s blocks (past ++ in_order (stops ++ made)) fails port faults call all.0 (tied_stops receive s blocks past fails port faults made stops all.1 t))

-- Each call of the line is lawful

look_stop : (k limit now : ℕ) (reports : List Report) (stands : Option (List ℕ)) → FitsLook k limit stands reports now Stopped
look_stop k limit now reports None = tt
look_stop k limit now reports (Some block) = stop_hits (image_reason limit block) (hit k reports (image_of limit block) now) where
  stop_hits : (reason : Option Reason) (found : Option ℕ) → FitsHit reason found Stopped
  stop_hits None found = tt
  stop_hits (Some reason) found = tt

module _ (plan : Plan) (number n : ℕ) (before : List Executed) (pending : List PacketSeen) where
  abbrev so_far : List Call → List Executed
  so_far made = line_by_line number before made

  abbrev line_of : List Call → Executed
  line_of calls = run_line plan number n before calls pending

  stands_line : (s : ℕ) (older : List Call) → standing s (so_far older) (calls_in (so_far older)) ≡ standing s before (calls_in before ++ in_order older)
  stands_line s older =
      let past = calls_in before ++ in_order older in
      ap (λ xs. standing s (so_far older) xs) (calls_line number before older)
      ∙ ap (λ q. cond (ltb 0 (length (stuck_calls s past))) None (slice_get q (acknowledged s past))) (queue_line number before s older)

  slots_here : (call : Call) (older : List Call) (outcome : Outcome) → FitsSlots plan (so_far older) (record { act = record { number = number; asks = Calls call.source }; made = []; calls = call ∷ []; ends = []; peeks = []; taken = [] }) outcome → FitsSlots plan before (with_more (line_of (in_order older)) (call ∷ [])) outcome
  slots_here call older NoSlot fits =
      let test : Call → Bool = λ c. is_fault c.reply.outcome in
      let taken = ap length (taken_line number before older) in
      let queued = ap (λ xs. length (queued_names xs)) (calls_line number before (call ∷ older)) in
      let faults : length (filter test (in_order older ++ call ∷ [])) ≡ length (filter test (in_order older)) + length (filter test (call ∷ [])) =
      ap length (filter-append test (in_order older) (call ∷ [])) ∙ length-append (filter test (in_order older)) (filter test (call ∷ [])) in
      omega (arith, fits, taken, queued, faults)
  slots_here call older Nothing fits = tt
  slots_here call older (Queued m) fits = tt
  slots_here call older (Malformed m reason) fits = tt
  slots_here call older (Duplicate m report) fits = tt
  slots_here call older (Fatal m) fits = tt
  slots_here call older Fault fits = tt
  slots_here call older Stopped fits = tt

  stop_here : (call : Call) (older : List Call) (outcome : Outcome) → FitsStop (record { act = record { number = number; asks = Calls call.source }; made = []; calls = call ∷ []; ends = []; peeks = []; taken = [] }) outcome → FitsStop (with_more (line_of (in_order older)) (call ∷ [])) outcome
  stop_here call older Stopped fits =
      let fatal : length (fatal_names (in_order older ++ call ∷ [])) ≡ length (fatal_names (in_order older)) + length (fatal_names (call ∷ [])) =
      ap length (flat_map-append _ (in_order older) (call ∷ [])) ∙ length-append (fatal_names (in_order older)) (fatal_names (call ∷ [])) in
      omega (arith, fits, fatal)
  stop_here call older Nothing fits = tt
  stop_here call older (Queued m) fits = tt
  stop_here call older (Malformed m reason) fits = tt
  stop_here call older (Duplicate m report) fits = tt
  stop_here call older (Fatal m) fits = tt
  stop_here call older NoSlot fits = tt
  stop_here call older Fault fits = tt

  lawful_here : (call : Call) (older : List Call) → Each (IsLawfulLine plan) (so_far (call ∷ older)) → IsLawfulCall plan before (with_more (line_of (in_order older)) (call ∷ [])) (calls_in before ++ in_order older) call
  lawful_here call older lines =
      let l = lines.1.each_call.0 in
      record {
        by = record { source = l.by.source; context = l.by.context; contexts = l.by.contexts; now = l.by.now ∙ clock_line number before older };
        made = subst (λ (xs : List (List ℕ)). AllByRecursion (λ m. m ≤ length xs) (number_of call.reply.outcome)) (queue_line number before call.source older) l.made;
        asked = l.asked;
        block = subst (λ (s : Option (List ℕ)). FitsBlock (plan.limit call.source) s call.reply.outcome) (stands_line call.source older) l.block;
        slots = slots_here call older call.reply.outcome l.slots;
        stop = stop_here call older call.reply.outcome l.stop;
      }

  look_here : (call : Call) (older : List Call) → Each (IsLawfulLine plan) (so_far (call ∷ older)) → FitsLookAt plan before (reports_in before) (calls_in before ++ in_order older) call
  look_here call older lines =
      let past = calls_in (so_far older) in
      let old = reports_in (so_far older) in
      let own : of_context call.context (call ∷ []) ≡ call ∷ [] = ap (λ b. cond b (call ∷ []) []) (eq-eqb call.context call.context refl) in
      let looks : Looks plan (so_far older) (old ++ []) (length old) past (call ∷ []) = subst (λ xs. Looks plan (so_far older) (old ++ []) (length old) past xs) own (lines.1.looks call.context) in
      let sees : looks.0 ≡ length old = omega (arith, looks.1, looks.2, length-append old no_reports) in
      let these : take looks.0 (old ++ []) ≡ reports_in before = ap (λ k. take k (old ++ [])) sees ∙ take_at old [] (length old) refl ∙ reports_line number before older in
      subst (λ (s : Option (List ℕ)). FitsLook plan.places (plan.limit call.source) s (reports_in before) call.now call.reply.outcome) (stands_line call.source older)
      (subst (λ (reports : List Report). FitsLook plan.places (plan.limit call.source) (standing call.source (so_far older) past) reports call.now call.reply.outcome) these looks.3) where
        no_reports : List Report
        no_reports = []

  each_made : (made : List Call) → Each (IsLawfulLine plan) (so_far made) → EachCall (IsLawfulCall plan before (line_of (in_order made))) (calls_in before) (in_order made)
  each_made [] lines = tt
  each_made (call ∷ older) lines = calls_push plan before (line_of (in_order older)) call (each_made older lines.0) (lawful_here call older lines)

  looks_made : (made : List Call) → Each (IsLawfulLine plan) (so_far made) → EachCall (FitsLookAt plan before (reports_in before)) (calls_in before) (in_order made)
  looks_made [] lines = tt
  looks_made (call ∷ older) lines = each_call-push (FitsLookAt plan before (reports_in before)) (calls_in before) (in_order older) call (looks_made older lines.0) (look_here call older lines)

  lawful_stop : (calls : List Call) (call : Call) → 1 ≤ length (fatal_names calls) → IsStopped plan before call → IsLawfulCall plan before (with_more (line_of calls) (call ∷ [])) (calls_in before ++ calls) call
  lawful_stop calls call some is =
      let fatal : length (fatal_names (calls ++ call ∷ [])) ≡ length (fatal_names calls) + length (fatal_names (call ∷ [])) =
      ap length (flat_map-append _ calls (call ∷ [])) ∙ length-append (fatal_names calls) (fatal_names (call ∷ [])) in
      let more : 1 ≤ length (fatal_names (calls ++ call ∷ [])) = omega (arith, some, fatal) in
      let line = with_more (line_of calls) (call ∷ []) in
      record {
        by = is.by;
        made = subst (λ (r : Reply). AllByRecursion (λ m. m ≤ length (queue call.source before)) (number_of r.outcome)) (sym is.reply_is) tt;
        asked = subst (λ (r : Reply). IsAsked (acknowledges r.outcome && plan.has_ack call.source) r.ack) (sym is.reply_is) refl;
        block = subst (λ (r : Reply). FitsBlock (plan.limit call.source) (standing call.source before (calls_in before ++ calls)) r.outcome) (sym is.reply_is) tt;
        slots = subst (λ (r : Reply). FitsSlots plan before line r.outcome) (sym is.reply_is) tt;
        stop = subst (λ (r : Reply). FitsStop line r.outcome) (sym is.reply_is) more;
      }

  each_stop : (made stops : List Call) → AllByRecursion (IsStopped plan before) stops → ((stops ≡ [] → ⊥) → 1 ≤ length (fatal_names (in_order made))) → EachCall (IsLawfulCall plan before (line_of (in_order made))) (calls_in before) (in_order made) → EachCall (IsLawfulCall plan before (line_of (in_order (stops ++ made)))) (calls_in before) (in_order (stops ++ made))
  each_stop made [] all some each = each
  each_stop made (call ∷ stops) all some each =
      let rest = in_order (stops ++ made) in
      let same : fatal_names rest ≡ fatal_names (in_order made) = same_fatal plan before [] made stops all.1 in
      let fatal : 1 ≤ length (fatal_names (in_order made)) = some (λ none. let never : call ∷ stops ≡ [] = none in absurd cc) in
      calls_push plan before (line_of rest) call (each_stop made stops all.1 (λ left. fatal) each)
      (lawful_stop rest call (omega (arith, fatal, ap length same)) all.0)

  looks_stop : (made stops : List Call) → AllByRecursion (IsStopped plan before) stops → EachCall (FitsLookAt plan before (reports_in before)) (calls_in before) (in_order made) → EachCall (FitsLookAt plan before (reports_in before)) (calls_in before) (in_order (stops ++ made))
  looks_stop made [] all each = each
  looks_stop made (call ∷ stops) all each =
      let rest = in_order (stops ++ made) in
      let stands = standing call.source before (calls_in before ++ rest) in
      each_call-push (FitsLookAt plan before (reports_in before)) (calls_in before) rest call (looks_stop made stops all.1 each)
      (subst (λ (r : Reply). FitsLook plan.places (plan.limit call.source) stands (reports_in before) call.now r.outcome) (sym all.0.reply_is)
      (look_stop plan.places (plan.limit call.source) call.now (reports_in before) stands))

-- The line and what holds behind it

contexts_of : (plan : Plan) (before : List Executed) (line : Executed) (past calls : List Call) → EachCall (IsLawfulCall plan before line) past calls → AllByRecursion (λ call. call.context ≡ plan.server call.source) calls
contexts_of plan before line past [] all = tt
contexts_of plan before line past (call ∷ calls) all = (all.0.by.context, contexts_of plan before line (past ++ call ∷ []) calls all.1)

-- images of blocks that were made in another history too
image_moved : (plan : Plan) (history other : List Executed) (packet : PacketSeen) → ((s : ℕ) → queue s history ≡ queue s other) → IsImageIn plan history packet → IsImageIn plan other packet
image_moved plan history other packet same i = record { block = i.block; at = ap (block_at packet.seq) (sym (same packet.source)) ∙ i.at; bytes = i.bytes; reason = i.reason }

images_moved : (plan : Plan) (history other : List Executed) (packets : List PacketSeen) → ((s : ℕ) → queue s history ≡ queue s other) → AllByRecursion (IsImageIn plan history) packets → AllByRecursion (IsImageIn plan other) packets
images_moved plan history other [] same all = tt
images_moved plan history other (packet ∷ packets) same all = (image_moved plan history other packet same all.0, images_moved plan history other packets same all.1)

panic_moved : (plan : Plan) (history other : List Executed) (panic : List PanicEntry) → ((s : ℕ) → queue s history ≡ queue s other) → AllByRecursion (λ entry. IsImageIn plan history (panic_packet entry)) panic → AllByRecursion (λ entry. IsImageIn plan other (panic_packet entry)) panic
panic_moved plan history other [] same all = tt
panic_moved plan history other (entry ∷ panic) same all = (image_moved plan history other (panic_packet entry) same all.0, panic_moved plan history other panic same all.1)

nil_or_one : {A : Type 0} (xs : List A) → (xs ≡ [] → ⊥) → 1 ≤ length xs
nil_or_one [] some = absurd (some refl)
nil_or_one (x ∷ xs) some = omega arith

-- what came so far, told the desk at the start and what it is now
module _ {P : Type 0} (seen : P → Seen) (faults : P → ℕ) (machine : Machine) (number n : ℕ) (before : List Executed) (start now : DeskSeen) (ports0 ports : List P) (made stops entered : List Call) (marks : List Mark) (is : AllByRecursion (IsStopped (plan_of machine) before) stops) (running : now.ledger.panic ≡ [] → stops ≡ []) (f : Follows seen faults machine ports0 start before) (g : Follows seen faults machine ports (with_lists entered marks (moved_to now start)) (line_by_line number before made)) where
  abbrev plan : Plan
  plan = plan_of machine

  abbrev calls : List Call
  calls = in_order (stops ++ made)

  abbrev past : List Call
  past = calls_in before

  abbrev line : Executed
  line = run_line plan number n before calls now.pending.packets

  abbrev taken_now : List Taken
  taken_now = takings plan.places (clock_after before) (reports_in before) now.pending.packets

  fatal_is : fatal_names (past ++ calls) ≡ fatal_names (calls_in (line_by_line number before made))
  fatal_is = same_fatal plan before past made stops is ∙ ap fatal_names (sym (calls_line number before made))

  queued_is : queued_names (past ++ calls) ≡ queued_names (calls_in (line_by_line number before made))
  queued_is = same_queued plan before past made stops is ∙ ap queued_names (sym (calls_line number before made))

  numbers_are : (s : ℕ) → numbers_of s (past ++ calls) ≡ numbers_of s (calls_in (line_by_line number before made))
  numbers_are s = same_numbers plan before s past made stops is ∙ ap (numbers_of s) (sym (calls_line number before made))

  faulty_is : (s : ℕ) → faulty_calls s (past ++ calls) ≡ faulty_calls s (calls_in (line_by_line number before made))
  faulty_is s = same_faulty plan before s past made stops is ∙ ap (faulty_calls s) (sym (calls_line number before made))

  -- a call was fatal where others were stopped
  fatal_made : fatal_names past ≡ [] → (stops ≡ [] → ⊥) → 1 ≤ length (fatal_names (in_order made))
  fatal_made none some = nil_or_one (fatal_names (in_order made)) (λ empty.
      let all : fatal_names (calls_in (line_by_line number before made)) ≡ [] =
      ap fatal_names (calls_line number before made) ∙ flat_map-append _ past (in_order made) ∙ ap (λ xs. xs ++ fatal_names (in_order made)) none ∙ empty in
      some (running (g.account.no_panic all)))

  order_now : (c : ℕ) → served_by plan c ((taken_names (taken_in before ++ taken_now) ++ []) ++ panic_names (waiting now.ledger.panic)) ≡ served_by plan c (queued_names (past ++ calls))
  order_now c =
      let names : taken_names (taken_in before ++ taken_now) ++ [] ≡ taken_names (taken_in (line_by_line number before made)) ++ map name_of now.pending.packets =
      append-nil _ ∙ names_now plan before now.pending.packets ∙ ap (λ ts. taken_names ts ++ map name_of now.pending.packets) (sym (taken_line number before made)) in
      ap (λ xs. served_by plan c (xs ++ panic_names (waiting now.ledger.panic))) names ∙ g.account.order c ∙ ap (served_by plan c) (sym queued_is)

  takes_now : TakesAll plan (line ∷ before)
  takes_now empty c =
      let none : now.ledger.panic ≡ [] = g.account.no_panic (sym fatal_is ∙ empty) in
      let names = taken_names (taken_in before ++ taken_now) in
      ap (served_by plan c) (sym (append-nil names) ∙ sym (append-nil (names ++ [])))
      ∙ ap (λ xs. served_by plan c ((names ++ []) ++ panic_names (waiting xs))) (sym none) ∙ order_now c

  lawful_now : fatal_names past ≡ [] → AreTurns plan n calls → IsLawfulLine plan before line
  lawful_now none turns =
      let reports = reports_in before in
      let later = reports_at (clock_after before) taken_now in
      let each = each_stop plan number n before now.pending.packets made stops is (fatal_made none) (each_made plan number n before now.pending.packets made g.account.lines) in
      let looks = looks_stop plan number n before now.pending.packets made stops is (looks_made plan number n before now.pending.packets made g.account.lines) in
      let front : reports ≡ take (length reports) (reports ++ later) = sym (take_at reports later (length reports) refl) in
      let looks_now : EachCall (FitsLookAt plan before (take (length reports) (reports ++ later))) past calls = subst (λ (xs : List Report). EachCall (FitsLookAt plan before xs) past calls) front looks in
      record {
        stops = none;
        makes = (refl, refl);
        peeks = refl;
        calls = turns;
        each_call = each;
        room = tt;
        looks = λ c. looks_of plan before (reports ++ later) (length reports) c past past calls (contexts_of plan before line past calls each) (λ s same. refl) (omega (arith, length-append reports later)) looks_now;
        faults = λ s. omega (arith, ap length (faulty_is s), few_of plan (line_by_line number before made) g.account.lines s, fails_line number before s made);
        takes = takes_now;
        told = told-takings plan.places (clock_after before) reports now.pending.packets;
        images = images-takings plan before plan.places (clock_after before) reports now.pending.packets (images_moved plan (line_by_line number before made) before now.pending.packets (λ s. queue_line number before s made) g.account.images);
      }

  account_now : IsLawfulLine plan before line → IsAccount plan (line ∷ before) [] now.ledger.panic
  account_now lawful =
      record {
        lines = (f.account.lines, lawful);
        numbers = λ s. numbers_are s ∙ g.account.numbers s ∙ ap (λ ns. range_with_len 1 (length ns)) (sym (numbers_are s));
        order = order_now;
        images = tt;
        panic_images = panic_moved plan (line_by_line number before made) (line ∷ before) now.ledger.panic (λ s. queue_line number before s made ∙ sym (append-nil (queue s before))) g.account.panic_images;
        panic_order = g.account.panic_order;
        fatal_blocks = g.account.fatal_blocks ∙ sym fatal_is;
        no_panic = λ empty. g.account.no_panic (sym fatal_is ∙ empty);
      }

  tied_now : (s : ℕ) (source : Source) (port : P) → slice_get machine.sources.items s ≡ Some source → slice_get ports s ≡ Some port → IsTied plan (receive_seen source.receive) s (queue s (line ∷ before)) (past ++ calls) (fails_in s (line ∷ before)) (seen port) (faults port)
  tied_now s source port at there =
      let t = g.tied s source port at there in
      let history = line_by_line number before made in
      tied_stops plan before (receive_seen source.receive) s (queue s (line ∷ before)) past (fails_in s (line ∷ before)) (seen port) (faults port) made stops is
      (tied_with plan (receive_seen source.receive) s (queue s history) (queue s (line ∷ before)) (calls_in history) (past ++ in_order made) (fails_in s history) (fails_in s (line ∷ before)) (seen port) (seen port) (faults port) (faults port)
      (sym (calls_line number before made)) refl (t.made_is ∙ queue_line number before s made ∙ sym (append-nil (queue s before))) refl refl refl (omega (arith, t.planned, fails_line number before s made)) refl t)

  -- behind the line
  abbrev entered_now : DeskSeen
  entered_now = let desk = moved_to now start in record desk { ledger = record desk.ledger { calls = desk.ledger.calls ++ by_source plan calls } }

  pub follows_run : start.ledger.panic ≡ [] → AreTurns plan n calls → Follows seen faults machine ports (marked number (worked entered_now)) (line ∷ before)
  follows_run none turns =
      let packets = now.pending.packets in
      let old = entered_now.ledger in
      let drain_is = drained_is start.clock packets old in
      let taking : takings 4 start.clock old.reports packets ≡ taken_now =
      ap (λ t. takings 4 t old.reports packets) f.time ∙ ap (λ xs. takings 4 (clock_after before) xs packets) f.tells.reports in
      let account = account_now (lawful_now (none_fatal seen faults machine ports0 start before none f) turns) in
      let A : _ → Type 0 = λ panic. IsAccount plan (line ∷ before) [] panic in
      record {
        as_many = g.as_many;
        tied = tied_now;
        account = subst A (sym (ap (λ k. k.panic) drain_is)) account;
        tells = tells_more plan before line start.ledger (marked number (worked entered_now)).ledger f.tells
            (ap (λ k. k.calls) drain_is)
            (ap (λ k. k.taken) drain_is ∙ ap (λ xs. old.taken ++ xs) taking)
            (ap (λ k. k.reports) drain_is ∙ ap (λ t. old.reports ++ reports_at t (takings 4 start.clock old.reports packets)) f.time ∙ ap (λ xs. old.reports ++ reports_at (clock_after before) xs) taking)
            (ap (λ k. k.injections) drain_is ∙ sym (append-nil old.injections))
            (ap (λ k. k.peeks) drain_is ∙ sym (append-nil old.peeks))
            (ap (λ k. k.marks ++ mark_of number (drained start.clock packets old) ∷ []) drain_is);
        time = f.time;
        slots = g.slots;
        few = omega arith;
        blocks = f.blocks ∙ ap length (sym (append-nil (blocks_in before)));
        left = λ some. refl;
      }

-- the calls of a line, entered source by source
abbrev with_calls : List Call → Kept → Kept
with_calls xs kept = record kept { calls = xs }

one_on : (b : Bool) (s : ℕ) (call : Call) (xs : List Call) (kept : Kept) → ((k : Kept) → entered_on s xs k ≡ with_calls (k.calls ++ on_source s xs) k) → entered_on s xs (cond b (with_calls (kept.calls ++ call ∷ []) kept) kept) ≡ with_calls (kept.calls ++ cond b (call ∷ on_source s xs) (on_source s xs)) kept
one_on true s call xs kept later = later (with_calls (kept.calls ++ call ∷ []) kept) ∙ ap (λ ys. with_calls ys kept) (append_assoc kept.calls (call ∷ []) (on_source s xs))
one_on false s call xs kept later = later kept

on_is : (s : ℕ) (xs : List Call) (kept : Kept) → entered_on s xs kept ≡ with_calls (kept.calls ++ on_source s xs) kept
on_is s [] kept = ap (λ ys. with_calls ys kept) (sym (append-nil kept.calls))
on_is s (call ∷ xs) kept = one_on (eqb call.source s) s call xs kept (λ k. on_is s xs k)

by_is : (sources : List ℕ) (xs : List Call) (kept : Kept) → entered_by sources xs kept ≡ with_calls (kept.calls ++ flat_map (λ s. on_source s xs) sources) kept
by_is [] xs kept = ap (λ ys. with_calls ys kept) (sym (append-nil kept.calls))
by_is (s ∷ sources) xs kept =
    by_is sources xs (entered_on s xs kept)
    ∙ ap (λ k. with_calls (k.calls ++ flat_map (λ s. on_source s xs) sources) k) (on_is s xs kept)
    ∙ ap (λ ys. with_calls ys kept) (append_assoc kept.calls (on_source s xs) (flat_map (λ s. on_source s xs) sources))

module _ {P : Type 0} (seen : P → Seen) (faults : P → ℕ) (machine : Machine) (number n : ℕ) (before : List Executed) (start desk : DeskSeen) (ports0 ports : List P) (calls : List Call) where
  abbrev pub entered_desk : DeskSeen → List Call → DeskSeen
  entered_desk d xs = record d { ledger = entered_by (range_with_len 0 (length machine.sources.items)) xs d.ledger }

  -- after a line `run`, told how far its calls led
  pub follows_turns : start.ledger.panic ≡ [] → AreTurns (plan_of machine) n calls → Follows seen faults machine ports0 start before → IsMidway seen faults machine number before start ports desk calls → Follows seen faults machine ports (marked number (worked (entered_desk desk calls))) (run_line (plan_of machine) number n before calls desk.pending.packets ∷ before)
  follows_turns none turns f m =
      let plan = plan_of machine in
      let xs = in_order (m.stops ++ m.made) in
      let line : List Call → Executed = λ cs. run_line plan number n before cs desk.pending.packets in
      let g : Follows seen faults machine ports (with_lists m.entered m.marks (moved_to desk start)) (line_by_line number before m.made) =
      subst (λ (d : DeskSeen). Follows seen faults machine ports (with_lists m.entered m.marks d) (line_by_line number before m.made)) m.kept m.follows in
      let whole = follows_run seen faults machine number n before start desk ports0 ports m.made m.stops m.entered m.marks m.stopped m.running f g none (subst (λ (cs : List Call). AreTurns plan n cs) m.calls_are turns) in
      let old = moved_to desk start in
      let entered_is = by_is (range_with_len 0 (length machine.sources.items)) xs old.ledger in
      let now : Follows seen faults machine ports (marked number (worked (entered_desk old xs))) (line xs ∷ before) =
      subst (λ (k : Kept). Follows seen faults machine ports (marked number (worked (record old { ledger = k }))) (line xs ∷ before)) (sym entered_is) whole in
      subst (λ (cs : List Call). Follows seen faults machine ports (marked number (worked (entered_desk desk cs))) (line cs ∷ before)) (sym m.calls_are)
      (subst (λ (d : DeskSeen). Follows seen faults machine ports (marked number (worked (entered_desk d xs))) (line xs ∷ before)) (sym m.kept) now)
