-- A history and what it leads to go on by a line with one call.
use Rattle.std.proofs.Common.{◌≡◌, ◌≤◌, ◌<◌, ℕ, ◌+◌, Bool, true, false, ◌⊎◌, inl, inr, List, [], ◌∷◌, ◌++◌, map, length, refl, sym, ap, subst, ◌∙◌, arith, append-nil, Option, Some, None, unwrap_or}
use Rattle.std.specs.Prelude.{slice_get, slice_set, is_some}
use Rattle.std.proofs.lemmas.Bool.{ne_eqb, cases_eq, leb-true, leb-false}
use Rattle.std.proofs.lemmas.List.{length-append, length-map, length-set}
use Rattle.std.proofs.lemmas.List.Concat.{flat_map-append}
use Rattle.std.proofs.lemmas.Option.{slice_get_within}
use Rattle.apei_base.specs.Firmware.{Seen}
use Rattle.ghes_call.specs.Packet.{PacketSeen}
use Rattle.ghes_call.specs.Receive.{ReceiveSeen}
use Rattle.ghes_call.specs.declared.call.AckState.{AckState}
use Rattle.ghes_call.specs.declared.call.Call.{Call}
use Rattle.ghes_call.specs.declared.call.Outcome.{Outcome}
use Rattle.ghes_call.specs.declared.call.Outcome.TheVariants.{Nothing, Queued, Malformed, Duplicate, Fatal, NoSlot, Fault, Stopped}
use Rattle.ghes_ledger.proofs.OrderLemmas.{same_count}
use Rattle.ghes_ledger.proofs.Serial.{keeps_queued, keeps_other, keeps_fatal}
use Rattle.ghes_ledger.proofs.StepLemmas.{call_line, lawful_call}
use Rattle.ghes_ledger.specs.Asks.{Calls}
use Rattle.ghes_ledger.specs.History.{Executed, calls_in, taken_in}
use Rattle.ghes_ledger.specs.Kept.{Kept, panic_entry, mark_of}
use Rattle.ghes_ledger.specs.Lawful.{FitsBlock, FitsLook, HasRoom, IsImageIn, IsLawfulLine}
use Rattle.ghes_ledger.specs.Names.{name_of, queued_names, fatal_names, taken_names}
use Rattle.ghes_ledger.specs.Outcomes.{acknowledges, number_of, pending_number, fatal_number}
use Rattle.ghes_ledger.specs.Plan.{Plan}
use Rattle.ghes_ledger.specs.Queue.{queue, acknowledged, standing, faulty_calls, fails_in}
use Rattle.ghes_ledger.specs.Reports.{reports_in}
use Rattle.ghes_ledger.specs.declared.ledger.PanicEntry.{PanicEntry}
use Rattle.ghes_nmi.specs.Receive.{receive_seen}
use Rattle.ghes_desk.specs.Call.{standing_packet, queued_by, fatal_by}
use Rattle.ghes_desk.specs.Desk.{DeskSeen, IsNmi, marked, entered, panicked_by, with_packets}
use Rattle.ghes_lines.specs.Follows.{blocks_in, IsTied, IsAccount, Follows}
use Rattle.ghes_lines.specs.Machine.{limit_of, server_of, rule_of, first_cell, cell_after, plan_of, FitsSource}
use Rattle.ghes_desk.specs.Pending.{is_full}
use Rattle.ghes_lines.specs.declared.machine.Machine.{Machine}
use Rattle.ghes_lines.specs.declared.machine.Source.{Source}
use Rattle.ghes_lines.proofs.AnswerLemmas.{IsFor, IsFree}
use Rattle.ghes_lines.proofs.FollowsLemmas.{none_fatal, tied_with}
use Rattle.ghes_lines.proofs.LineLemmas.{at_set, keeps_of, account_of, few_of, tells_more, by_source_one}
use Rattle.ghes_lines.proofs.NmiLemmas.{IsSource, says, call_lawful, call_looks, call_tied, packet_image}
use Rattle.ghes_lines.proofs.TiedLemmas.{tied_other, faulty_other}

-- what the plan of a machine says of its source
pub source_in : (machine : Machine) (block_len s : ℕ) (source : Source) → slice_get machine.sources.items s ≡ Some source → FitsSource machine.contexts block_len source → IsSource (plan_of machine) (receive_seen source.receive) source.server (first_cell (Some source)) s
source_in machine block_len s source at fits = record {
  inside = slice_get_within machine.sources.items s source at;
  limit = ap limit_of at;
  has_ack = ap (λ o. is_some (rule_of o)) at;
  cells = λ n. ap (λ o. cell_after (rule_of o) (first_cell o) n) at;
  server = sym (ap server_of at);
  contexts = fits.server;
  places = refl;
}

-- how many blocks were made pending, by those that were taken and those that are pending
pub count_queued : (plan : Plan) (history : List Executed) (pending : List PacketSeen) → IsAccount plan history pending [] → length (queued_names (calls_in history)) ≡ length (taken_in history) + length pending
count_queued plan history pending a =
    let names = taken_names (taken_in history) ++ map name_of pending in
    let all : length (names ++ []) ≡ length (queued_names (calls_in history)) = same_count plan (names ++ []) (queued_names (calls_in history)) a.order in
    let parts : length names ≡ length (taken_names (taken_in history)) + length (map name_of pending) = length-append (taken_names (taken_in history)) (map name_of pending) in
    let taken : length (taken_names (taken_in history)) ≡ length (taken_in history) = length-map (taken_in history) _ in
    let waits : length (map name_of pending) ≡ length pending = length-map pending name_of in
    let whole : length (names ++ []) ≡ length names = ap length (append-nil names) in
    omega arith

-- what a panic list leaves alone
abbrev with_panic : List PanicEntry → Kept → Kept
with_panic panic kept = record kept { panic = panic }

ledger_is : (fatal : Option PacketSeen) (desk : DeskSeen) → (panicked_by fatal desk).ledger ≡ with_panic (panicked_by fatal desk).ledger.panic desk.ledger
ledger_is None desk = refl
ledger_is (Some packet) desk = refl

clock_is : (fatal : Option PacketSeen) (desk : DeskSeen) → (panicked_by fatal desk).clock ≡ desk.clock
clock_is None desk = refl
clock_is (Some packet) desk = refl

blocks_is : (fatal : Option PacketSeen) (desk : DeskSeen) → (panicked_by fatal desk).blocks ≡ desk.blocks
blocks_is None desk = refl
blocks_is (Some packet) desk = refl

slots_is : (fatal : Option PacketSeen) (desk : DeskSeen) → (panicked_by fatal desk).pending.slots ≡ desk.pending.slots
slots_is None desk = refl
slots_is (Some packet) desk = refl

-- a call that is not fatal adds no name
mild : (calls : List Call) (call : Call) → fatal_number call.reply.outcome ≡ [] → fatal_names calls ≡ [] → fatal_names (calls ++ call ∷ []) ≡ []
mild calls call none empty =
    flat_map-append _ calls (call ∷ []) ∙ ap (λ xs. xs ++ fatal_names (call ∷ [])) empty
    ∙ append-nil _ ∙ ap (map (λ number. (call.source, number))) none

-- an outcome that acknowledges says that a block stands
stands_with : (limit : ℕ) (stands : Option (List ℕ)) (outcome : Outcome) → FitsBlock limit stands outcome → acknowledges outcome ≡ true → (block : List ℕ) × (stands ≡ Some block)
stands_with limit stands Nothing fits says_so = absurd cc
stands_with limit stands (Queued n) fits says_so = (fits.0, fits.1)
stands_with limit stands (Malformed n reason) fits says_so = (fits.0, fits.1)
stands_with limit stands (Duplicate n report) fits says_so = (fits.0, fits.1)
stands_with limit stands (Fatal n) fits says_so = (fits.0, fits.1)
stands_with limit stands NoSlot fits says_so = absurd cc
stands_with limit stands Fault fits says_so = absurd cc
stands_with limit stands Stopped fits says_so = absurd cc

-- in a line with one call a block is made pending only where a slot is free
has_room : (plan : Plan) (before : List Executed) (full : Bool) (s context now : ℕ) (outcome : Outcome) (ack : AckState) → IsFree full outcome → (full ≡ false → length (queued_names (calls_in before)) < plan.slots + length (taken_in before)) → HasRoom plan before (Calls s) (record { context = context; source = s; now = now; reply = record { outcome = outcome; ack = ack } } ∷ [])
has_room plan before full s context now Nothing ack free few = λ one. absurd (omega (arith, one))
has_room plan before full s context now (Queued n) ack free few = λ one. few free
has_room plan before full s context now (Malformed n reason) ack free few = λ one. few free
has_room plan before full s context now (Duplicate n report) ack free few = λ one. absurd (omega (arith, one))
has_room plan before full s context now (Fatal n) ack free few = λ one. absurd (omega (arith, one))
has_room plan before full s context now NoSlot ack free few = λ one. absurd (omega (arith, one))
has_room plan before full s context now Fault ack free few = λ one. absurd (omega (arith, one))
has_room plan before full s context now Stopped ack free few = λ one. absurd (omega (arith, one))

-- What holds behind a line with one call.
module _ (plan : Plan) (history : List Executed) (number context s n : ℕ) (packet : PacketSeen) (desk : DeskSeen) where
  abbrev the_call : Outcome → AckState → Call
  the_call outcome ack = record { context = context; source = s; now = desk.clock; reply = record { outcome = outcome; ack = ack } }

  abbrev the_line : Outcome → AckState → Executed
  the_line outcome ack = call_line number s (the_call outcome ack)

  abbrev pub behind : Outcome → AckState → DeskSeen
  behind outcome ack = panicked_by (fatal_by outcome packet) (entered (the_call outcome ack) (with_packets (queued_by outcome packet desk.pending.packets) desk))

  pub record IsBehind (outcome : Outcome) (ack : AckState) : Type 0 where
    pub account : IsAccount plan (the_line outcome ack ∷ history) (behind outcome ack).pending.packets (behind outcome ack).ledger.panic
    pub few : length (behind outcome ack).pending.packets ≤ desk.pending.slots
    pub left : (fatal_names (calls_in (the_line outcome ack ∷ history)) ≡ [] → ⊥) → (behind outcome ack).pending.packets ≡ []

  -- what is needed
  pub record IsAhead (outcome : Outcome) (ack : AckState) : Type 0 where
    pub account : IsAccount plan history desk.pending.packets []
    pub panic : desk.ledger.panic ≡ []
    pub empty : fatal_names (calls_in history) ≡ []
    pub lawful : IsLawfulLine plan history (the_line outcome ack)
    pub few : length desk.pending.packets ≤ desk.pending.slots
    pub free : IsFree (is_full desk.pending) outcome
    pub next : n ≡ acknowledged s (calls_in history) + 1
    pub seq : packet.seq ≡ n
    pub source : packet.source ≡ s

  other : (outcome : Outcome) (ack : AckState) → IsAhead outcome ack → pending_number outcome ≡ [] → fatal_number outcome ≡ [] → (number_of outcome ≡ []) ⊎ (number_of outcome ≡ n ∷ []) → IsAccount plan (the_line outcome ack ∷ history) desk.pending.packets desk.ledger.panic
  other outcome ack a none mild_is number_is =
      let A : List PanicEntry → Type 0 = λ panic. IsAccount plan (the_line outcome ack ∷ history) desk.pending.packets panic in
      let numbered : (number_of outcome ≡ []) ⊎ (number_of outcome ≡ (acknowledged s (calls_in history) + 1) ∷ []) = subst (λ (m : ℕ). (number_of outcome ≡ []) ⊎ (number_of outcome ≡ m ∷ [])) a.next number_is in
      subst A (sym a.panic) (account_of plan (the_line outcome ack ∷ history) desk.pending.packets []
      (keeps_other plan history desk.pending.packets number (the_call outcome ack) (keeps_of plan history desk.pending.packets [] a.account) a.lawful none mild_is numbered))

  pushed : (outcome : Outcome) (ack : AckState) → IsAhead outcome ack → pending_number outcome ≡ n ∷ [] → number_of outcome ≡ n ∷ [] → fatal_number outcome ≡ [] → IsImageIn plan history packet → IsAccount plan (the_line outcome ack ∷ history) (desk.pending.packets ++ packet ∷ []) desk.ledger.panic
  pushed outcome ack a is number_is mild_is image =
      let A : List PanicEntry → Type 0 = λ panic. IsAccount plan (the_line outcome ack ∷ history) (desk.pending.packets ++ packet ∷ []) panic in
      subst A (sym a.panic) (account_of plan (the_line outcome ack ∷ history) (desk.pending.packets ++ packet ∷ []) []
      (keeps_queued plan history desk.pending.packets number (the_call outcome ack) packet (keeps_of plan history desk.pending.packets [] a.account) a.lawful
      (is ∙ ap (λ m. m ∷ []) (sym a.seq)) (number_is ∙ ap (λ m. m ∷ []) a.next) mild_is a.source image))

  room_for_one : is_full desk.pending ≡ false → length (desk.pending.packets ++ packet ∷ []) ≤ desk.pending.slots
  room_for_one free = omega (arith, leb-false desk.pending.slots (length desk.pending.packets) free, length-append desk.pending.packets (packet ∷ []))

  not_fatal : (outcome : Outcome) (ack : AckState) → IsAhead outcome ack → fatal_number outcome ≡ [] → (fatal_names (calls_in (the_line outcome ack ∷ history)) ≡ [] → ⊥) → ⊥
  not_fatal outcome ack a none some = some (mild (calls_in history) (the_call outcome ack) none a.empty)

  pub behind_call : (outcome : Outcome) (ack : AckState) → IsAhead outcome ack → IsFor n outcome → (acknowledges outcome ≡ true → IsImageIn plan history packet) → IsBehind outcome ack
  behind_call Nothing ack a for image = record { account = other Nothing ack a refl refl (inl refl); few = a.few; left = λ some. absurd (not_fatal Nothing ack a refl some) }
  behind_call NoSlot ack a for image = record { account = other NoSlot ack a refl refl (inl refl); few = a.few; left = λ some. absurd (not_fatal NoSlot ack a refl some) }
  behind_call Fault ack a for image = record { account = other Fault ack a refl refl (inl refl); few = a.few; left = λ some. absurd (not_fatal Fault ack a refl some) }
  behind_call Stopped ack a for image = record { account = other Stopped ack a refl refl (inl refl); few = a.few; left = λ some. absurd (not_fatal Stopped ack a refl some) }
  behind_call (Duplicate m report) ack a for image = record { account = other (Duplicate m report) ack a refl refl (inr (ap (λ k. k ∷ []) for)); few = a.few; left = λ some. absurd (not_fatal (Duplicate m report) ack a refl some) }
  behind_call (Queued m) ack a for image = record {
    account = pushed (Queued m) ack a (ap (λ k. k ∷ []) for) (ap (λ k. k ∷ []) for) refl (image refl);
    few = room_for_one a.free;
    left = λ some. absurd (not_fatal (Queued m) ack a refl some);
  }
  behind_call (Malformed m reason) ack a for image = record {
    account = pushed (Malformed m reason) ack a (ap (λ k. k ∷ []) for) (ap (λ k. k ∷ []) for) refl (image refl);
    few = room_for_one a.free;
    left = λ some. absurd (not_fatal (Malformed m reason) ack a refl some);
  }
  behind_call (Fatal m) ack a for image =
      let A : List PanicEntry → Type 0 = λ panic. IsAccount plan (the_line (Fatal m) ack ∷ history) [] ((panic ++ map (panic_entry false) desk.pending.packets) ++ panic_entry true packet ∷ []) in
      record {
        account = subst A (sym a.panic) (account_of plan (the_line (Fatal m) ack ∷ history) [] _
            (keeps_fatal plan history desk.pending.packets number (the_call (Fatal m) ack) packet (keeps_of plan history desk.pending.packets [] a.account) a.empty a.lawful refl
            (ap (λ k. k ∷ []) for ∙ ap (λ k. k ∷ []) (sym a.seq)) (ap (λ k. k ∷ []) for ∙ ap (λ k. k ∷ []) a.next) a.source (image refl)));
        few = omega arith;
        left = λ some. refl;
      }

module _ {P : Type 0} (seen : P → Seen) (faults : P → ℕ) (machine : Machine) (block_len : ℕ) where
  abbrev plan : Plan
  plan = plan_of machine

  abbrev Ties : List Executed → ℕ → P → Type 0
  Ties history t p = (source : Source) → slice_get machine.sources.items t ≡ Some source → IsTied plan (receive_seen source.receive) t (queue t history) (calls_in history) (fails_in t history) (seen p) (faults p)

  -- ties that hold behind a call hold behind its line
  tied_line : (receive : ReceiveSeen) (history : List Executed) (number s t : ℕ) (call : Call) (port : Seen) (count : ℕ) → IsTied plan receive t (queue t history) (calls_in history ++ call ∷ []) (fails_in t history) port count → IsTied plan receive t (queue t (call_line number s call ∷ history)) (calls_in history ++ call ∷ []) (fails_in t (call_line number s call ∷ history)) port count
  tied_line receive history number s t call port count is =
      tied_with plan receive t (queue t history) (queue t (call_line number s call ∷ history)) (calls_in history ++ call ∷ []) (calls_in history ++ call ∷ []) (fails_in t history) (fails_in t (call_line number s call ∷ history)) port port count count
      refl refl (is.made_is ∙ sym (append-nil (queue t history))) refl refl refl (omega (arith, is.planned)) refl is

  -- after a line `nmi`
  pub follows_nmi : (ports : List P) (desk desk' : DeskSeen) (history : List Executed) (number s : ℕ) (source : Source) (port port' : P) → slice_get machine.sources.items s ≡ Some source → FitsSource machine.contexts block_len source → slice_get ports s ≡ Some port → faults port' ≤ (seen port').planned → desk.ledger.panic ≡ [] → (nmi : IsNmi (receive_seen source.receive) source.server s (seen port) (seen port') (faults port) (faults port') desk desk') → Follows seen faults machine ports desk history → Follows seen faults machine (slice_set ports s port') (marked number desk') (call_line number s (record { context = source.server; source = s; now = desk.clock; reply = nmi.reply }) ∷ history)
  follows_nmi ports desk desk' history number s source port port' at fits there sound none nmi f =
      let receive = receive_seen source.receive in
      let outcome = nmi.reply.outcome in
      let ack = nmi.reply.ack in
      let packets = desk.pending.packets in
      let past = calls_in history in
      let call : Call = record { context = source.server; source = s; now = desk.clock; reply = nmi.reply } in
      let line = call_line number s call in
      let packet = standing_packet s receive.limit (seen port) in
      let is = source_in machine block_len s source at fits in
      let first = first_cell (Some source) in
      let t = f.tied s source port at there in
      let empty = none_fatal seen faults machine ports desk history none f in
      let account : IsAccount plan history packets [] = subst (λ panic. IsAccount plan history packets panic) none f.account in
      let queued = count_queued plan history packets account in
      let more : length (queued_names (past ++ call ∷ [])) ≡ length (queued_names past) + length (queued_names (call ∷ [])) = ap length (flat_map-append _ past (call ∷ [])) ∙ length-append (queued_names past) (queued_names (call ∷ [])) in
      let many : is_full desk.pending ≡ true → plan.slots + length (taken_in history) ≤ length (queued_names (calls_in (line ∷ history))) = λ full. omega (arith, queued, more, f.slots, leb-true desk.pending.slots (length packets) full) in
      let free : is_full desk.pending ≡ false → length (queued_names past) < plan.slots + length (taken_in history) = λ free. omega (arith, queued, f.slots, leb-false desk.pending.slots (length packets) free) in
      let said = says plan receive source.server first s is history line past (fails_in s history) (seen port) (seen port') (faults port) (faults port') desk nmi.between nmi.fatal outcome ack t nmi.call many in
      let lawful = call_lawful plan receive source.server first s is history line past (fails_in s history) (seen port) (seen port') (faults port) (faults port') desk nmi.between nmi.fatal outcome ack t nmi.call f.time many in
      let tied' = call_tied plan receive source.server first s is history line past (fails_in s history) (seen port) (seen port') (faults port) (faults port') desk nmi.between nmi.fatal outcome ack t nmi.call said.block in
      let looks = call_looks plan receive source.server first s is history line past (fails_in s history) (seen port) (seen port') (faults port) (faults port') desk nmi.between nmi.fatal outcome ack t nmi.call in
      let looks_now : FitsLook plan.places (plan.limit s) (standing s history past) (reports_in history) desk.clock outcome = subst (λ reports. FitsLook plan.places (plan.limit s) (standing s history past) reports desk.clock outcome) f.tells.reports looks in
      let few : (r : ℕ) → length (faulty_calls r (past ++ call ∷ [])) ≤ fails_in r history = λ r. elim (cases_eq r s) [
        | inl same ↦ subst (λ n. length (faulty_calls n (past ++ call ∷ [])) ≤ fails_in n history) (sym same) (omega (arith, tied'.failed, sound, tied'.planned))
        | inr differ ↦ omega (arith, few_of plan history account.lines r, faulty_other r past call (ne_eqb s r (λ e. differ (sym e))))
      ] in
      let lawful_line = lawful_call plan number call history empty lawful (has_room plan history (is_full desk.pending) s source.server desk.clock outcome ack said.free free) looks_now few in
      let b = behind_call plan history number source.server s ((seen port).acknowledged + 1) packet desk outcome ack
      (record {
        account = account;
        panic = none;
        empty = empty;
        lawful = lawful_line;
        few = omega (arith, f.few, f.slots);
        free = said.free;
        next = ap (λ n. n + 1) t.acknowledged_is;
        seq = refl;
        source = refl;
      }) said.for (λ says_so. packet_image plan receive source.server first s is history line past (fails_in s history) (seen port) (seen port') (faults port) (faults port') desk nmi.between nmi.fatal t (stands_with receive.limit (standing s history past) outcome said.block says_so).0 (stands_with receive.limit (standing s history past) outcome said.block says_so).1) in
      let after = behind plan history number source.server s ((seen port).acknowledged + 1) packet desk outcome ack in
      let before_panic = entered call (with_packets (queued_by outcome packet packets) desk) in
      let desk_is : desk' ≡ after = nmi.desk_is ∙ ap (λ o. panicked_by o (entered call nmi.between)) nmi.call.fatal_is ∙ ap (λ d. panicked_by (fatal_by outcome packet) (entered call d)) nmi.call.pending in
      let ledger : after.ledger ≡ with_panic after.ledger.panic before_panic.ledger = ledger_is (fatal_by outcome packet) before_panic in
      let new : Ties (line ∷ history) s port' = λ other other_at.
      let same : source ≡ other = ap (λ o. unwrap_or o source) (sym at ∙ other_at) in
      subst (λ (o : Source). IsTied plan (receive_seen o.receive) s (queue s (line ∷ history)) (calls_in (line ∷ history)) (fails_in s (line ∷ history)) (seen port') (faults port')) same
      (tied_line receive history number s s call (seen port') (faults port') tied') in
      let old : (r : ℕ) (p : P) → (r ≡ s → ⊥) → slice_get ports r ≡ Some p → Ties (line ∷ history) r p = λ r p differ p_there other other_at.
      tied_line (receive_seen other.receive) history number s r call (seen p) (faults p)
      (tied_other plan (receive_seen other.receive) r (queue r history) past (fails_in r history) (seen p) (faults p) call (ne_eqb s r (λ e. differ (sym e))) (f.tied r other p other_at p_there)) in
      subst (λ (d : DeskSeen). Follows seen faults machine (slice_set ports s port') (marked number d) (line ∷ history)) (sym desk_is)
      (record {
        as_many = length-set ports s port' ∙ f.as_many;
        tied = λ r other p other_at p_there. at_set (Ties (line ∷ history)) ports s port' new old r p p_there other other_at;
        account = b.account;
        tells = tells_more plan history line desk.ledger _ f.tells
            (ap (λ k. k.calls) ledger ∙ ap (λ xs. desk.ledger.calls ++ xs) (sym (by_source_one plan call is.inside)))
            (ap (λ k. k.taken) ledger ∙ sym (append-nil _))
            (ap (λ k. k.reports) ledger ∙ sym (append-nil _))
            (ap (λ k. k.injections) ledger ∙ sym (append-nil _))
            (ap (λ k. k.peeks) ledger ∙ sym (append-nil _))
            (ap (λ k. k.marks ++ mark_of number after.ledger ∷ []) ledger);
        time = clock_is (fatal_by outcome packet) before_panic ∙ f.time;
        slots = slots_is (fatal_by outcome packet) before_panic ∙ f.slots;
        few = omega (arith, b.few, f.slots);
        blocks = blocks_is (fatal_by outcome packet) before_panic ∙ f.blocks ∙ ap length (sym (append-nil (blocks_in history)));
        left = b.left;
      })
