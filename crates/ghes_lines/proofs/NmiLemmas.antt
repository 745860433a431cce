-- A history and what it leads to go on by one call.
use Rattle.std.proofs.Common.{◌≡◌, ◌≤◌, ◌<◌, ℕ, ◌+◌, ◌-◌, Bool, true, false, List, [], ◌∷◌, ◌++◌, length, refl, sym, ap, subst, ◌∙◌, arith, Option, Some, unwrap_or}
use Rattle.std.specs.Prelude.{slice_get, is_some}
use Rattle.std.proofs.lemmas.Option.{slice_get_within}
use Rattle.apei_base.specs.Firmware.{Seen, standing as stands_in}
use Rattle.cper_block.specs.Image.{image_of, image_reason}
use Rattle.ghes_call.specs.Packet.{PacketSeen}
use Rattle.ghes_call.specs.Receive.{ReceiveSeen}
use Rattle.ghes_call.specs.declared.call.AckState.{AckState}
use Rattle.ghes_call.specs.declared.call.Call.{Call}
use Rattle.ghes_call.specs.declared.call.Outcome.{Outcome}
use Rattle.ghes_call.specs.declared.call.Outcome.TheVariants.{Nothing, Queued, Malformed, Duplicate, Fatal, NoSlot, Fault, Stopped}
use Rattle.ghes_ledger.proofs.StepLemmas.{image_pushed}
use Rattle.ghes_ledger.specs.History.{Executed, calls_in, taken_in, clock_after}
use Rattle.ghes_ledger.specs.Lawful.{FitsBlock, FitsLook, StandsWith, IsImageIn, IsLawfulCall}
use Rattle.ghes_ledger.specs.Names.{queued_names}
use Rattle.ghes_ledger.specs.Plan.{Plan}
use Rattle.ghes_ledger.specs.Queue.{block_at, queue, standing}
use Rattle.ghes_ledger.specs.Reports.{hit}
use Rattle.ghes_call.specs.declared.call.AckState.TheVariants.{NotAsked}
use Rattle.ghes_nmi.specs.Steps.{CountsAck}
use Rattle.ghes_desk.specs.Pending.{is_full}
use Rattle.ghes_desk.specs.Call.{standing_packet}
use Rattle.ghes_desk.specs.Desk.{DeskSeen, IsAnswered}
use Rattle.ghes_lines.specs.Follows.{IsTied}
use Rattle.ghes_lines.specs.Machine.{cell_after}
use Rattle.ghes_lines.proofs.AnswerLemmas.{standing_is, stands_idle, fault_or, Says, says_call, look_call, asked_is}
use Rattle.ghes_lines.proofs.TiedLemmas.{tied_same, tied_cleared}

-- what a plan says of a source
pub record IsSource (plan : Plan) (receive : ReceiveSeen) (context first s : ℕ) : Type 0 where
  pub inside : s < plan.sources
  pub limit : plan.limit s ≡ receive.limit
  pub has_ack : plan.has_ack s ≡ is_some receive.ack
  pub cells : (n : ℕ) → plan.cell s n ≡ cell_after receive.ack first n
  pub server : context ≡ plan.server s
  pub contexts : context < plan.contexts
  pub places : plan.places ≡ 4

-- One call, told the lines before its line, its line, and all calls before it.
module _ (plan : Plan) (receive : ReceiveSeen) (context first s : ℕ) (is_source : IsSource plan receive context first s) (before : List Executed) (line : Executed) (past : List Call) (fails : ℕ) (port port' : Seen) (faults faults' : ℕ) (desk desk' : DeskSeen) (fatal : Option PacketSeen) where
  abbrev the_call : Outcome → AckState → Call
  the_call outcome ack = record { context = context; source = s; now = desk.clock; reply = record { outcome = outcome; ack = ack } }

  abbrev full : Bool
  full = is_full desk.pending

  abbrev Answered : Outcome → AckState → Type 0
  Answered outcome ack = IsAnswered receive s port port' faults faults' desk desk' (record { outcome = outcome; ack = ack }) fatal

  abbrev Tied : Type 0
  Tied = IsTied plan receive s (queue s before) past fails port faults

  stands : Tied → standing s before past ≡ stands_in port
  stands t = standing_is plan receive s before past fails port faults t

  -- the block that stands was made before
  within : Tied → (block : List ℕ) → stands_in port ≡ Some block → port.acknowledged + 1 ≤ length (queue s before)
  within t block is =
      let inside : port.acknowledged < length port.made = slice_get_within port.made _ block (stands_idle port.waits _ block is).1 in
      omega (arith, inside, ap length t.made_is)

  pub says : (outcome : Outcome) (ack : AckState) → Tied → Answered outcome ack → (full ≡ true → plan.slots + length (taken_in before) ≤ length (queued_names (calls_in (line ∷ before)))) → Says plan before line receive.limit (port.acknowledged + 1) (length (queue s before)) full (standing s before past) outcome
  says outcome ack t a many =
      says_call plan before line receive.limit (port.acknowledged + 1) (length (queue s before)) (standing s before past) (stands_in port) _ full outcome (stands t) (within t) many
      (fault_or receive.limit port _ full ack outcome a.answers)

  -- it is lawful
  pub call_lawful : (outcome : Outcome) (ack : AckState) → Tied → Answered outcome ack → desk.clock ≡ clock_after before → (full ≡ true → plan.slots + length (taken_in before) ≤ length (queued_names (calls_in (line ∷ before)))) → IsLawfulCall plan before line past (the_call outcome ack)
  call_lawful outcome ack t a time many =
      let said = says outcome ack t a many in
      record {
        by = record { source = is_source.inside; context = is_source.server; contexts = is_source.contexts; now = time };
        made = said.made;
        asked = rw is_source.has_ack (asked_is receive.ack outcome ack a.asked);
        block = rw is_source.limit said.block;
        slots = said.slots;
        stop = said.stop;
      }

  -- it looks at the reports so far
  pub call_looks : (outcome : Outcome) (ack : AckState) → Tied → Answered outcome ack → FitsLook plan.places (plan.limit s) (standing s before past) desk.ledger.reports desk.clock outcome
  call_looks outcome ack t a =
      rw (is_source.limit, is_source.places)
      (look_call 4 receive.limit (port.acknowledged + 1) desk.clock desk.ledger.reports (standing s before past) (stands_in port) _ full outcome (stands t) hits (fault_or receive.limit port _ full ack outcome a.answers)) where
        hits : (block : List ℕ) → stands_in port ≡ Some block → hit 4 desk.ledger.reports (image_of receive.limit (unwrap_or (stands_in port) [])) desk.clock ≡ hit 4 desk.ledger.reports (image_of receive.limit block) desk.clock
        hits block is = ap (λ o. hit 4 desk.ledger.reports (image_of receive.limit (unwrap_or o [])) desk.clock) is

  -- the block that an acknowledging call found
  idle : Tied → (Q : List ℕ → Type 0) → StandsWith Q (standing s before past) → port.waits ≡ false
  idle t Q found = (stands_idle port.waits _ found.0 (sym (stands t) ∙ found.1)).0

  abbrev Tied' : Outcome → AckState → Type 0
  Tied' outcome ack = IsTied plan receive s (queue s before) (past ++ the_call outcome ack ∷ []) fails port' faults'

  same_faults : (ack : AckState) → ack ≡ NotAsked → CountsAck ack faults faults' → faults + 0 ≤ faults'
  same_faults ack asked counts = let c : faults' ≡ faults = subst (λ k. CountsAck k faults faults') asked counts in omega (arith, c)

  -- the memory stays tied
  pub call_tied : (outcome : Outcome) (ack : AckState) → Tied → Answered outcome ack → FitsBlock receive.limit (standing s before past) outcome → Tied' outcome ack
  call_tied Nothing ack t a block = tied_same plan receive s context desk.clock (queue s before) past fails port port' faults faults' Nothing ack refl a.asked a.leaves (same_faults ack a.asked a.counts) t
  call_tied NoSlot ack t a block = tied_same plan receive s context desk.clock (queue s before) past fails port port' faults faults' NoSlot ack refl a.asked a.leaves (same_faults ack a.asked a.counts) t
  call_tied Stopped ack t a block = tied_same plan receive s context desk.clock (queue s before) past fails port port' faults faults' Stopped ack refl a.asked a.leaves (same_faults ack a.asked a.counts) t
  call_tied Fault ack t a block = tied_same plan receive s context desk.clock (queue s before) past fails port port' faults faults' Fault ack refl a.asked a.leaves (omega (arith, a.counts)) t
  call_tied (Queued n) ack t a block = tied_cleared plan receive s context desk.clock (queue s before) past fails port port' faults faults' receive.ack first (Queued n) ack refl is_source.cells refl refl a.asked a.leaves a.counts (idle t _ block) t
  call_tied (Malformed n reason) ack t a block = tied_cleared plan receive s context desk.clock (queue s before) past fails port port' faults faults' receive.ack first (Malformed n reason) ack refl is_source.cells refl refl a.asked a.leaves a.counts (idle t _ block) t
  call_tied (Duplicate n report) ack t a block = tied_cleared plan receive s context desk.clock (queue s before) past fails port port' faults faults' receive.ack first (Duplicate n report) ack refl is_source.cells refl refl a.asked a.leaves a.counts (idle t _ block) t
  call_tied (Fatal n) ack t a block = tied_cleared plan receive s context desk.clock (queue s before) past fails port port' faults faults' receive.ack first (Fatal n) ack refl is_source.cells refl refl a.asked a.leaves a.counts (idle t _ block) t

  -- the packet of the block that stands is an image of the block that it names
  pub packet_image : Tied → (block : List ℕ) → standing s before past ≡ Some block → IsImageIn plan before (standing_packet s receive.limit port)
  packet_image t block is =
      let at_port : stands_in port ≡ Some block = sym (stands t) ∙ is in
      let got = (stands_idle port.waits _ block at_port).1 in
      let n = port.acknowledged + 1 in
      let before_it : n - 1 ≡ port.acknowledged = omega arith in
      let at : block_at n (queue s before) ≡ Some block = ap (slice_get (queue s before)) before_it ∙ ap (λ xs. slice_get xs port.acknowledged) (sym t.made_is) ∙ got in
      let named : (l : ℕ) → IsImageIn plan before (record { source = s; seq = n; reason = image_reason l block; bytes = image_of l block }) ≡ IsImageIn plan before (record { source = s; seq = n; reason = image_reason l (unwrap_or (stands_in port) []); bytes = image_of l (unwrap_or (stands_in port) []) }) =
      λ l. ap (λ o. IsImageIn plan before (record { source = s; seq = n; reason = image_reason l (unwrap_or o []); bytes = image_of l (unwrap_or o []) })) (sym at_port) in
      subst (λ (X : Type 0). X) (named receive.limit) (rw (sym is_source.limit) (image_pushed plan before s n block at))
