-- What holds between the lines of a replay that makes one call at a time, and how each line keeps it.
use Rattle.std.proofs.Common.{◌≡◌, ◌≤◌, ℕ, ◌+◌, Bool, true, false, cond, eqb, ◌⊎◌, inl, inr, List, [], ◌∷◌, ◌++◌, map, length, refl, sym, ap, subst, ◌∙◌, arith, append-nil, append_assoc}
use Rattle.std.specs.List.{range_with_len, AllByRecursion}
use Rattle.std.proofs.lemmas.Bool.{eqb-true}
use Rattle.std.proofs.lemmas.List.{length-append, map-append}
use Rattle.std.proofs.lemmas.List.Concat.{flat_map-append}
use Rattle.std.proofs.lemmas.List.Elements.{filter-append}
use Rattle.ghes_call.specs.declared.call.Call.{Call}
use Rattle.ghes_call.specs.Packet.{PacketSeen}
use Rattle.ghes_ledger.specs.declared.ledger.PanicEntry.{PanicEntry}
use Rattle.ghes_ledger.specs.History.{Act, Executed, calls_in, taken_in, clock_after, Each}
use Rattle.ghes_ledger.specs.Kept.{Kept, panic_entry}
use Rattle.ghes_ledger.specs.Lawful.{IsImageIn, IsLawfulLine, AreExecuted, Tells, IsLawful}
use Rattle.ghes_ledger.specs.Names.{panic_packet, name_of, queued_names, fatal_names, taken_names, panic_names, waiting, fatals, served_by}
use Rattle.ghes_ledger.specs.Outcomes.{number_of, pending_number, fatal_number}
use Rattle.ghes_ledger.specs.Plan.{Plan}
use Rattle.ghes_ledger.specs.Queue.{number_by, numbers_of, acknowledged, faulty_calls, fails_in}
use Rattle.ghes_ledger.specs.Reports.{reports_in}
use Rattle.ghes_ledger.proofs.CallsAlike.{range-push}
use Rattle.ghes_ledger.proofs.FateLemmas.{image_later}
use Rattle.ghes_ledger.proofs.StepLemmas.{call_line, raise_line, lawful_raise}
use Rattle.ghes_ledger.proofs.WorkLemmas.{takings, work_line, names-takings, lawful_work}

-- what holds of a history, the pending packets and the panic list
pub record Keeps (plan : Plan) (history : List Executed) (pending : List PacketSeen) (panic : List PanicEntry) : Type 0 where
  pub lines : Each (IsLawfulLine plan) history
  pub counts : (s : ℕ) → numbers_of s (calls_in history) ≡ range_with_len 1 (acknowledged s (calls_in history))
  pub order : (c : ℕ) → served_by plan c ((taken_names (taken_in history) ++ map name_of pending) ++ panic_names (waiting panic)) ≡ served_by plan c (queued_names (calls_in history))
  pub images : AllByRecursion (IsImageIn plan history) pending
  pub panic_images : AllByRecursion (λ entry. IsImageIn plan history (panic_packet entry)) panic
  pub panic_order : panic ≡ waiting panic ++ fatals panic
  pub fatal_blocks : panic_names (fatals panic) ≡ fatal_names (calls_in history)
  pub no_panic : fatal_names (calls_in history) ≡ [] → panic ≡ []

-- no more calls failed than accesses were to fail
few_of : (plan : Plan) (history : List Executed) → Each (IsLawfulLine plan) history → (t : ℕ) → length (faulty_calls t (calls_in history)) ≤ fails_in t history
few_of plan [] each t = omega arith
few_of plan (line ∷ before) each t = omega (arith, each.1.faults t)

-- the numbers of each source after a call, which acknowledged the next block of its source or none
counts_here : (b : Bool) (t : ℕ) (old numbers : List ℕ) (n : ℕ) → old ≡ range_with_len 1 (length old) → (b ≡ true → (numbers ≡ []) ⊎ (numbers ≡ (length old + 1) ∷ [])) → old ++ cond b numbers [] ≡ range_with_len 1 (length (old ++ cond b numbers []))
counts_here false t old numbers n counts next = append-nil old ∙ counts ∙ ap (λ xs. range_with_len 1 (length xs)) (sym (append-nil old))
counts_here true t old numbers n counts next = elim (next refl) [
  | inl none ↦ ap (λ xs. old ++ xs) none ∙ append-nil old ∙ counts ∙ ap (λ xs. range_with_len 1 (length xs)) (sym (ap (λ xs. old ++ xs) none ∙ append-nil old))
  | inr one ↦
      let size : length (old ++ (length old + 1) ∷ []) ≡ length old + 1 = length-append old ((length old + 1) ∷ []) in
      ap (λ xs. old ++ xs) one ∙ ap (λ xs. xs ++ (length old + 1) ∷ []) counts ∙ sym (range-push (length old)) ∙ ap (range_with_len 1) (sym size)
      ∙ ap (λ xs. range_with_len 1 (length (old ++ xs))) (sym one)
]

counts_push : (before : List Executed) (call : Call) → ((s : ℕ) → numbers_of s (calls_in before) ≡ range_with_len 1 (acknowledged s (calls_in before))) → (number_of call.reply.outcome ≡ []) ⊎ (number_of call.reply.outcome ≡ (acknowledged call.source (calls_in before) + 1) ∷ []) → (t : ℕ) → numbers_of t (calls_in before ++ call ∷ []) ≡ range_with_len 1 (acknowledged t (calls_in before ++ call ∷ []))
counts_push before call counts next t =
    let s = call.source in
    let old = numbers_of t (calls_in before) in
    let new = number_of call.reply.outcome in
    let split : numbers_of t (calls_in before ++ call ∷ []) ≡ old ++ cond (eqb s t) new [] =
    flat_map-append (number_by t) (calls_in before) (call ∷ []) ∙ ap (λ xs. old ++ xs) (append-nil (cond (eqb s t) new [])) in
    let here : eqb s t ≡ true → (new ≡ []) ⊎ (new ≡ (length old + 1) ∷ []) =
    λ e. subst (λ (r : ℕ). (new ≡ []) ⊎ (new ≡ (length (numbers_of r (calls_in before)) + 1) ∷ [])) (eqb-true s t e) next in
    split ∙ counts_here (eqb s t) t old new 0 (counts t) here ∙ ap (λ xs. range_with_len 1 (length xs)) (sym split)

images_later : (plan : Plan) (before : List Executed) (line : Executed) (packets : List PacketSeen) → AllByRecursion (IsImageIn plan before) packets → AllByRecursion (IsImageIn plan (line ∷ before)) packets
images_later plan before line [] all = tt
images_later plan before line (packet ∷ packets) all = (image_later plan before line packet all.0, images_later plan before line packets all.1)

images_push : (plan : Plan) (history : List Executed) (packets : List PacketSeen) (packet : PacketSeen) → AllByRecursion (IsImageIn plan history) packets → IsImageIn plan history packet → AllByRecursion (IsImageIn plan history) (packets ++ packet ∷ [])
images_push plan history [] packet all here = (here, tt)
images_push plan history (x ∷ packets) packet all here = (all.0, images_push plan history packets packet all.1 here)

queued_push : (calls : List Call) (call : Call) (numbers : List ℕ) → pending_number call.reply.outcome ≡ numbers → queued_names (calls ++ call ∷ []) ≡ queued_names calls ++ map (λ number. (call.source, number)) numbers
queued_push calls call numbers e = flat_map-append _ calls (call ∷ []) ∙ ap (λ xs. queued_names calls ++ xs) (append-nil _) ∙ ap (λ ns. queued_names calls ++ map (λ number. (call.source, number)) ns) e

fatal_push : (calls : List Call) (call : Call) (numbers : List ℕ) → fatal_number call.reply.outcome ≡ numbers → fatal_names (calls ++ call ∷ []) ≡ fatal_names calls ++ map (λ number. (call.source, number)) numbers
fatal_push calls call numbers e = flat_map-append _ calls (call ∷ []) ∙ ap (λ xs. fatal_names calls ++ xs) (append-nil _) ∙ ap (λ ns. fatal_names calls ++ map (λ number. (call.source, number)) ns) e

-- after a call that makes a packet pending
pub keeps_queued : (plan : Plan) (before : List Executed) (pending : List PacketSeen) (line : ℕ) (call : Call) (packet : PacketSeen) → Keeps plan before pending [] → IsLawfulLine plan before (call_line line call.source call) → pending_number call.reply.outcome ≡ packet.seq ∷ [] → number_of call.reply.outcome ≡ (acknowledged call.source (calls_in before) + 1) ∷ [] → fatal_number call.reply.outcome ≡ [] → packet.source ≡ call.source → IsImageIn plan before packet → Keeps plan (call_line line call.source call ∷ before) (pending ++ packet ∷ []) []
keeps_queued plan before pending line call packet k l is number mild source image =
    let fatal : fatal_names (calls_in before ++ call ∷ []) ≡ fatal_names (calls_in before) = fatal_push (calls_in before) call [] mild ∙ append-nil _ in
    let old = taken_names (taken_in before) ++ map name_of pending in
    let names : (taken_names (taken_in before ++ []) ++ map name_of (pending ++ packet ∷ [])) ++ [] ≡ old ++ name_of packet ∷ [] =
    append-nil _ ∙ ap (λ ts. taken_names ts ++ map name_of (pending ++ packet ∷ [])) (append-nil (taken_in before))
    ∙ ap (λ xs. taken_names (taken_in before) ++ xs) (map-append name_of pending (packet ∷ [])) ∙ sym (append_assoc (taken_names (taken_in before)) (map name_of pending) (name_of packet ∷ [])) in
    record {
      lines = (k.lines, l);
      counts = counts_push before call k.counts (inr number);
      order = λ c.
          let own : (ℕ × ℕ) → Bool = λ name. eqb (plan.server name.0) c in
          let old_order : served_by plan c old ≡ served_by plan c (queued_names (calls_in before)) = ap (served_by plan c) (sym (append-nil old)) ∙ k.order c in
          ap (served_by plan c) names ∙ filter-append own old (name_of packet ∷ []) ∙ ap (λ xs. xs ++ served_by plan c (name_of packet ∷ [])) old_order
          ∙ sym (filter-append own (queued_names (calls_in before)) (name_of packet ∷ []))
          ∙ ap (λ s. served_by plan c (queued_names (calls_in before) ++ (s, packet.seq) ∷ [])) source
          ∙ ap (served_by plan c) (sym (queued_push (calls_in before) call (packet.seq ∷ []) is));
      images = images_later plan before (call_line line call.source call) (pending ++ packet ∷ []) (images_push plan before pending packet k.images image);
      panic_images = tt;
      panic_order = refl;
      fatal_blocks = k.fatal_blocks ∙ sym fatal;
      no_panic = λ none. refl;
    }

-- after a call that makes nothing pending, and is not fatal
pub keeps_other : (plan : Plan) (before : List Executed) (pending : List PacketSeen) (line : ℕ) (call : Call) → Keeps plan before pending [] → IsLawfulLine plan before (call_line line call.source call) → pending_number call.reply.outcome ≡ [] → fatal_number call.reply.outcome ≡ [] → (number_of call.reply.outcome ≡ []) ⊎ (number_of call.reply.outcome ≡ (acknowledged call.source (calls_in before) + 1) ∷ []) → Keeps plan (call_line line call.source call ∷ before) pending []
keeps_other plan before pending line call k l none mild number =
    let fatal : fatal_names (calls_in before ++ call ∷ []) ≡ fatal_names (calls_in before) = fatal_push (calls_in before) call [] mild ∙ append-nil _ in
    let queued : queued_names (calls_in before ++ call ∷ []) ≡ queued_names (calls_in before) = queued_push (calls_in before) call [] none ∙ append-nil _ in
    record {
      lines = (k.lines, l);
      counts = counts_push before call k.counts number;
      order = λ c. ap (λ ts. served_by plan c ((taken_names ts ++ map name_of pending) ++ [])) (append-nil (taken_in before)) ∙ k.order c ∙ ap (served_by plan c) (sym queued);
      images = images_later plan before (call_line line call.source call) pending k.images;
      panic_images = tt;
      panic_order = refl;
      fatal_blocks = k.fatal_blocks ∙ sym fatal;
      no_panic = λ empty. refl;
    }

-- packets in the panic list
names-waiting : (packets : List PacketSeen) (last : PacketSeen) → panic_names (waiting (map (panic_entry false) packets ++ panic_entry true last ∷ [])) ≡ map name_of packets
names-waiting [] last = refl
names-waiting (packet ∷ packets) last = ap (λ xs. name_of packet ∷ xs) (names-waiting packets last)

names-fatals : (packets : List PacketSeen) (last : PacketSeen) → fatals (map (panic_entry false) packets ++ panic_entry true last ∷ []) ≡ panic_entry true last ∷ []
names-fatals [] last = refl
names-fatals (packet ∷ packets) last = names-fatals packets last

waiting-list : (packets : List PacketSeen) (last : PacketSeen) → waiting (map (panic_entry false) packets ++ panic_entry true last ∷ []) ≡ map (panic_entry false) packets
waiting-list [] last = refl
waiting-list (packet ∷ packets) last = ap (λ xs. panic_entry false packet ∷ xs) (waiting-list packets last)

panic_are_images : (plan : Plan) (history : List Executed) (packets : List PacketSeen) (last : PacketSeen) → AllByRecursion (IsImageIn plan history) packets → IsImageIn plan history last → AllByRecursion (λ entry. IsImageIn plan history (panic_packet entry)) (map (panic_entry false) packets ++ panic_entry true last ∷ [])
panic_are_images plan history [] last all here = (here, tt)
panic_are_images plan history (packet ∷ packets) last all here = (all.0, panic_are_images plan history packets last all.1 here)

-- after a fatal call: all that was pending, and then its block
pub keeps_fatal : (plan : Plan) (before : List Executed) (pending : List PacketSeen) (line : ℕ) (call : Call) (packet : PacketSeen) → Keeps plan before pending [] → fatal_names (calls_in before) ≡ [] → IsLawfulLine plan before (call_line line call.source call) → pending_number call.reply.outcome ≡ [] → fatal_number call.reply.outcome ≡ packet.seq ∷ [] → number_of call.reply.outcome ≡ (acknowledged call.source (calls_in before) + 1) ∷ [] → packet.source ≡ call.source → IsImageIn plan before packet → Keeps plan (call_line line call.source call ∷ before) [] (map (panic_entry false) pending ++ panic_entry true packet ∷ [])
keeps_fatal plan before pending line call packet k mild l none is number source image =
    let history = call_line line call.source call ∷ before in
    let fatal : fatal_names (calls_in before ++ call ∷ []) ≡ (call.source, packet.seq) ∷ [] = fatal_push (calls_in before) call (packet.seq ∷ []) is ∙ ap (λ xs. xs ++ (call.source, packet.seq) ∷ []) mild in
    let queued : queued_names (calls_in before ++ call ∷ []) ≡ queued_names (calls_in before) = queued_push (calls_in before) call [] none ∙ append-nil _ in
    record {
      lines = (k.lines, l);
      counts = counts_push before call k.counts (inr number);
      order = λ c.
          ap (λ xs. served_by plan c (xs ++ panic_names (waiting (map (panic_entry false) pending ++ panic_entry true packet ∷ [])))) (append-nil (taken_names (taken_in before ++ [])) ∙ ap taken_names (append-nil (taken_in before)))
          ∙ ap (λ xs. served_by plan c (taken_names (taken_in before) ++ xs)) (names-waiting pending packet)
          ∙ ap (served_by plan c) (sym (append-nil (taken_names (taken_in before) ++ map name_of pending))) ∙ k.order c ∙ ap (served_by plan c) (sym queued);
      images = tt;
      panic_images = panic_are_images plan history pending packet (images_later plan before (call_line line call.source call) pending k.images) (image_later plan before (call_line line call.source call) packet image);
      panic_order = ap (λ xs. xs ++ panic_entry true packet ∷ []) (sym (waiting-list pending packet)) ∙ ap (λ xs. waiting (map (panic_entry false) pending ++ panic_entry true packet ∷ []) ++ xs) (sym (names-fatals pending packet));
      fatal_blocks = ap panic_names (names-fatals pending packet) ∙ ap (λ s. (s, packet.seq) ∷ []) source ∙ sym fatal;
      no_panic = λ empty. absurd (one_is_none (call.source, packet.seq) (sym fatal ∙ empty));
    }
  where
    one_is_none : (name : ℕ × ℕ) → name ∷ [] ≡ [] → ⊥
    one_is_none name e = cc

-- at the end, where nothing is pending, the ledger is lawful
pub lawful_at_end : (plan : Plan) (lines : List Act) (kept : Kept) (history : List Executed) (executed : List Act) → Keeps plan history [] kept.panic → AreExecuted lines executed history → Tells plan kept history → IsLawful plan lines kept history
lawful_at_end plan lines kept history executed k which tells = record {
  executed = executed;
  lines_executed = which;
  beside = tells;
  each_line = k.lines;
  numbers = k.counts;
  order = λ c. ap (λ ts. served_by plan c (taken_names ts ++ panic_names (waiting kept.panic))) tells.taken ∙ ap (λ xs. served_by plan c (xs ++ panic_names (waiting kept.panic))) (sym (append-nil (taken_names (taken_in history)))) ∙ k.order c;
  panic_order = k.panic_order;
  fatal_blocks = k.fatal_blocks;
  no_panic = k.no_panic;
  panic_images = k.panic_images;
}

-- after a line `raise`
pub keeps_raise : (plan : Plan) (before : List Executed) (pending : List PacketSeen) (n s : ℕ) (block : List ℕ) → Keeps plan before pending [] → fatal_names (calls_in before) ≡ [] → Keeps plan (raise_line n s block ∷ before) pending []
keeps_raise plan before pending n s block k none =
    let same : calls_in before ++ [] ≡ calls_in before = append-nil (calls_in before) in
    record {
      lines = (k.lines, lawful_raise plan n s block before none (few_of plan before k.lines));
      counts = λ t. ap (numbers_of t) same ∙ k.counts t ∙ ap (λ xs. range_with_len 1 (acknowledged t xs)) (sym same);
      order = λ c. ap (λ ts. served_by plan c ((taken_names ts ++ map name_of pending) ++ [])) (append-nil (taken_in before)) ∙ k.order c ∙ ap (λ xs. served_by plan c (queued_names xs)) (sym same);
      images = images_later plan before (raise_line n s block) pending k.images;
      panic_images = tt;
      panic_order = refl;
      fatal_blocks = k.fatal_blocks ∙ ap fatal_names (sym same);
      no_panic = λ empty. refl;
    }

-- after a line `work`
pub keeps_work : (plan : Plan) (before : List Executed) (pending : List PacketSeen) (n : ℕ) → Keeps plan before pending [] → fatal_names (calls_in before) ≡ [] → Keeps plan (work_line plan n before pending ∷ before) [] []
keeps_work plan before pending n k none =
    let same : calls_in before ++ [] ≡ calls_in before = append-nil (calls_in before) in
    let old = taken_names (taken_in before) ++ map name_of pending in
    let order : (c : ℕ) → served_by plan c old ≡ served_by plan c (queued_names (calls_in before)) = λ c. ap (served_by plan c) (sym (append-nil old)) ∙ k.order c in
    let taken : taken_names (taken_in before ++ takings plan.places (clock_after before) (reports_in before) pending) ≡ old =
    map-append _ (taken_in before) (takings plan.places (clock_after before) (reports_in before) pending) ∙ ap (λ xs. taken_names (taken_in before) ++ xs) (names-takings plan.places (clock_after before) (reports_in before) pending) in
    record {
      lines = (k.lines, lawful_work plan n before pending none order k.images (few_of plan before k.lines));
      counts = λ t. ap (numbers_of t) same ∙ k.counts t ∙ ap (λ xs. range_with_len 1 (acknowledged t xs)) (sym same);
      order = λ c. ap (served_by plan c) (append-nil _ ∙ append-nil _ ∙ taken) ∙ order c ∙ ap (λ xs. served_by plan c (queued_names xs)) (sym same);
      images = tt;
      panic_images = tt;
      panic_order = refl;
      fatal_blocks = k.fatal_blocks ∙ ap fatal_names (sym same);
      no_panic = λ empty. refl;
    }
