-- How a lawful history goes on by a line that takes all that is pending.
use Rattle.std.proofs.Common.{◌≡◌, ◌≤◌, ℕ, List, [], ◌∷◌, ◌++◌, map, length, refl, sym, ap, subst, ◌∙◌, append-nil, Option, Some, None}
use Rattle.std.specs.List.{AllByRecursion}
use Rattle.std.proofs.lemmas.List.{map-append}
use Rattle.cper_block.specs.declared.malformed.Malformed.{Malformed as Reason}
use Rattle.ghes_call.specs.Packet.{PacketSeen}
use Rattle.ghes_ledger.specs.declared.ledger.Report.{Report}
use Rattle.ghes_ledger.specs.declared.ledger.Taken.{Taken}
use Rattle.ghes_ledger.specs.Asks.{Drains}
use Rattle.ghes_ledger.specs.History.{Executed, calls_in, taken_in, clock_after}
use Rattle.ghes_ledger.specs.Lawful.{IsImageIn, IsLawfulLine}
use Rattle.ghes_ledger.specs.Names.{packet_of, name_of, taken_names, queued_names, fatal_names, served_by}
use Rattle.ghes_ledger.specs.Plan.{Plan}
use Rattle.ghes_ledger.specs.Queue.{faulty_calls, fails_in}
use Rattle.ghes_ledger.specs.Kept.{told_as, taken_by, report_at}
use Rattle.ghes_ledger.specs.Reports.{hit, reports_in, AreTold}

-- what becomes of a packet that is taken at a time, after these reports
abbrev taken_at : Option Reason → ℕ → ℕ → List Report → PacketSeen → Taken
taken_at reason k time reports packet = taken_by reason (told_as (hit k reports packet.bytes time) (length reports)) packet

abbrev pub takings : ℕ → ℕ → List Report → List PacketSeen → List Taken
takings k time reports [] = []
takings k time reports (packet ∷ packets) = taken_at packet.reason k time reports packet ∷ takings k time (reports ++ report_at time (taken_at packet.reason k time reports packet)) packets

abbrev packet_with : PacketSeen → Option Reason → PacketSeen
packet_with packet reason = record { source = packet.source; seq = packet.seq; reason = reason; bytes = packet.bytes }

packet_taken : (reason : Option Reason) (k time : ℕ) (reports : List Report) (packet : PacketSeen) → packet.reason ≡ reason → packet_of (taken_at reason k time reports packet) ≡ packet
packet_taken (Some reason) k time reports packet is = ap (packet_with packet) (sym is)
packet_taken None k time reports packet is = ap (packet_with packet) (sym is)

pub names-takings : (k time : ℕ) (reports : List Report) (packets : List PacketSeen) → taken_names (takings k time reports packets) ≡ map name_of packets
names-takings k time reports [] = refl
names-takings k time reports (packet ∷ packets) =
    let first = taken_at packet.reason k time reports packet in
    ap (λ (p : PacketSeen). name_of p ∷ taken_names (takings k time (reports ++ report_at time first) packets)) (packet_taken packet.reason k time reports packet refl)
    ∙ ap (λ rest. name_of packet ∷ rest) (names-takings k time (reports ++ report_at time first) packets)

pub images-takings : (plan : Plan) (before : List Executed) (k time : ℕ) (reports : List Report) (packets : List PacketSeen) → AllByRecursion (IsImageIn plan before) packets → AllByRecursion (λ entry. IsImageIn plan before (packet_of entry)) (takings k time reports packets)
images-takings plan before k time reports [] all = tt
images-takings plan before k time reports (packet ∷ packets) all = (
  subst (λ (p : PacketSeen). IsImageIn plan before p) (sym (packet_taken packet.reason k time reports packet refl)) all.0,
  images-takings plan before k time (reports ++ report_at time (taken_at packet.reason k time reports packet)) packets all.1,
)

is_told : (reason : Option Reason) (k time : ℕ) (reports : List Report) (packet : PacketSeen) (taken : List Taken) → AreTold k time (reports ++ report_at time (taken_at reason k time reports packet)) taken → AreTold k time reports (taken_at reason k time reports packet ∷ taken)
is_told (Some reason) k time reports packet taken rest = (tt, rest)
is_told None k time reports packet taken rest = (refl, rest)

pub told-takings : (k time : ℕ) (reports : List Report) (packets : List PacketSeen) → AreTold k time reports (takings k time reports packets)
told-takings k time reports [] = tt
told-takings k time reports (packet ∷ packets) =
    is_told packet.reason k time reports packet _ (told-takings k time (reports ++ report_at time (taken_at packet.reason k time reports packet)) packets)

-- a line `work` that takes these packets
abbrev pub work_line : Plan → ℕ → List Executed → List PacketSeen → Executed
work_line plan n before packets = record { act = record { number = n; asks = Drains }; made = []; calls = []; ends = []; peeks = []; taken = takings plan.places (clock_after before) (reports_in before) packets }

-- after a line `work` that takes all that is pending
pub lawful_work : (plan : Plan) (n : ℕ) (before : List Executed) (pending : List PacketSeen) → fatal_names (calls_in before) ≡ [] → ((c : ℕ) → served_by plan c (taken_names (taken_in before) ++ map name_of pending) ≡ served_by plan c (queued_names (calls_in before))) → AllByRecursion (IsImageIn plan before) pending → ((t : ℕ) → length (faulty_calls t (calls_in before)) ≤ fails_in t before) → IsLawfulLine plan before (work_line plan n before pending)
lawful_work plan n before pending none order images few = record {
  stops = none;
  makes = (refl, refl);
  peeks = refl;
  calls = refl;
  each_call = tt;
  room = tt;
  looks = λ c. tt;
  faults = λ t. subst (λ cs. length (faulty_calls t cs) ≤ fails_in t before) (sym (append-nil (calls_in before))) (few t);
  takes = λ no_fatal c.
      ap (served_by plan c) (map-append _ (taken_in before) (takings plan.places (clock_after before) (reports_in before) pending) ∙ ap (λ xs. taken_names (taken_in before) ++ xs) (names-takings plan.places (clock_after before) (reports_in before) pending))
      ∙ order c ∙ ap (λ cs. served_by plan c (queued_names cs)) (sym (append-nil (calls_in before)));
  told = told-takings plan.places (clock_after before) (reports_in before) pending;
  images = images-takings plan before plan.places (clock_after before) (reports_in before) pending images;
}
