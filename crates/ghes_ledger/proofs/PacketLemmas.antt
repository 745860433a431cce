-- The packets of a source in a lawful ledger, in order.
use Rattle.std.proofs.Common.{◌≡◌, ℕ, Bool, true, false, cond, eqb, List, [], ◌∷◌, ◌++◌, map, refl, sym, ap, ◌∙◌, Option, Some, None}
use Rattle.std.specs.Prelude.{filter}
use Rattle.std.specs.List.{flat_map, AllByRecursion}
use Rattle.std.proofs.lemmas.Bool.{eqb-true, eq-eqb}
use Rattle.std.proofs.lemmas.List.{map-append}
use Rattle.std.proofs.lemmas.List.Elements.{filter-append}
use Rattle.cper_block.specs.declared.malformed.Malformed.{Malformed as Reason}
use Rattle.ghes_call.specs.declared.call.Call.{Call}
use Rattle.ghes_call.specs.Packet.{PacketSeen}
use Rattle.ghes_ledger.specs.History.{Executed, calls_in}
use Rattle.cper_block.specs.Image.{image_of, image_reason}
use Rattle.ghes_ledger.specs.Lawful.{IsImageIn}
use Rattle.ghes_ledger.specs.Names.{name_of, queued_names, served_by}
use Rattle.ghes_ledger.specs.Outcomes.{pending_number}
use Rattle.ghes_ledger.specs.Plan.{Plan}
use Rattle.ghes_ledger.specs.Queue.{queue, block_at}

-- the packets and the names of one source
abbrev of_source : ℕ → List PacketSeen → List PacketSeen
of_source s packets = filter (λ packet. eqb packet.source s) packets

abbrev names_of : ℕ → List (ℕ × ℕ) → List (ℕ × ℕ)
names_of s names = filter (λ name. eqb name.0 s) names

-- the numbers of a source that calls made pending
abbrev pending_of : ℕ → List Call → List ℕ
pending_of s calls = flat_map (λ call. cond (eqb call.source s) (pending_number call.reply.outcome) []) calls

-- the packet of a block, where there is one
abbrev packet_if : Plan → ℕ → ℕ → Option (List ℕ) → List PacketSeen
packet_if plan s n None = []
packet_if plan s n (Some block) = record { source = s; seq = n; reason = image_reason (plan.limit s) block; bytes = image_of (plan.limit s) block } ∷ []

names_here : (b : Bool) (s : ℕ) (packet : PacketSeen) (packets : List PacketSeen) → map name_of (of_source s packets) ≡ names_of s (map name_of packets) → map name_of (cond b (packet ∷ of_source s packets) (of_source s packets)) ≡ cond b (name_of packet ∷ names_of s (map name_of packets)) (names_of s (map name_of packets))
names_here true s packet packets e = ap (λ rest. name_of packet ∷ rest) e
names_here false s packet packets e = e

names_of-map : (s : ℕ) (packets : List PacketSeen) → map name_of (of_source s packets) ≡ names_of s (map name_of packets)
names_of-map s [] = refl
names_of-map s (packet ∷ packets) = names_here (eqb packet.source s) s packet packets (names_of-map s packets)

served_here : (b d : Bool) (plan : Plan) (s : ℕ) (name : ℕ × ℕ) (names : List (ℕ × ℕ)) → eqb name.0 s ≡ b → eqb (plan.server name.0) (plan.server s) ≡ d → names_of s (served_by plan (plan.server s) names) ≡ names_of s names → names_of s (cond d (name ∷ served_by plan (plan.server s) names) (served_by plan (plan.server s) names)) ≡ cond b (name ∷ names_of s names) (names_of s names)
served_here true true plan s name names e f rest = ap (λ b. cond b (name ∷ names_of s (served_by plan (plan.server s) names)) (names_of s (served_by plan (plan.server s) names))) e ∙ ap (λ xs. name ∷ xs) rest
served_here true false plan s name names e f rest =
    let own : eqb (plan.server name.0) (plan.server s) ≡ true = eq-eqb (plan.server name.0) (plan.server s) (ap plan.server (eqb-true name.0 s e)) in
    let never : false ≡ true = sym f ∙ own in
    absurd cc
served_here false true plan s name names e f rest = ap (λ b. cond b (name ∷ names_of s (served_by plan (plan.server s) names)) (names_of s (served_by plan (plan.server s) names))) e ∙ rest
served_here false false plan s name names e f rest = rest

names_served : (plan : Plan) (s : ℕ) (names : List (ℕ × ℕ)) → names_of s (served_by plan (plan.server s) names) ≡ names_of s names
names_served plan s [] = refl
names_served plan s (name ∷ names) = served_here (eqb name.0 s) (eqb (plan.server name.0) (plan.server s)) plan s name names refl refl (names_served plan s names)

all_names : (s source : ℕ) (numbers : List ℕ) (b : Bool) → eqb source s ≡ b → names_of s (map (λ number. (source, number)) numbers) ≡ map (λ number. (s, number)) (cond b numbers [])
all_names s source [] true e = refl
all_names s source [] false e = refl
all_names s source (n ∷ numbers) true e =
    ap (λ b. cond b ((source, n) ∷ names_of s (map (λ number. (source, number)) numbers)) (names_of s (map (λ number. (source, number)) numbers))) e
    ∙ ap (λ r. (r, n) ∷ names_of s (map (λ number. (source, number)) numbers)) (eqb-true source s e) ∙ ap (λ xs. (s, n) ∷ xs) (all_names s source numbers true e)
all_names s source (n ∷ numbers) false e =
    ap (λ b. cond b ((source, n) ∷ names_of s (map (λ number. (source, number)) numbers)) (names_of s (map (λ number. (source, number)) numbers))) e ∙ all_names s source numbers false e

queued_of : (s : ℕ) (calls : List Call) → names_of s (queued_names calls) ≡ map (λ number. (s, number)) (pending_of s calls)
queued_of s [] = refl
queued_of s (call ∷ calls) =
    let numbers = pending_number call.reply.outcome in
    filter-append (λ (name : ℕ × ℕ). eqb name.0 s) (map (λ number. (call.source, number)) numbers) (queued_names calls)
    ∙ ap (λ xs. xs ++ names_of s (queued_names calls)) (all_names s call.source numbers (eqb call.source s) refl)
    ∙ ap (λ xs. map (λ number. (s, number)) (cond (eqb call.source s) numbers []) ++ xs) (queued_of s calls)
    ∙ sym (map-append (λ number. (s, number)) (cond (eqb call.source s) numbers []) (pending_of s calls))

packet_with : ℕ → ℕ → Option Reason → List ℕ → PacketSeen
packet_with s n reason bytes = record { source = s; seq = n; reason = reason; bytes = bytes }

-- an image of this name is the packet of the block
image_is : (plan : Plan) (history : List Executed) (s n : ℕ) (packet : PacketSeen) → packet.source ≡ s → packet.seq ≡ n → IsImageIn plan history packet → packet ∷ [] ≡ packet_if plan s n (block_at n (queue s history))
unfolding packet_with
image_is plan history s n packet source seq i =
    let at : block_at n (queue s history) ≡ Some i.block = ap (λ r. block_at n (queue r history)) (sym source) ∙ ap (λ m. block_at m (queue packet.source history)) (sym seq) ∙ i.at in
    let bytes : packet.bytes ≡ image_of (plan.limit s) i.block = i.bytes ∙ ap (λ r. image_of (plan.limit r) i.block) source in
    let reason : packet.reason ≡ image_reason (plan.limit s) i.block = i.reason ∙ ap (λ r. image_reason (plan.limit r) i.block) source in
    ap (λ r. packet_with r packet.seq packet.reason packet.bytes ∷ []) source ∙ ap (λ m. packet_with s m packet.reason packet.bytes ∷ []) seq
    ∙ ap (λ r. packet_with s n r packet.bytes ∷ []) reason ∙ ap (λ b. packet_with s n (image_reason (plan.limit s) i.block) b ∷ []) bytes
    ∙ ap (packet_if plan s n) (sym at)

head_name : (x y : ℕ × ℕ) (xs ys : List (ℕ × ℕ)) → x ∷ xs ≡ y ∷ ys → x ≡ y
head_name x y xs ys e = cc

rest_names : (x y : ℕ × ℕ) (xs ys : List (ℕ × ℕ)) → x ∷ xs ≡ y ∷ ys → xs ≡ ys
rest_names x y xs ys e = cc

nil_is_cons : (x : ℕ × ℕ) (xs : List (ℕ × ℕ)) → [] ≡ x ∷ xs → ⊥
nil_is_cons x xs e = cc

images_are : (plan : Plan) (history : List Executed) (s : ℕ) (packets : List PacketSeen) (numbers : List ℕ) → map name_of packets ≡ map (λ number. (s, number)) numbers → AllByRecursion (IsImageIn plan history) packets → packets ≡ flat_map (λ n. packet_if plan s n (block_at n (queue s history))) numbers
images_are plan history s [] [] e all = refl
images_are plan history s [] (n ∷ numbers) e all = absurd (nil_is_cons (s, n) _ e)
images_are plan history s (packet ∷ packets) [] e all = absurd (nil_is_cons (name_of packet) _ (sym e))
images_are plan history s (packet ∷ packets) (n ∷ numbers) e all =
    let name : name_of packet ≡ (s, n) = head_name (name_of packet) (s, n) (map name_of packets) (map (λ number. (s, number)) numbers) e in
    let rest = images_are plan history s packets numbers (rest_names (name_of packet) (s, n) (map name_of packets) (map (λ number. (s, number)) numbers) e) all.1 in
    ap (λ xs. packet ∷ xs) rest
    ∙ ap (λ xs. xs ++ flat_map (λ m. packet_if plan s m (block_at m (queue s history))) numbers) (image_is plan history s n packet (ap (λ (x : ℕ × ℕ). x.0) name) (ap (λ (x : ℕ × ℕ). x.1) name) all.0)

filtered : (b : Bool) (P : PacketSeen → Type 0) (x : PacketSeen) (xs : List PacketSeen) → P x → AllByRecursion P xs → AllByRecursion P (cond b (x ∷ xs) xs)
filtered true P x xs p all = (p, all)
filtered false P x xs p all = all

all_of_source : (P : PacketSeen → Type 0) (s : ℕ) (packets : List PacketSeen) → AllByRecursion P packets → AllByRecursion P (of_source s packets)
all_of_source P s [] all = tt
all_of_source P s (x ∷ packets) all = filtered (eqb x.source s) P x (of_source s packets) all.0 (all_of_source P s packets all.1)

-- images with names in the order of each context are, for each source, the packets of its queued blocks in order
pub packets_of_source : (plan : Plan) (history : List Executed) (packets : List PacketSeen) → ((c : ℕ) → served_by plan c (map name_of packets) ≡ served_by plan c (queued_names (calls_in history))) → AllByRecursion (IsImageIn plan history) packets → (s : ℕ) → of_source s packets ≡ flat_map (λ n. packet_if plan s n (block_at n (queue s history))) (pending_of s (calls_in history))
packets_of_source plan history packets order all s =
    images_are plan history s (of_source s packets) (pending_of s (calls_in history))
    (names_of-map s packets ∙ sym (names_served plan s (map name_of packets)) ∙ ap (names_of s) (order (plan.server s)) ∙ names_served plan s (queued_names (calls_in history)) ∙ queued_of s (calls_in history))
    (all_of_source (IsImageIn plan history) s packets all)
