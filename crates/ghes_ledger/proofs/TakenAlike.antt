-- Taken blocks, and blocks of a panic list, are determined by their names.
use Rattle.std.proofs.Common.{◌≡◌, ℕ, Bool, true, false, cond, List, [], ◌∷◌, ◌++◌, length, refl, sym, ap, subst, ◌∙◌, Option, Some, None}
use Rattle.std.specs.Prelude.{not}
use Rattle.std.specs.List.{AllByRecursion}
use Rattle.cper_block.specs.declared.malformed.Malformed.{Malformed as Reason}
use Rattle.ghes_call.specs.Packet.{PacketSeen}
use Rattle.ghes_ledger.specs.declared.ledger.PanicEntry.{PanicEntry}
use Rattle.ghes_ledger.specs.declared.ledger.Report.{Report}
use Rattle.ghes_ledger.specs.declared.ledger.Taken.{Taken}
use Rattle.ghes_ledger.specs.declared.ledger.Taken.TheVariants.{Delivered, Dropped}
use Rattle.ghes_ledger.specs.History.{Executed}
use Rattle.cper_block.specs.Image.{image_of, image_reason}
use Rattle.ghes_ledger.specs.Lawful.{IsImageIn}
use Rattle.ghes_ledger.specs.Names.{packet_of, panic_packet, name_of, taken_names, panic_names, waiting, fatals}
use Rattle.ghes_ledger.specs.Plan.{Plan}
use Rattle.ghes_ledger.specs.Queue.{queue, block_at}
use Rattle.ghes_ledger.specs.Kept.{report_at, told_as}
use Rattle.ghes_ledger.specs.Reports.{hit, AreTold}

abbrev packet_with : ℕ → ℕ → Option Reason → List ℕ → PacketSeen
packet_with s n reason bytes = record { source = s; seq = n; reason = reason; bytes = bytes }

some_is : (x y : List ℕ) → Some x ≡ Some y → x ≡ y
some_is x y e = cc

-- two images of one name are one packet
pub packet_alike : (plan : Plan) (history : List Executed) (p q : PacketSeen) → name_of p ≡ name_of q → IsImageIn plan history p → IsImageIn plan history q → p ≡ q
packet_alike plan history p q e i j =
    let source : p.source ≡ q.source = ap (λ (name : ℕ × ℕ). name.0) e in
    let seq : p.seq ≡ q.seq = ap (λ (name : ℕ × ℕ). name.1) e in
    let block : i.block ≡ j.block = some_is i.block j.block (sym i.at ∙ ap (λ s. block_at p.seq (queue s history)) source ∙ ap (λ n. block_at n (queue q.source history)) seq ∙ j.at) in
    let bytes : p.bytes ≡ q.bytes = i.bytes ∙ ap (λ s. image_of (plan.limit s) i.block) source ∙ ap (image_of (plan.limit q.source)) block ∙ sym j.bytes in
    let reason : p.reason ≡ q.reason = i.reason ∙ ap (λ s. image_reason (plan.limit s) i.block) source ∙ ap (image_reason (plan.limit q.source)) block ∙ sym j.reason in
    ap (λ s. packet_with s p.seq p.reason p.bytes) source ∙ ap (λ n. packet_with q.source n p.reason p.bytes) seq
    ∙ ap (λ r. packet_with q.source q.seq r p.bytes) reason ∙ ap (λ b. packet_with q.source q.seq q.reason b) bytes

none_is_some : (reason : Reason) → None ≡ Some reason → ⊥
none_is_some reason e = cc

reason_is : (x y : Reason) → Some x ≡ Some y → x ≡ y
reason_is x y e = cc

-- two taken blocks of one packet, told by the same reports
entry_alike : (k time : ℕ) (reports : List Report) (x y : Taken) (xs ys : List Taken) → packet_of x ≡ packet_of y → AreTold k time reports (x ∷ xs) → AreTold k time reports (y ∷ ys) → x ≡ y
entry_alike k time reports (Delivered s n b r) (Delivered s' n' b' r') xs ys e told told' =
    let bytes : b ≡ b' = ap (λ p. p.bytes) e in
    let reported : r ≡ r' = told.0 ∙ ap (λ c. told_as (hit k reports c time) (length reports)) bytes ∙ sym told'.0 in
    ap (λ s. Delivered s n b r) (ap (λ p. p.source) e) ∙ ap (λ n. Delivered s' n b r) (ap (λ p. p.seq) e)
    ∙ ap (λ b. Delivered s' n' b r) bytes ∙ ap (λ r. Delivered s' n' b' r) reported
entry_alike k time reports (Delivered s n b r) (Dropped s' n' b' m) xs ys e told told' = absurd (none_is_some m (ap (λ p. p.reason) e))
entry_alike k time reports (Dropped s n b m) (Delivered s' n' b' r) xs ys e told told' = absurd (none_is_some m (sym (ap (λ p. p.reason) e)))
entry_alike k time reports (Dropped s n b m) (Dropped s' n' b' m') xs ys e told told' =
    ap (λ s. Dropped s n b m) (ap (λ p. p.source) e) ∙ ap (λ n. Dropped s' n b m) (ap (λ p. p.seq) e)
    ∙ ap (λ b. Dropped s' n' b m) (ap (λ p. p.bytes) e) ∙ ap (λ m. Dropped s' n' b' m) (reason_is m m' (ap (λ p. p.reason) e))

head_is : (x y : ℕ × ℕ) (xs ys : List (ℕ × ℕ)) → x ∷ xs ≡ y ∷ ys → x ≡ y
head_is x y xs ys e = cc

rest_is : (x y : ℕ × ℕ) (xs ys : List (ℕ × ℕ)) → x ∷ xs ≡ y ∷ ys → xs ≡ ys
rest_is x y xs ys e = cc

nil_is_cons : (x : ℕ × ℕ) (xs : List (ℕ × ℕ)) → [] ≡ x ∷ xs → ⊥
nil_is_cons x xs e = cc

-- taken blocks with the same names, that are images and told by the same reports, are the same
pub taken_alike : (plan : Plan) (history : List Executed) (k time : ℕ) (reports : List Report) (xs ys : List Taken) → taken_names xs ≡ taken_names ys → AllByRecursion (λ entry. IsImageIn plan history (packet_of entry)) xs → AllByRecursion (λ entry. IsImageIn plan history (packet_of entry)) ys → AreTold k time reports xs → AreTold k time reports ys → xs ≡ ys
taken_alike plan history k time reports [] [] e is js told told' = refl
taken_alike plan history k time reports [] (y ∷ ys) e is js told told' = absurd (nil_is_cons _ _ e)
taken_alike plan history k time reports (x ∷ xs) [] e is js told told' = absurd (nil_is_cons _ _ (sym e))
taken_alike plan history k time reports (x ∷ xs) (y ∷ ys) e is js told told' =
    let packet : packet_of x ≡ packet_of y = packet_alike plan history (packet_of x) (packet_of y) (head_is (name_of (packet_of x)) (name_of (packet_of y)) (taken_names xs) (taken_names ys) e) is.0 js.0 in
    let first : x ≡ y = entry_alike k time reports x y xs ys packet told told' in
    let later : AreTold k time (reports ++ report_at time x) ys = subst (λ (z : Taken). AreTold k time (reports ++ report_at time z) ys) (sym first) told'.1 in
    let rest : xs ≡ ys = taken_alike plan history k time (reports ++ report_at time x) xs ys (rest_is (name_of (packet_of x)) (name_of (packet_of y)) (taken_names xs) (taken_names ys) e) is.1 js.1 told.1 later in
    ap (λ z. z ∷ xs) first ∙ ap (λ zs. y ∷ zs) rest

-- Panic lists

abbrev entry_with : PacketSeen → Bool → PanicEntry
entry_with packet fatal = record { source = packet.source; seq = packet.seq; bytes = packet.bytes; reason = packet.reason; fatal = fatal }

panic_alike : (plan : Plan) (history : List Executed) (fatal : Bool) (xs ys : List PanicEntry) → panic_names xs ≡ panic_names ys → AllByRecursion (λ entry. IsImageIn plan history (panic_packet entry)) xs → AllByRecursion (λ entry. IsImageIn plan history (panic_packet entry)) ys → AllByRecursion (λ entry. entry.fatal ≡ fatal) xs → AllByRecursion (λ entry. entry.fatal ≡ fatal) ys → xs ≡ ys
panic_alike plan history fatal [] [] e is js fs gs = refl
panic_alike plan history fatal [] (y ∷ ys) e is js fs gs = absurd (nil_is_cons _ _ e)
panic_alike plan history fatal (x ∷ xs) [] e is js fs gs = absurd (nil_is_cons _ _ (sym e))
panic_alike plan history fatal (x ∷ xs) (y ∷ ys) e is js fs gs =
    let packet : panic_packet x ≡ panic_packet y = packet_alike plan history (panic_packet x) (panic_packet y) (head_is (name_of (panic_packet x)) (name_of (panic_packet y)) (panic_names xs) (panic_names ys) e) is.0 js.0 in
    let first : x ≡ y = ap (λ p. entry_with p x.fatal) packet ∙ ap (entry_with (panic_packet y)) (fs.0 ∙ sym gs.0) in
    ap (λ z. z ∷ xs) first ∙ ap (λ zs. y ∷ zs) (panic_alike plan history fatal xs ys (rest_is (name_of (panic_packet x)) (name_of (panic_packet y)) (panic_names xs) (panic_names ys) e) is.1 js.1 fs.1 gs.1)

filtered : {A : Type 0} (P : A → Type 0) (b : Bool) (x : A) (xs : List A) → P x → AllByRecursion P xs → AllByRecursion P (cond b (x ∷ xs) xs)
filtered P true x xs p all = (p, all)
filtered P false x xs p all = all

all_waiting : (P : PanicEntry → Type 0) (panic : List PanicEntry) → AllByRecursion P panic → AllByRecursion P (waiting panic)
all_waiting P [] all = tt
all_waiting P (x ∷ xs) all = filtered P (not x.fatal) x (waiting xs) all.0 (all_waiting P xs all.1)

all_fatals : (P : PanicEntry → Type 0) (panic : List PanicEntry) → AllByRecursion P panic → AllByRecursion P (fatals panic)
all_fatals P [] all = tt
all_fatals P (x ∷ xs) all = filtered P x.fatal x (fatals xs) all.0 (all_fatals P xs all.1)

flagged : (b fatal : Bool) (x : PanicEntry) (xs : List PanicEntry) → (b ≡ true → x.fatal ≡ fatal) → AllByRecursion (λ entry. entry.fatal ≡ fatal) xs → AllByRecursion (λ entry. entry.fatal ≡ fatal) (cond b (x ∷ xs) xs)
flagged true fatal x xs e all = (e refl, all)
flagged false fatal x xs e all = all

not_true : (b : Bool) → not b ≡ true → b ≡ false
not_true true e = absurd cc
not_true false e = refl

waiting_flags : (panic : List PanicEntry) → AllByRecursion (λ entry. entry.fatal ≡ false) (waiting panic)
waiting_flags [] = tt
waiting_flags (x ∷ xs) = flagged (not x.fatal) false x (waiting xs) (not_true x.fatal) (waiting_flags xs)

fatals_flags : (panic : List PanicEntry) → AllByRecursion (λ entry. entry.fatal ≡ true) (fatals panic)
fatals_flags [] = tt
fatals_flags (x ∷ xs) = flagged x.fatal true x (fatals xs) (λ e. e) (fatals_flags xs)

-- two panic lists with the same waiting and the same fatal names
pub panics_alike : (plan : Plan) (history : List Executed) (xs ys : List PanicEntry) → xs ≡ waiting xs ++ fatals xs → ys ≡ waiting ys ++ fatals ys → panic_names (waiting xs) ≡ panic_names (waiting ys) → panic_names (fatals xs) ≡ panic_names (fatals ys) → AllByRecursion (λ entry. IsImageIn plan history (panic_packet entry)) xs → AllByRecursion (λ entry. IsImageIn plan history (panic_packet entry)) ys → xs ≡ ys
panics_alike plan history xs ys ordered ordered' waits ends is js =
    let P : PanicEntry → Type 0 = λ entry. IsImageIn plan history (panic_packet entry) in
    let w : waiting xs ≡ waiting ys = panic_alike plan history false (waiting xs) (waiting ys) waits (all_waiting P xs is) (all_waiting P ys js) (waiting_flags xs) (waiting_flags ys) in
    let f : fatals xs ≡ fatals ys = panic_alike plan history true (fatals xs) (fatals ys) ends (all_fatals P xs is) (all_fatals P ys js) (fatals_flags xs) (fatals_flags ys) in
    ordered ∙ ap (λ zs. zs ++ fatals xs) w ∙ ap (λ zs. waiting ys ++ zs) f ∙ sym ordered'
