-- A Duplicate call names a report of the same bytes within the window.
use Rattle.std.proofs.Common.{◌≡◌, ℕ, Bool, true, false, cond, eqb, List, [], ◌∷◌, ◌++◌, length, take, refl, sym, ap, subst, ◌∙◌, append-nil, Option, Some}
use Rattle.std.proofs.lemmas.Bool.{eq-eqb}
use Rattle.cper_block.specs.Image.{image_of}
use Rattle.ghes_call.specs.declared.call.Call.{Call}
use Rattle.ghes_call.specs.declared.call.Outcome.{Outcome}
use Rattle.ghes_call.specs.declared.call.Outcome.TheVariants.{Nothing, Queued, Malformed, Duplicate, Fatal, NoSlot, Fault, Stopped}
use Rattle.ghes_ledger.specs.declared.ledger.Report.{Report}
use Rattle.ghes_ledger.specs.History.{Act, Executed, calls_in, on_source, of_context, Each, EachCall}
use Rattle.ghes_ledger.specs.Kept.{Kept}
use Rattle.ghes_ledger.specs.Lawful.{FitsBlock, FitsLook, Looks, NamesReport, IsLawfulCall, IsLawfulLine, IsLawful}
use Rattle.ghes_ledger.specs.Plan.{Plan}
use Rattle.ghes_ledger.specs.Queue.{standing}
use Rattle.ghes_ledger.specs.Reports.{hit, reports_in}
use Rattle.ghes_ledger.proofs.HitLemmas.{hit_is, found_in_all}
use Rattle.ghes_ledger.proofs.RunLemmas.{standing_same, on_push, other_source}

-- one call, told what its look says of the block that stands
named : (plan : Plan) (before : List Executed) (line : Executed) (sees : ℕ) (past : List Call) (call : Call) (outcome : Outcome) → FitsBlock (plan.limit call.source) (standing call.source before past) outcome → FitsLook plan.places (plan.limit call.source) (standing call.source before past) (take sees (reports_in (line ∷ before))) call.now outcome → NamesReport plan before line past call outcome
named plan before line sees past call (Duplicate n r) fits look =
    let limit = plan.limit call.source in
    let all = reports_in (line ∷ before) in
    let block : List ℕ = fits.0 in
    let stands : standing call.source before past ≡ Some block = fits.1 in
    let found : hit plan.places (take sees all) (image_of limit block) call.now ≡ Some r = subst (λ (s : Option (List ℕ)). FitsLook plan.places limit s (take sees all) call.now (Duplicate n r)) stands look in
    (block, stands, found_in_all all sees (image_of limit block) call.now r (hit_is plan.places (take sees all) (image_of limit block) call.now r found))
named plan before line sees past call Nothing fits look = tt
named plan before line sees past call (Queued n) fits look = tt
named plan before line sees past call (Malformed n m) fits look = tt
named plan before line sees past call (Fatal n) fits look = tt
named plan before line sees past call NoSlot fits look = tt
named plan before line sees past call Fault fits look = tt
named plan before line sees past call Stopped fits look = tt

-- how the calls of a context go on to look
record GoesOn (plan : Plan) (before : List Executed) (all : List Report) (mine calls : List Call) : Type 0 where
  seen : ℕ
  looks : Looks plan before all seen mine calls

looks_on : (b : Bool) (plan : Plan) (before : List Executed) (all : List Report) (seen : ℕ) (mine : List Call) (call : Call) (calls : List Call) → Looks plan before all seen mine (cond b (call ∷ calls) calls) → GoesOn plan before all (cond b (mine ++ call ∷ []) mine) calls
looks_on true plan before all seen mine call calls l = record { seen = l.0; looks = l.4 }
looks_on false plan before all seen mine call calls l = record { seen = seen; looks = l }

alike_on : (b : Bool) (plan : Plan) (s d : ℕ) (past mine : List Call) (call : Call) → eqb call.context d ≡ b → call.context ≡ plan.server call.source → plan.server s ≡ d → on_source s past ≡ on_source s mine → on_source s (past ++ call ∷ []) ≡ on_source s (cond b (mine ++ call ∷ []) mine)
alike_on true plan s d past mine call e by is same = on_push s past call ∙ ap (λ xs. xs ++ cond (eqb call.source s) (call ∷ []) []) same ∙ sym (on_push s mine call)
alike_on false plan s d past mine call e by is same =
    on_push s past call ∙ ap (λ b. on_source s past ++ cond b (call ∷ []) []) (other_source plan s d call e by is) ∙ append-nil (on_source s past) ∙ same

names_each : (plan : Plan) (before : List Executed) (line : Executed) (past : List Call) (mine : ℕ → List Call) (calls : List Call) → EachCall (IsLawfulCall plan before line) past calls → ((d s : ℕ) → plan.server s ≡ d → on_source s past ≡ on_source s (mine d)) → ((d : ℕ) → GoesOn plan before (reports_in (line ∷ before)) (mine d) (of_context d calls)) → EachCall (λ xs call. NamesReport plan before line xs call call.reply.outcome) past calls
names_each plan before line past mine [] each alike goes = tt
names_each plan before line past mine (call ∷ calls) each alike goes =
    let c = call.context in
    let all = reports_in (line ∷ before) in
    let own : plan.server call.source ≡ c = sym each.0.by.context in
    let rest = of_context c calls in
    let here : Looks plan before all (goes c).seen (mine c) (call ∷ rest) = subst (λ (b : Bool). Looks plan before all (goes c).seen (mine c) (cond b (call ∷ rest) rest)) (eq-eqb c c refl) (goes c).looks in
    let stands : standing call.source before (mine c) ≡ standing call.source before past = standing_same call.source before (mine c) past (sym (alike c call.source own)) in
    let look = subst (λ (s : Option (List ℕ)). FitsLook plan.places (plan.limit call.source) s (take here.0 all) call.now call.reply.outcome) stands here.3 in (
      named plan before line here.0 past call call.reply.outcome each.0.block look,
      names_each plan before line (past ++ call ∷ []) (λ d. cond (eqb c d) (mine d ++ call ∷ []) (mine d)) calls each.1
          (λ d s is. alike_on (eqb c d) plan s d past (mine d) call refl each.0.by.context is (alike d s is))
          (λ d. looks_on (eqb c d) plan before all (goes d).seen (mine d) call (of_context d calls) (goes d).looks),
    )

each_names : (plan : Plan) (history : List Executed) → Each (IsLawfulLine plan) history → Each (λ before line. EachCall (λ past call. NamesReport plan before line past call call.reply.outcome) (calls_in before) line.calls) history
each_names plan [] each = tt
each_names plan (line ∷ before) each = (
  each_names plan before each.0,
  names_each plan before line (calls_in before) (λ d. calls_in before) line.calls each.1.each_call (λ d s is. refl) (λ d. record { seen = length (reports_in before); looks = each.1.looks d }),
)

-- each Duplicate call of a lawful ledger
pub duplicates_were_reported : (plan : Plan) (lines : List Act) (kept : Kept) (history : List Executed) → IsLawful plan lines kept history → Each (λ before line. EachCall (λ past call. NamesReport plan before line past call call.reply.outcome) (calls_in before) line.calls) history
duplicates_were_reported plan lines kept history l = each_names plan history l.each_line
