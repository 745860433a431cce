use Rattle.std.proofs.Common.{◌≡◌, ◌<◌, ◌+◌, ◌-◌, ◌++◌, ◌∷◌, [], true, None, length, take, drop, arith, sym, ap, ◌∙◌}
use Rattle.std.specs.List.{filter}
use Rattle.std.proofs.lemmas.List.{length-drop}
use Rattle.std.proofs.lemmas.Result.{err_from_is_err_and}
use Rattle.apei_einj.specs.Entry.{entry_of, is_injection}
use Rattle.apei_einj.specs.Refusal.{entry_refusal}
use Rattle.apei_einj.proofs.WalkLemmas.{walked_none, walked_more, walked_all, walked_stops, walked_room}
use Rattle.apei_einj.proofs.walk.walk.Goals as goal

pub loop-rest-init : goal.loop-rest-init
loop-rest-init c =
    let bytes = c.args.bytes.now in
    let at : length bytes - length (drop 48 bytes) ≡ 48 = omega (arith, length-drop 48 bytes, c.requires.whole) in
    rw (c.new-entries.ensures.items, c.split_at.ensures.back, at) (walked_none bytes c.requires.whole c.requires.counted)

pub returns-in_err-keep-clause-refused : goal.returns-in_err-keep-clause-refused
returns-in_err-keep-clause-refused c =
    let bytes = c.args.bytes.now in
    let rest = c.loop-rest.rest.now in
    let at = length bytes - length rest in
    let room : 0 < length rest = omega arith in
    let entry : c.read.result ≡ entry_of (take 32 rest) at = c.read.ensures ∙ ap (λ xs. entry_of xs at) c.split_at-in-loop-rest.ensures.front in
    let exit = err_from_is_err_and c.from_residual.result c.from_residual.ensures.1 in
    rw (exit.1, exit.2) (λ other. walked_stops bytes c.loop-rest.entries.items at rest _ c.loop-rest.invariant room
    (ap is_injection (sym entry) ∙ c.in_err-keep.ensures.injection) (ap entry_refusal (sym entry) ∙ c.in_err-keep.ensures.refused other))

pub loop-rest-preserved : goal.loop-rest-preserved
loop-rest-preserved c =
    let bytes = c.args.bytes.now in
    let rest = c.loop-rest.rest.now in
    let at = length bytes - length rest in
    let found = c.loop-rest.entries.items in
    let room : 0 < length rest = omega arith in
    let size = walked_room bytes found at rest c.loop-rest.invariant room in
    let entry : c.read.result ≡ entry_of (take 32 rest) at = c.read.ensures ∙ ap (λ xs. entry_of xs at) c.split_at-in-loop-rest.ensures.front in
    let next : length bytes - length (drop 32 rest) ≡ at + 32 = omega (arith, length-drop 32 rest, c.loop-rest.invariant.place) in
    let here : is_injection (entry_of (take 32 rest) at) ≡ true → entry_refusal (entry_of (take 32 rest) at) ≡ None =
    λ is. ap entry_refusal (sym entry) ∙ c.in_ok-keep.ensures.runnable (ap is_injection entry ∙ is) in
    let kept : c.keep.new.entries.items ≡ found ++ filter is_injection (entry_of (take 32 rest) at ∷ []) =
    c.in_ok-keep.ensures.kept ∙ ap (λ e. found ++ filter is_injection (e ∷ [])) entry in
    rw (kept, c.split_at-in-loop-rest.ensures.back, next) (walked_more bytes found at rest c.loop-rest.invariant room here)

pub returns-clause-found : goal.returns-clause-found
returns-clause-found c = walked_all c.args.bytes.now c.loop-rest.entries.items _ c.loop-rest.rest.now c.loop-rest.invariant (sym c.is_empty.ensures ∙ c.loop-rest-test.false)
