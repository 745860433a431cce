-- Cells that are written and read one after another.
use Rattle.std.proofs.Common.{◌≡◌, ◌<◌, ◌+◌, ◌-◌, ℕ, suc, List, [], ◌∷◌, length, slice_index, Option, if◌then◌else◌, refl, ap, add-zero, arith, sym, ◌∙◌}
use Rattle.std.proofs.lemmas.Bool.Decides.{nat_tests}
use Rattle.std.specs.Option.{option_map}
use Rattle.apei_base.specs.Bus.{Cells, byte_at, bytes_at}
use Rattle.apei_mem_bus.specs.MemBus.{is_in_run, with_bytes}
use Rattle.apei_base.specs.declared.region.Space.{Space}

-- one space after the first so many of bytes were written from an address on
abbrev pub with_front : (ℕ → Option ℕ) → ℕ → ℕ → List ℕ → ℕ → Option ℕ
with_front cells first count bytes address =
    if is_in_run first count address then option_map (λ old. slice_index bytes (address - first)) (cells address)
    else cells address

-- one byte more
pub with_front_more : (old mid new : Option ℕ) (first step address : ℕ) (bytes : List ℕ) → mid ≡ with_front (λ _. old) first step bytes address → new ≡ with_bytes (λ _. mid) (first + step) (slice_index bytes step ∷ []) address → new ≡ with_front (λ _. old) first (step + 1) bytes address
with_front_more old mid new first step address bytes before now = grind (arith, nat_tests)

-- bytes that stand one by one in cells are the bytes from there on
pub bytes_from_each : (cells : Cells) (space : Space) (first : ℕ) (bytes : List ℕ) → ((k : ℕ) → k < length bytes → slice_index bytes k ≡ byte_at cells space (first + k)) → bytes ≡ bytes_at cells space first (length bytes)
unfolding bytes_at
bytes_from_each cells space first [] each = refl
bytes_from_each cells space first (byte ∷ bytes) each =
    let head : byte ≡ byte_at cells space first = each 0 (omega arith) ∙ ap (byte_at cells space) (add-zero first) in
    let tail : bytes ≡ bytes_at cells space (first + 1) (length bytes) =
    bytes_from_each cells space (first + 1) bytes (λ k below.
    let place : first + 1 + k ≡ first + suc k = omega arith in
    each (suc k) (omega arith) ∙ ap (byte_at cells space) (sym place)) in
    cc
