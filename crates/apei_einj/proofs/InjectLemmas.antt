-- The rows of the address structure, one after another.
use Rattle.std.proofs.Common.{◌≡◌, ℕ, ◌+◌, List, [], ◌∷◌, Result, Ok, Err, subst}
use Rattle.apei_base.specs.Bus.{Access}
use Rattle.apei_einj.specs.Injection.{WritesRows}
use Rattle.apei_einj.specs.Part.{Stores, IsDone}
use Rattle.apei_einj.specs.Request.{Row}
use Rattle.apei_einj.specs.declared.injected.InjectError.{InjectError}
use Rattle.apei_einj.proofs.PartLemmas.{stops, goes_on, finishes}

module _ {S : Type 0} (step : S → Access → S → Type 0) (address : ℕ) (row : Row) {value : ℕ} {before : S} {n : ℕ} where
  -- a value that is the row's
  stored : {result : Result (Unit {0}) InjectError} {after : S} {m : ℕ} → value ≡ row.value
      → IsDone (Stores step (address + row.offset) row.width value) before n result after m → IsDone (Stores step (address + row.offset) row.width row.value) before n result after m
  stored {result = result} {after = after} {m = m} is done = subst (λ v. IsDone (Stores step (address + row.offset) row.width v) before n result after m) is done

  -- the first row was not written
  pub row_stops : (rows : List Row) {error : InjectError} {after : S} {m : ℕ} → value ≡ row.value
      → IsDone (Stores step (address + row.offset) row.width value) before n (Err error) after m → IsDone (WritesRows step address (row ∷ rows)) before n (Err error) after m
  unfolding WritesRows
  row_stops rows is done = stops _ _ (stored is done)

  -- it was, and the others are
  pub row_goes_on : (rows : List Row) {found : Unit {0}} {between : S} {k : ℕ} (result : Result (Unit {0}) InjectError) {after : S} {m : ℕ} → value ≡ row.value
      → IsDone (Stores step (address + row.offset) row.width value) before n (Ok found) between k → IsDone (WritesRows step address rows) between k result after m
      → IsDone (WritesRows step address (row ∷ rows)) before n result after m
  unfolding WritesRows
  row_goes_on rows result is one others = goes_on _ _ result (stored is one) others

  -- the last row was written or not
  pub row_finishes : (result : Result (Unit {0}) InjectError) {after : S} {m : ℕ} → value ≡ row.value
      → IsDone (Stores step (address + row.offset) row.width value) before n result after m → IsDone (WritesRows step address (row ∷ [])) before n result after m
  unfolding WritesRows
  row_finishes result is done = finishes _ result (stored is done)
