-- An injection of an error type.
use Rattle.std.proofs.Common.{◌≡◌, ℕ, Bool, true, false, Ok, refl, sym, ap, ◌∙◌}
use Rattle.std.proofs.Math.Bool.{Bool-set}
use Rattle.apei_einj.specs.Request.{is_error_type}
use Rattle.apei_einj.specs.declared.request.Place.{Place}
use Rattle.ghes_script.specs.declared.line.What.TheVariants.{Inject}
use Rattle.ghes_script.specs.Asked.{injection_by, injection}

-- whichever way an error type is known to be one
by_test : (error : ℕ) (place : Place) (test : Bool) (is : is_error_type error ≡ test) (known : is_error_type error ≡ true) → injection_by error place test is ≡ Ok (Inject (record { error = error; place = place; error_is = known }))
by_test error place true is known = ap (λ (i : is_error_type error ≡ true). Ok (Inject (record { error = error; place = place; error_is = i }))) (Bool-set (is_error_type error) true is known)
by_test error place false is known = absurd (let no : true ≡ false = sym known ∙ is in cc)

-- a request is an injection of its error at its place
pub injection_of : (error : ℕ) (place : Place) (known : is_error_type error ≡ true) → injection error place ≡ Ok (Inject (record { error = error; place = place; error_is = known }))
unfolding injection
injection_of error place known = by_test error place (is_error_type error) refl known
