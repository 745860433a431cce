-- How many settings stand before the first command.
use Rattle.std.proofs.Common.{◌≡◌, ◌≤◌, ℕ, zero, suc, Bool, true, false, cond, List, [], ◌∷◌, length, take, refl, ap, arith, if◌then◌else◌}
use Rattle.ghes_script.specs.Sound.{is_setting}
use Rattle.ghes_script.specs.declared.line.Line.{Line}
use Rattle.ghes_setup.specs.Settings.{settings_of}

-- how many settings stand before the first command
abbrev pub front_length : List Line → ℕ
front_length [] = zero
front_length (line ∷ lines) = if is_setting line.what then suc (front_length lines) else zero

-- so many lines from the front on, by whether the first is one
front_by : (b : Bool) (n : ℕ) (line : Line) (lines : List Line) → take n lines ≡ settings_of lines → take (cond b (suc n) zero) (line ∷ lines) ≡ cond b (line ∷ settings_of lines) []
front_by true n line lines is = ap (λ (ls : List Line). line ∷ ls) is
front_by false n line lines is = refl

-- so many lines from the front on are the settings
pub front_is : (lines : List Line) → take (front_length lines) lines ≡ settings_of lines
front_is [] = refl
front_is (line ∷ lines) = front_by (is_setting line.what) (front_length lines) line lines (front_is lines)

one_within : (b : Bool) (n m : ℕ) → n ≤ m → cond b (suc n) zero ≤ suc m
one_within true n m le = omega (arith, le)
one_within false n m le = omega arith

pub front_within : (lines : List Line) → front_length lines ≤ length lines
front_within [] = omega arith
front_within (line ∷ lines) = one_within (is_setting line.what) (front_length lines) (length lines) (front_within lines)

-- one setting more
pub front_more : (line : Line) (lines : List Line) → is_setting line.what ≡ true → front_length (line ∷ lines) ≡ suc (front_length lines)
front_more line lines is = ap (λ b. cond b (suc (front_length lines)) zero) is

-- a command ends them
pub front_ends : (line : Line) (lines : List Line) → is_setting line.what ≡ false → front_length (line ∷ lines) ≡ zero
front_ends line lines is = ap (λ b. cond b (suc (front_length lines)) zero) is
