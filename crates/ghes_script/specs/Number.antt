-- The numbers of a script, and their ranges (own choice).
use Rattle.std.specs.Prelude.{ℕ, ◌^◌, ◌==◌, ◌&&◌, nat_lt, nat_le, if◌then◌else◌, Bool, List, length, slice_index, drop, Option, Some, None, Result, Ok, Err}
use Rattle.std.specs.List.{list_all}
use Rattle.std.specs.Char.{is_digit}
use Rattle.std.specs.Str.Parse.{digits_value}
use Rattle.ghes_script.specs.declared.error.ScriptKind.{ScriptKind}
use Rattle.ghes_script.specs.declared.error.ScriptKind.TheVariants.{Number, Range}

-- the number that digits of this base spell, at least one of them, if it is below 2^64
unfoldable pub numeral : ℕ → List ℕ → Option ℕ
numeral base digits =
    if nat_lt 0 (length digits) && (list_all (λ c. is_digit c base) digits && nat_lt (digits_value base digits) (2 ^ 64))
    then Some (digits_value base digits) else None

-- a word begins with `0x`
abbrev pub is_marked : List ℕ → Bool
is_marked word = nat_le 2 (length word) && (slice_index word 0 == 48 && slice_index word 1 == 120)

-- The number that a word spells: decimal digits; or `0x` and 1 to 16 hexadecimal digits, in either case. Leading zeros
-- are allowed, and signs are not.
unfoldable pub number_of : List ℕ → Option ℕ
number_of word =
    if is_marked word then (if nat_le (length word) 18 then numeral 16 (drop 2 word) else None) else numeral 10 word

-- what an option has, or else this kind of bad line
abbrev pub or_kind : {A : Type 0} → ScriptKind → Option A → Result A ScriptKind
or_kind kind None = Err kind
or_kind kind (Some x) = Ok x

-- what comes next, behind a word that is good
infixl 10 ◌>>=◌
abbrev pub ◌>>=◌ : {A B : Type 0} → Result A ScriptKind → (A → Result B ScriptKind) → Result B ScriptKind
Ok x >>= f = f x
Err kind >>= f = Err kind

-- the number of a word
abbrev pub number : List ℕ → Result ℕ ScriptKind
number word = or_kind Number (number_of word)

-- the number of a word, from the one bound to the other, each of them let in
unfoldable pub number_within : ℕ → ℕ → List ℕ → Result ℕ ScriptKind
number_within low high word = do
  n ← number word
  if nat_le low n && nat_le n high then Ok n else Err Range

-- the number of a word, below the bound
unfoldable pub number_below : ℕ → List ℕ → Result ℕ ScriptKind
number_below bound word = do
  n ← number word
  if nat_lt n bound then Ok n else Err Range
