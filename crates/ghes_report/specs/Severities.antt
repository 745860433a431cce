-- The closing line of a counter of severities (own choice).
use Rattle.std.specs.Prelude.{ℕ, List, ◌++◌, codes}
use Rattle.std.specs.Fmt.{decimal}

-- how many were not corrected
unfoldable pub uncorrected_part : ℕ → ℕ → List ℕ
uncorrected_part recoverable fatal = codes "severities: recoverable " ++ decimal recoverable ++ codes ", fatal " ++ decimal fatal

-- and how many were, or have none
unfoldable pub corrected_part : ℕ → ℕ → List ℕ
corrected_part corrected none = codes ", corrected " ++ decimal corrected ++ codes ", none " ++ decimal none ++ codes "\n"

-- how many of the delivered blocks had each severity
abbrev pub severities_line : ℕ → ℕ → ℕ → ℕ → List ℕ
severities_line recoverable fatal corrected none = uncorrected_part recoverable fatal ++ corrected_part corrected none
