-- Command lines of four, three and two words.
use Rattle.std.proofs.Common.{◌≡◌, ◌<◌, ◌≤◌, ℕ, List, [], ◌∷◌, map, length, get_or, ap, ◌∙◌, arith, String, Global}
use Rattle.std.specs.String.{string_bytes}

-- four elements by their places
pub four_items : {A : Type 0} (items : List A) (a b c d : A) → 4 ≤ length items → length items < 5 → a ≡ get_or items 0 a → b ≡ get_or items 1 b → c ≡ get_or items 2 c → d ≡ get_or items 3 d → items ≡ a ∷ b ∷ c ∷ d ∷ []
four_items [] a b c d low high is_a is_b is_c is_d = absurd (omega arith)
four_items (w ∷ []) a b c d low high is_a is_b is_c is_d = absurd (omega arith)
four_items (w ∷ x ∷ []) a b c d low high is_a is_b is_c is_d = absurd (omega arith)
four_items (w ∷ x ∷ y ∷ []) a b c d low high is_a is_b is_c is_d = absurd (omega arith)
four_items (w ∷ x ∷ y ∷ z ∷ []) a b c d low high is_a is_b is_c is_d = cc
four_items (w ∷ x ∷ y ∷ z ∷ v ∷ more) a b c d low high is_a is_b is_c is_d = absurd (omega arith)

-- the bytes of four words
pub four_words : (words : List (String Global)) (a b c d : String Global) (w x y z : List ℕ) → words ≡ a ∷ b ∷ c ∷ d ∷ [] → string_bytes a ≡ w → string_bytes b ≡ x → string_bytes c ≡ y → string_bytes d ≡ z → map (string_bytes {Z = Global}) words ≡ w ∷ x ∷ y ∷ z ∷ []
four_words words a b c d w x y z all is_a is_b is_c is_d = ap (map (string_bytes {Z = Global})) all ∙ cc

-- three elements by their places
pub three_items : {A : Type 0} (items : List A) (a b c : A) → 3 ≤ length items → length items < 4 → a ≡ get_or items 0 a → b ≡ get_or items 1 b → c ≡ get_or items 2 c → items ≡ a ∷ b ∷ c ∷ []
three_items [] a b c low high is_a is_b is_c = absurd (omega arith)
three_items (w ∷ []) a b c low high is_a is_b is_c = absurd (omega arith)
three_items (w ∷ x ∷ []) a b c low high is_a is_b is_c = absurd (omega arith)
three_items (w ∷ x ∷ y ∷ []) a b c low high is_a is_b is_c = cc
three_items (w ∷ x ∷ y ∷ z ∷ more) a b c low high is_a is_b is_c = absurd (omega arith)

-- the bytes of three words
pub three_words : (words : List (String Global)) (a b c : String Global) (w x y : List ℕ) → words ≡ a ∷ b ∷ c ∷ [] → string_bytes a ≡ w → string_bytes b ≡ x → string_bytes c ≡ y → map (string_bytes {Z = Global}) words ≡ w ∷ x ∷ y ∷ []
three_words words a b c w x y all is_a is_b is_c = ap (map (string_bytes {Z = Global})) all ∙ cc

-- two elements by their places
pub two_items : {A : Type 0} (items : List A) (a b : A) → 2 ≤ length items → length items < 3 → a ≡ get_or items 0 a → b ≡ get_or items 1 b → items ≡ a ∷ b ∷ []
two_items [] a b low high is_a is_b = absurd (omega arith)
two_items (w ∷ []) a b low high is_a is_b = absurd (omega arith)
two_items (w ∷ x ∷ []) a b low high is_a is_b = cc
two_items (w ∷ x ∷ y ∷ more) a b low high is_a is_b = absurd (omega arith)

-- the bytes of two words
pub two_words : (words : List (String Global)) (a b : String Global) (w x : List ℕ) → words ≡ a ∷ b ∷ [] → string_bytes a ≡ w → string_bytes b ≡ x → map (string_bytes {Z = Global}) words ≡ w ∷ x ∷ []
two_words words a b w x all is_a is_b = ap (map (string_bytes {Z = Global})) all ∙ cc
