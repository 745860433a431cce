-- Bytes in a text: as digits, and as characters (own choice).
use Rattle.std.specs.Prelude.{ℕ, ◌==◌, ◌&&◌, not, nat_le, if◌then◌else◌, List, ◌++◌, map, length, codes}
use Rattle.std.specs.List.{take_while}
use Rattle.hex.specs.Hex.{encode_lower}

-- a list of bytes, two lower-case digits each; an empty one is told by a word (own choice)
abbrev pub bytes_text : List ℕ → List ℕ
bytes_text bytes = if length bytes == 0 then codes "empty" else encode_lower bytes

-- a line of a list of bytes, behind its head (own choice)
unfoldable pub bytes_line : List ℕ → List ℕ → List ℕ
bytes_line head bytes = head ++ bytes_text bytes ++ codes "\n"

-- the character for a byte: itself from the space, 32, to the tilde, 126, else a dot, 46 (own choice)
abbrev pub shown : ℕ → ℕ
shown byte = if nat_le 32 byte && nat_le byte 126 then byte else 46

-- the characters of a text, which ends before its first 0 (after Linux 6.1, drivers/firmware/efi/cper.c)
unfoldable pub shown_text : List ℕ → List ℕ
shown_text bytes = map shown (take_while (λ byte. not (byte == 0)) bytes)

-- a line of a text behind its head, between quotation marks (own choice)
unfoldable pub text_line : List ℕ → List ℕ → List ℕ
text_line head bytes = head ++ codes "\"" ++ shown_text bytes ++ codes "\"\n"
