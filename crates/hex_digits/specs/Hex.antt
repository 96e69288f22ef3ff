-- Hex digits, with capital letters. ASCII: 0 to 9 are 48 to 57, A to F 65 to 70. Assumes nothing: these are definitions.
use Rattle.std.specs.Prelude.{ℕ, ◌+◌, ◌/◌, ◌%◌, List, [], ◌∷◌, leb}
use Rattle.wire.specs.Choice.{pick}

unfoldable pub hex_digit : ℕ → ℕ
hex_digit v = pick (leb (v % 16) 9) (48 + v % 16) (55 + v % 16)

-- the two digits of each byte
abbrev pub hex_text : List ℕ → List ℕ
hex_text [] = []
hex_text (b ∷ bs) = hex_digit (b / 16) ∷ hex_digit b ∷ hex_text bs
