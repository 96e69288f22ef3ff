-- A line of text that stands for bytes: two hex digits a byte, in either case. Blanks and tabs are passed over, `#` starts a comment, any other
-- character spoils the line. Assumes nothing: these are definitions.
use Rattle.std.specs.Prelude.{ℕ, ◌+◌, ◌*◌, ◌/◌, ◌%◌, ◌-◌, List, [], ◌∷◌, set, leb, eqb, Option, Some, None}
use Rattle.wire.specs.Choice.{pick}
use Rattle.lines.specs.declared.Line.{Line}
use Rattle.lines.specs.declared.Case.{Case}

abbrev pub max_digits : ℕ
max_digits = 600000

-- ---- digits

abbrev pub no_digit : ℕ
no_digit = 16

-- ASCII: 0 to 9 are 48 to 57, A to F 65 to 70, a to f 97 to 102
unfoldable pub hex_value : ℕ → ℕ
hex_value b =
    pick (leb b 47) no_digit
    (pick (leb b 57) (b - 48)
    (pick (leb b 64) no_digit
    (pick (leb b 70) (b - 55)
    (pick (leb b 96) no_digit
    (pick (leb b 102) (b - 87) no_digit)))))

-- that value, where there is one
unfoldable pub digit_of : ℕ → Option ℕ
digit_of b = pick (leb no_digit (hex_value b)) None (Some (hex_value b))

abbrev pub byte_of : ℕ → ℕ → ℕ
byte_of high low = 16 * (high % 16) + low % 16

-- ---- one more character

abbrev pub start : Line
start = Line.Digits 0 0

-- a digit of value v, behind n others
unfoldable pub next_digit : ℕ → ℕ → Line
next_digit n v = pick (leb max_digits n) Line.Bad (Line.Digits (n + 1) v)

-- every second digit makes a byte with the one before it
unfoldable pub kept_digit : ℕ → ℕ → ℕ → List ℕ → List ℕ
kept_digit n high v out = pick (leb max_digits n) out (pick (eqb (n % 2) 0) out (set out (n / 2) (byte_of high v)))

unfoldable pub next_char : ℕ → ℕ → ℕ → Line
next_char n high b =
    pick (eqb b 32) (Line.Digits n high)
    (pick (eqb b 9) (Line.Digits n high)
    (pick (eqb b 35) (Line.Comment n)
    (pick (leb no_digit (hex_value b)) Line.Bad (next_digit n (hex_value b)))))

unfoldable pub kept_char : ℕ → ℕ → ℕ → List ℕ → List ℕ
kept_char n high b out = pick (leb no_digit (hex_value b)) out (kept_digit n high (hex_value b) out)

abbrev pub next : Line → ℕ → Line
next (Line.Digits n high) b = next_char n high b
next (Line.Comment n) b = Line.Comment n
next Line.Bad b = Line.Bad

-- what the lent bytes are after it
abbrev pub kept : Line → ℕ → List ℕ → List ℕ
kept (Line.Digits n high) b out = kept_char n high b out
kept (Line.Comment n) b out = out
kept Line.Bad b out = out

-- ---- a whole line

abbrev pub taken : Line → List ℕ → Line
taken l [] = l
taken l (b ∷ t) = taken (next l b) t

abbrev pub taken_bytes : Line → List ℕ → List ℕ → List ℕ
taken_bytes l [] out = out
taken_bytes l (b ∷ t) out = taken_bytes (next l b) t (kept l b out)

unfoldable pub case_of : ℕ → Case
case_of n = pick (eqb n 0) Case.Nothing (pick (eqb (n % 2) 0) (Case.Bytes (n / 2)) Case.Bad)

abbrev pub case_line : Line → Case
case_line (Line.Digits n high) = case_of n
case_line (Line.Comment n) = case_of n
case_line Line.Bad = Case.Bad
