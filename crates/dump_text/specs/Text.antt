-- What the dump program prints, in ASCII. Document 01, "Nesting and the dump": for each message its depth, its service in two hex digits, its path
-- bytes and its data bytes; or only `refused` and a number. Assumes nothing: these are definitions.
use Rattle.std.specs.Prelude.{ℕ, zero, suc, ◌+◌, ◌*◌, ◌/◌, ◌%◌, List, [], ◌∷◌, ◌++◌, length, get_or, ltb}
use Rattle.wire.specs.Choice.{pick}
use Rattle.wire.specs.Folds.{joined}
use Rattle.wire.specs.Answers.{Answer, done, refused, with_room, written}
use Rattle.hex_digits.specs.Hex.{hex_text}
use Rattle.nested.specs.Nested.{max_rows, row_size, Row, nested}

-- ---- words

abbrev pub space : ℕ
space = 32

abbrev pub newline : ℕ
newline = 10

-- a number in decimal, at most suc k digits, the highest first and no zero before it; the digit 0 is 48
unfoldable pub decimal_by : ℕ → ℕ → List ℕ
decimal_by zero v = (48 + v % 10) ∷ []
decimal_by (suc k) v = pick (ltb v 10) ((48 + v) ∷ []) (decimal_by k (v / 10) ++ ((48 + v % 10) ∷ []))

-- a number of 16 bits has no more than five
abbrev pub decimal : ℕ → List ℕ
decimal v = decimal_by 4 v

-- a number, and what stands behind it
abbrev pub word : ℕ → ℕ → List ℕ
word v end = decimal v ++ (end ∷ [])

-- a byte in two hex digits, and a blank
abbrev pub hex_word : ℕ → List ℕ
hex_word b = hex_text (b ∷ []) ++ (space ∷ [])

-- ---- lines

abbrev pub line : Row → List ℕ
line r = word r.depth space ++ (hex_word r.service ++ (word r.path_len space ++ word r.data_len newline))

-- `refused` and a blank
abbrev pub refused_word : List ℕ
refused_word = 114 ∷ 101 ∷ 102 ∷ 117 ∷ 115 ∷ 101 ∷ 100 ∷ space ∷ []

abbrev pub refused_line : ℕ → List ℕ
refused_line k = refused_word ++ word k newline

abbrev pub text_of : Answer (List Row) → List ℕ
text_of (done rs) = joined line rs
text_of (refused k) = refused_line k

-- the text of a message
unfoldable pub dump_text : List ℕ → List ℕ
dump_text s = text_of (nested s)

-- how many bytes a writer of it answers, with so much room (2)
abbrev pub text_answer : List ℕ → ℕ → Answer ℕ
text_answer s room = with_room (done (length (dump_text s))) room

-- what the lent output holds then
abbrev pub text_over : List ℕ → List ℕ → List ℕ
text_over s old = written (text_answer s (length old)) (dump_text s) old

-- no line has more bytes, and no text
abbrev pub max_line : ℕ
max_line = 21

abbrev pub max_text : ℕ
max_text = max_line * max_rows

-- ---- the same of rows that stand in a run of numbers

abbrev pub row_at : List ℕ → ℕ → Row
row_at l k = record { depth = get_or l (row_size * k) 0; service = get_or l (row_size * k + 1) 0; path_len = get_or l (row_size * k + 2) 0; data_len = get_or l (row_size * k + 3) 0 }

-- n rows, from row k on
unfoldable pub lines_from : ℕ → List ℕ → ℕ → List ℕ
lines_from zero l k = []
lines_from (suc n) l k = line (row_at l k) ++ lines_from n l (k + 1)

abbrev pub text_in : Answer ℕ → List ℕ → List ℕ
text_in (done n) l = lines_from n l 0
text_in (refused k) l = refused_line k

-- places that can be counted on from
abbrev pub roomy : ℕ
roomy = 2 * max_text
