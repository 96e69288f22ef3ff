-- The kinds of segments in rows, and the largest numbers; `src/lib.rt` has each as a `const`, and include/barkcushion_path.h the kinds.
-- Assumes nothing: these are definitions.
use Rattle.std.specs.Prelude.{ℕ}

abbrev pub symbol_kind : ℕ
symbol_kind = 0

abbrev pub class_kind : ℕ
class_kind = 1

abbrev pub instance_kind : ℕ
instance_kind = 2

abbrev pub attribute_kind : ℕ
attribute_kind = 3

abbrev pub element_kind : ℕ
element_kind = 4

abbrev pub port_kind : ℕ
port_kind = 5

-- the largest number of a class, an instance, an attribute or a port
abbrev pub short_number : ℕ
short_number = 65535

-- the largest number of an element; a symbol's is not used
abbrev pub long_number : ℕ
long_number = 4294967295

-- numbers of a row
abbrev pub row_numbers : ℕ
row_numbers = 4
