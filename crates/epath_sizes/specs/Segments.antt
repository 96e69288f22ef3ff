-- A segment with its bytes inside, and its encoding in a padded path. CIP Volume 1, Appendix C-1.4. Assumes nothing: these are definitions.
use Rattle.std.specs.Prelude.{ℕ, zero, suc, ◌+◌, ◌*◌, ◌/◌, ◌%◌, ◌<◌, ◌≤◌, List, [], ◌∷◌, ◌++◌, length, leb}
use Rattle.wire.specs.Choice.{pick}
use Rattle.wire.specs.Numbers.{low_first}
use Rattle.wire.specs.Folds.{joined}
use Rattle.epath_sizes.specs.Limits.{max_symbol, max_link, near_port, far_port_code, long_link, class_code, instance_code, element_code, attribute_code, symbol_code}

pub data Seg : Type 0 where
  symbol : List ℕ → Seg
  class : ℕ → Seg
  instance : ℕ → Seg
  attribute : ℕ → Seg
  element : ℕ → Seg
  port : ℕ → List ℕ → Seg

-- C-1.4.2, logical segment: the value in the shortest of 8 bits, 16 and 32; in a padded path a zero stands before the last two
abbrev pub logical : ℕ → ℕ → List ℕ
logical code v =
    pick (leb v 255) (code ∷ v ∷ [])
    (pick (leb v 65535) ((code + 1) ∷ 0 ∷ low_first 2 v)
    ((code + 2) ∷ 0 ∷ low_first 4 v))

-- a zero where the remainder by 2 is not 0
abbrev pub pad_of : ℕ → List ℕ
pad_of zero = []
pad_of (suc r) = 0 ∷ []

-- the zero that makes n even
abbrev pub pad : ℕ → List ℕ
pad n = pad_of (n % 2)

unfoldable pub padded : List ℕ → List ℕ
padded xs = xs ++ pad (length xs)

-- a port that does not fit the first byte, HIGH byte first as the crate writes it (the standard: low byte first), and what such bytes say
abbrev pub far_port : ℕ → List ℕ
far_port p = (p / 256) ∷ (p % 256) ∷ []

abbrev pub far_value : ℕ → ℕ → ℕ
far_value a b = 256 * a + b

-- C-1.4.1, port segment: what stands before a link of n bytes. A link of one byte has no length byte, and no more has an empty one
abbrev pub port_head : ℕ → ℕ → List ℕ
port_head p n =
    pick (leb p near_port)
    (pick (leb n 1) (p ∷ []) ((p + long_link) ∷ n ∷ []))
    (pick (leb n 1) (far_port_code ∷ far_port p) ((far_port_code + long_link) ∷ n ∷ far_port p))

-- C-1.4.5.2, extended symbol: its length and its bytes
abbrev pub encode_seg : Seg → List ℕ
encode_seg (symbol bs) = padded (symbol_code ∷ length bs ∷ bs)
encode_seg (class v) = logical class_code v
encode_seg (instance v) = logical instance_code v
encode_seg (attribute v) = logical attribute_code v
encode_seg (element v) = logical element_code v
encode_seg (port p link) = padded (port_head p (length link) ++ link)

-- a path: its segments end to end
abbrev pub encode : List Seg → List ℕ
encode xs = joined encode_seg xs

-- ---- what the writer takes: each number fits its field, and no run of bytes is too long
abbrev pub Fine : Seg → Type 0
Fine (symbol bs) = length bs ≤ max_symbol
Fine (class v) = v < 65536
Fine (instance v) = v < 65536
Fine (attribute v) = v < 65536
Fine (element v) = v < 4294967296
Fine (port p link) = (p < 65536) × (length link ≤ max_link)

abbrev pub AllFine : List Seg → Type 0
AllFine [] = Unit {0}
AllFine (x ∷ xs) = Fine x × AllFine xs

-- ---- how a segment comes back: an empty link as the one-byte link 0
abbrev pub linked : List ℕ → List ℕ
linked [] = 0 ∷ []
linked (b ∷ bs) = b ∷ bs

abbrev pub norm : Seg → Seg
norm (symbol bs) = symbol bs
norm (class v) = class v
norm (instance v) = instance v
norm (attribute v) = attribute v
norm (element v) = element v
norm (port p link) = port p (linked link)
