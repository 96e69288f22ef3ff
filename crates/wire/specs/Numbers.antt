-- Numbers in bytes, low byte first, at any width. Assumes nothing: these are definitions.
use Rattle.std.specs.Prelude.{ℕ, zero, suc, ◌+◌, ◌*◌, ◌/◌, ◌%◌, ◌<◌, List, [], ◌∷◌, get_or, drop}

-- the number in the first k bytes; a byte past the end counts as 0
unfoldable pub value_of : ℕ → List ℕ → ℕ
value_of zero s = 0
value_of (suc k) s = get_or s 0 0 + 256 * value_of k (drop 1 s)

-- the k low bytes of v
abbrev pub low_first : ℕ → ℕ → List ℕ
low_first zero v = []
low_first (suc k) v = (v % 256) ∷ low_first k (v / 256)

-- each element is a byte
abbrev pub Bytes : List ℕ → Type 0
Bytes s = (k : ℕ) → get_or s k 0 < 256
