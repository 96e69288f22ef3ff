-- A record: fields of so many bytes each, end to end. Assumes nothing: these are definitions.
use Rattle.std.specs.Prelude.{ℕ, ◌+◌, ◌^◌, ◌<◌, List, [], ◌∷◌, get_or, drop}
use Rattle.wire.specs.Numbers.{value_of, low_first}
use Rattle.wire.specs.Folds.{joined}

-- `byte v` is the byte v, `num k v` the number v in k bytes, low byte first
pub data Field : Type 0 where
  byte : ℕ → Field
  num : ℕ → ℕ → Field

abbrev pub bytes_of : Field → List ℕ
bytes_of (byte v) = v ∷ []
bytes_of (num k v) = low_first k v

-- the bytes of a record
abbrev pub laid : List Field → List ℕ
laid fs = joined bytes_of fs

abbrev pub width : Field → ℕ
width (byte v) = 1
width (num k v) = k

abbrev pub widths : List Field → ℕ
widths [] = 0
widths (f ∷ fs) = width f + widths fs

-- each number is one that its bytes can hold
abbrev pub Holds : Field → Type 0
Holds (byte v) = v < 256
Holds (num k v) = v < 256 ^ k

abbrev pub AllHold : List Field → Type 0
AllHold [] = Unit {0}
AllHold (f ∷ fs) = Holds f × AllHold fs

-- the field of the same width that stands at a place, and those from there on
abbrev pub field_at : Field → List ℕ → ℕ → Field
field_at (byte v) s at = byte (get_or s at 0)
field_at (num k v) s at = num k (value_of k (drop at s))

abbrev pub fields_at : List Field → List ℕ → ℕ → List Field
fields_at [] s at = []
fields_at (f ∷ fs) s at = field_at f s at ∷ fields_at fs s (at + width f)
