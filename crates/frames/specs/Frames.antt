-- The frames of a stream. CIP Volume 2, 2-3 (encapsulation: a header of 24 bytes, command, length, session handle, status, sender context,
-- options; the length, a 16-bit number at offset 2, is that of the data which follow). Assumes nothing: these are definitions.
use Rattle.std.specs.Prelude.{ℕ, zero, suc, ◌+◌, List, [], ◌∷◌, length, take, drop, ltb, eqb}
use Rattle.wire.specs.Choice.{pick}
use Rattle.wire.specs.Numbers.{value_of}

abbrev pub header_size : ℕ
header_size = 24

-- where the length stands in a header
abbrev pub length_at : ℕ
length_at = 2

-- bytes of data that the length can say, and of the longest frame
abbrev pub max_data : ℕ
max_data = 65535

abbrev pub max_frame : ℕ
max_frame = header_size + max_data

-- the length of the frame that a stream begins with, header and data; 0 as long as the header is not whole
unfoldable pub frame_length : List ℕ → ℕ
frame_length s = pick (ltb (length s) header_size) 0 (header_size + value_of 2 (drop length_at s))

-- what a stream begins with, beside a buffer of so many bytes: less than a header, a frame that is too long for the buffer, a frame of n bytes
-- whose last byte is not there yet, or a whole one
pub data Opening : Type 0 where
  no_header too_long : Opening
  begun whole : ℕ → Opening

-- the same of a stream whose first frame has n bytes, 0 as above
unfoldable pub opening_of : ℕ → ℕ → List ℕ → Opening
opening_of room n s = pick (eqb n 0) no_header (pick (ltb room n) too_long (pick (ltb (length s) n) (begun n) (whole n)))

abbrev pub opening : ℕ → List ℕ → Opening
opening room s = opening_of room (frame_length s) s

-- the whole frames of a stream, first to last, up to the first that is too long. No stream has more frames than bytes, so its length bounds the
-- count
abbrev pub frames_in : ℕ → ℕ → List ℕ → List (List ℕ)
frames_in zero room s = []
frames_in (suc k) room s = elim (opening room s) [ no_header ↦ [] | too_long ↦ [] | begun n ↦ [] | whole n ↦ take n s ∷ frames_in k room (drop n s) ]

unfoldable pub frames_of : ℕ → List ℕ → List (List ℕ)
frames_of room s = frames_in (length s) room s

-- what stands behind them
abbrev pub rest_in : ℕ → ℕ → List ℕ → List ℕ
rest_in zero room s = s
rest_in (suc k) room s = elim (opening room s) [ no_header ↦ s | too_long ↦ s | begun n ↦ s | whole n ↦ rest_in k room (drop n s) ]

unfoldable pub rest_of : ℕ → List ℕ → List ℕ
rest_of room s = rest_in (length s) room s
