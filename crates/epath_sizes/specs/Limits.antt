-- The numbers that bound paths and the codes that make them up, each once; `src/lib.rt` has each as a `const`, but for `most_bytes` and `max_place`, which the code does not need.
-- Limits: document 01. Codes: CIP Volume 1, Appendix C-1.4. Assumes nothing: these are definitions.
use Rattle.std.specs.Prelude.{ℕ}

-- segments in a list
abbrev pub max_segments : ℕ
max_segments = 127

-- bytes of a symbol
abbrev pub max_symbol : ℕ
max_symbol = 255

-- bytes of a link
abbrev pub max_link : ℕ
max_link = 254

-- no segment takes more bytes: a head of 4, the longest symbol or link, a pad
abbrev pub most_bytes : ℕ
most_bytes = 260

-- a place from which a segment's bytes start at most 4 later, in 32 bits
abbrev pub max_place : ℕ
max_place = 4294967291

-- ---- a port segment's first byte (C-1.4.1): below 0x20; the low four bits are the port, bit 4 says that a link length follows

abbrev pub port_end : ℕ
port_end = 0x20

-- the largest port that the low four bits hold
abbrev pub near_port : ℕ
near_port = 14

-- in their place: the port follows
abbrev pub far_port_code : ℕ
far_port_code = 15

-- bit 4
abbrev pub long_link : ℕ
long_link = 16

-- ---- a logical segment's first byte with an 8-bit value (C-1.4.2); with 16 bits it is the next, with 32 bits the one after

abbrev pub class_code : ℕ
class_code = 0x20

abbrev pub instance_code : ℕ
instance_code = 0x24

abbrev pub element_code : ℕ
element_code = 0x28

abbrev pub attribute_code : ℕ
attribute_code = 0x30

-- ---- an extended symbol's first byte (C-1.4.5.2)

abbrev pub symbol_code : ℕ
symbol_code = 0x91
