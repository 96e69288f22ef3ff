-- What the code's segments and lists mean over a pool. Document 01, "What must change shape". Assumes nothing: these are definitions.
use Rattle.std.specs.Prelude.{ℕ, ◌+◌, List, map, Bool, true, false, length, take, replicate}
use Rattle.std.proofs.lemmas.List.Edits.{sets}
use Rattle.wire.specs.Parts.{part}
use Rattle.epath_sizes.specs.Limits.{max_segments}
use Rattle.epath_sizes.specs.Segments.{Seg, symbol, class, instance, attribute, element, port}
use Rattle.epath_sizes.specs.declared.Segment.{Segment}
use Rattle.epath_sizes.specs.declared.Segment.TheVariants.{Symbol, Class, Instance, Attribute, Element, Port}
use Rattle.epath_sizes.specs.declared.PortSegment.{PortSegment}
use Rattle.epath_sizes.specs.declared.Slot.{Slot}
use Rattle.epath_sizes.specs.declared.Path.{Path}

-- a segment, with the bytes that its start and length name
abbrev pub meaning : List ℕ → Segment → Seg
meaning pool (Symbol y) = symbol (part pool y.start y.len)
meaning pool (Class v) = class v
meaning pool (Instance v) = instance v
meaning pool (Attribute v) = attribute v
meaning pool (Element v) = element v
meaning pool (Port q) = port q.port (part pool q.start q.len)

-- a list is its first `count` slots
abbrev pub slots_of : Path → List Slot
slots_of p = take p.count p.slots

abbrev pub segs : List ℕ → List Slot → List Seg
segs pool l = map (λ x. meaning pool x.segment) l

abbrev pub segs_of : List ℕ → Path → List Seg
segs_of pool p = segs pool (slots_of p)

-- the slot that holds nothing
abbrev pub blank : Slot
blank = record { segment = Class 0 }

abbrev pub blanks : List Slot
blanks = replicate max_segments blank

-- a list in its slots, the rest of them blank
abbrev pub path_of : List Slot → Path
path_of l = record { slots = sets blanks 0 l; count = length l }

-- the default port segment: port 1, and an empty link, which is written as link 0
abbrev pub backplane : PortSegment
backplane = record { port = 1; start = 0; len = 0 }

abbrev pub is_port : Segment → Bool
is_port (Symbol y) = false
is_port (Class v) = false
is_port (Instance v) = false
is_port (Attribute v) = false
is_port (Element v) = false
is_port (Port q) = true

-- where a segment's bytes start, and how many there are
abbrev pub start_of : Segment → ℕ
start_of (Symbol y) = y.start
start_of (Class v) = 0
start_of (Instance v) = 0
start_of (Attribute v) = 0
start_of (Element v) = 0
start_of (Port q) = q.start

abbrev pub len_of : Segment → ℕ
len_of (Symbol y) = y.len
len_of (Class v) = 0
len_of (Instance v) = 0
len_of (Attribute v) = 0
len_of (Element v) = 0
len_of (Port q) = q.len

-- the same segment, its bytes counted from `at` places earlier
abbrev pub shifted : ℕ → Segment → Segment
shifted at (Symbol y) = Symbol (record { start = at + y.start; len = y.len })
shifted at (Class v) = Class v
shifted at (Instance v) = Instance v
shifted at (Attribute v) = Attribute v
shifted at (Element v) = Element v
shifted at (Port q) = Port (record { port = q.port; start = at + q.start; len = q.len })
