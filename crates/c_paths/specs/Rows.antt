-- A list of segments as rows of four numbers: kind, number, start, length. include/barkcushion_path.h. Assumes nothing: these are definitions.
use Rattle.std.specs.Prelude.{ℕ, ◌+◌, ◌/◌, ◌≤◌, ◌≡◌, List, [], ◌∷◌, map, length, get_or, eqb}
use Rattle.wire.specs.Choice.{pick}
use Rattle.wire.specs.Answers.{Answer, done, Rule, over, judged}
use Rattle.wire.specs.Folds.{sizes, joined}
use Rattle.epath_sizes.specs.Limits.{max_segments}
use Rattle.epath_sizes.specs.Segments.{encode_seg}
use Rattle.epath_sizes.specs.Lists.{meaning}
use Rattle.epath_sizes.specs.Sizes.{segment_size}
use Rattle.epath_sizes.specs.declared.Segment.{Segment}
use Rattle.epath_sizes.specs.declared.Segment.TheVariants.{Symbol, Class, Instance, Attribute, Element, Port}
use Rattle.epath_sizes.specs.declared.Slot.{Slot}
use Rattle.c_paths.specs.Kinds.{symbol_kind, class_kind, instance_kind, attribute_kind, element_kind, port_kind, short_number, long_number, row_numbers}
use Rattle.c_paths.specs.declared.SegmentRow.{SegmentRow}

-- the four numbers from a place on
abbrev pub segment_row_at : List ℕ → ℕ → SegmentRow
segment_row_at s at = record { kind = get_or s at 0; number = get_or s (at + 1) 0; start = get_or s (at + 2) 0; len = get_or s (at + 3) 0 }

-- four numbers a row; those behind the last whole row are not used
abbrev pub rows_of : List ℕ → List SegmentRow
rows_of [] = []
rows_of (k ∷ []) = []
rows_of (k ∷ n ∷ []) = []
rows_of (k ∷ n ∷ a ∷ []) = []
rows_of (k ∷ n ∷ a ∷ l ∷ s) = record { kind = k; number = n; start = a; len = l } ∷ rows_of s

-- ---- a row's segment

-- the largest number that a kind can hold
abbrev pub most_of : ℕ → ℕ
most_of k = pick (eqb k symbol_kind) long_number (pick (eqb k element_kind) long_number short_number)

-- what a row has to keep before its segment is asked: a known kind, a number that the kind can hold
abbrev pub row_rules : SegmentRow → List Rule
row_rules r = over r.kind port_kind 4 ∷ over r.number (most_of r.kind) 3 ∷ []

unfoldable pub segment_of : SegmentRow → Segment
segment_of r =
    pick (eqb r.kind symbol_kind) (Symbol (record { start = r.start; len = r.len }))
    (pick (eqb r.kind element_kind) (Element r.number)
    (pick (eqb r.kind class_kind) (Class r.number)
    (pick (eqb r.kind instance_kind) (Instance r.number)
    (pick (eqb r.kind attribute_kind) (Attribute r.number)
    (Port (record { port = r.number; start = r.start; len = r.len }))))))

-- a row's refusal, or how many bytes its segment takes
unfoldable pub segment_row_size : List ℕ → SegmentRow → Answer ℕ
segment_row_size pool r = judged (row_rules r) (segment_size pool (segment_of r))

-- ---- all rows: how many, then each

abbrev pub slots_of_rows : List SegmentRow → List Slot
slots_of_rows rows = map (λ (r : SegmentRow). record { segment = segment_of r }) rows

abbrev pub slots_in : List ℕ → List Slot
slots_in s = slots_of_rows (rows_of s)

unfoldable pub rows_size : List ℕ → List ℕ → Answer ℕ
rows_size pool s = judged (over (length s / row_numbers) max_segments 3 ∷ []) (sizes (segment_row_size pool) (rows_of s))

-- ---- a segment's row, as it is read: 0 where the kind has none

abbrev pub segment_row : Segment → SegmentRow
segment_row (Symbol y) = record { kind = symbol_kind; number = 0; start = y.start; len = y.len }
segment_row (Class v) = record { kind = class_kind; number = v; start = 0; len = 0 }
segment_row (Instance v) = record { kind = instance_kind; number = v; start = 0; len = 0 }
segment_row (Attribute v) = record { kind = attribute_kind; number = v; start = 0; len = 0 }
segment_row (Element v) = record { kind = element_kind; number = v; start = 0; len = 0 }
segment_row (Port q) = record { kind = port_kind; number = q.port; start = q.start; len = q.len }

abbrev pub numbers_of : SegmentRow → List ℕ
numbers_of r = r.kind ∷ r.number ∷ r.start ∷ r.len ∷ []

-- the rows of a list, end to end
abbrev pub rows_for : List Slot → List ℕ
rows_for l = joined (λ (x : Slot). numbers_of (segment_row x.segment)) l

-- ---- what was judged, for the writer's own parts: a row, and all rows, that have a size and room for it

abbrev pub segment_row_bytes : List ℕ → SegmentRow → List ℕ
segment_row_bytes pool r = encode_seg (meaning pool (segment_of r))

pub record RowReady (pool : List ℕ) (r : SegmentRow) (room : ℕ) : Type 0 where
  pub size : ℕ
  pub sized : segment_row_size pool r ≡ done size
  pub fits : size ≤ room

pub record RowsReady (pool s : List ℕ) (room : ℕ) : Type 0 where
  pub size : ℕ
  pub sized : sizes (segment_row_size pool) (rows_of s) ≡ done size
  pub fits : size ≤ room
