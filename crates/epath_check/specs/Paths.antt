-- The strict reader of a path, executable: segment after segment to the end. CIP Volume 1, Appendix C-1.4. Assumes nothing: these are definitions.
use Rattle.std.specs.Prelude.{ℕ, zero, suc, ◌+◌, ◌≤◌, ◌≡◌, List, [], ◌∷◌, true, false, length, drop, ltb}
use Rattle.wire.specs.Answers.{Answer, done, refused}
use Rattle.epath_sizes.specs.Limits.{max_segments, most_bytes}
use Rattle.epath_sizes.specs.Segments.{Seg}
use Rattle.epath_sizes.specs.Lists.{segs}
use Rattle.epath_segment.specs.Reads.{Front, front, read_seg, moved}
use Rattle.epath_sizes.specs.declared.Segment.{Segment}
use Rattle.epath_sizes.specs.declared.Slot.{Slot}

-- ---- the walk: the segments with their places in the whole input

abbrev pub before : Segment → Answer (List Slot) → Answer (List Slot)
before x (done l) = done (record { segment = x } ∷ l)
before x (refused k) = refused k

-- from a place to the end, when so many segments more are allowed: one too many is refused as its first byte is met
unfoldable pub walk : ℕ → List ℕ → ℕ → Answer (List Slot)
walk zero s at = elim (ltb at (length s)) [ true ↦ refused 3 | false ↦ done [] ]
walk (suc left) s at =
    elim (ltb at (length s)) [
      | true ↦ elim (moved at (read_seg (drop at s))) [
        | done f ↦ elim f [ front x next ↦ before x (walk left s next) ]
        | refused k ↦ refused k
      ]
      | false ↦ done []
    ]

-- ---- how many there are, and which

abbrev pub count_of : Answer (List Slot) → Answer ℕ
count_of (done l) = done (length l)
count_of (refused k) = refused k

abbrev pub list_of : Answer (List Slot) → List Slot
list_of (done l) = l
list_of (refused k) = []

unfoldable pub check_path : List ℕ → Answer ℕ
check_path s = count_of (walk max_segments s 0)

-- ---- the same with the segments' bytes inside

abbrev pub sees : List ℕ → Answer (List Slot) → Answer (List Seg)
sees s (done l) = done (segs s l)
sees s (refused k) = refused k

abbrev pub parse_path : List ℕ → Answer (List Seg)
parse_path s = sees s (walk max_segments s 0)

-- ---- a step of the walk, as the code has it: where the next segment begins

abbrev pub next_of : Answer Front → ℕ
next_of (done (front x n)) = n
next_of (refused k) = 0

pub record Placed (s : List ℕ) (at : ℕ) (r : Answer Front) : Type 0 where
  pub is : r ≡ moved at (read_seg (drop at s))
  pub inside : next_of r ≤ length s
  pub close : next_of r ≤ at + most_bytes

-- the same with no segment: where it ends, or why there is none
abbrev pub end_of : Answer Front → Answer ℕ
end_of (done (front x n)) = done n
end_of (refused k) = refused k

unfoldable pub next_in : List ℕ → ℕ → Answer ℕ
next_in s at = end_of (moved at (read_seg (drop at s)))
