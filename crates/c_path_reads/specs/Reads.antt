-- A path as rows of four numbers, for C: what is answered and stored, and what the functions that store rows ask of each other.
-- Assumes nothing: these are definitions.
use Rattle.std.specs.Prelude.{ℕ, ◌*◌, ◌/◌, ◌≤◌, ◌≡◌, List, length, drop}
use Rattle.std.proofs.lemmas.List.Edits.{sets}
use Rattle.wire.specs.Answers.{Answer, done, with_room}
use Rattle.epath_sizes.specs.Limits.{max_segments, max_place}
use Rattle.epath_sizes.specs.declared.Segment.{Segment}
use Rattle.epath_sizes.specs.declared.Slot.{Slot}
use Rattle.epath_segment.specs.Reads.{Front, front, read_seg, moved}
use Rattle.epath_check.specs.Paths.{walk, list_of, check_path, Placed}
use Rattle.c_paths.specs.Kinds.{row_numbers}
use Rattle.c_paths.specs.Rows.{segment_row, numbers_of, rows_for}

-- the rows of a path's segments, with the path as their pool
abbrev pub path_rows : List ℕ → List ℕ
path_rows s = rows_for (list_of (walk max_segments s 0))

-- how many there are, where a run of so many numbers has a place for each row (2)
abbrev pub path_rows_answer : List ℕ → ℕ → Answer ℕ
path_rows_answer s room = with_room (check_path s) (room / row_numbers)

-- ---- what a path that was judged gives to the functions that store its rows

-- a segment stands at a place, and there is room for its row
pub record SegmentHere (s : List ℕ) (at room : ℕ) : Type 0 where
  pub there : at ≤ length s
  pub near : at ≤ max_place
  pub found : Front
  pub is : moved at (read_seg (drop at s)) ≡ done found
  pub fits : row_numbers ≤ room

-- its row is stored, and the next stands at r
pub record RowRead (s : List ℕ) (at : ℕ) (old : List ℕ) (r : ℕ) (new : List ℕ) : Type 0 where
  pub segment : Segment
  pub placed : Placed s at (done (front segment r))
  pub stored : new ≡ sets old 0 (numbers_of (segment_row segment))

-- all of a path is accepted, with so many segments, and there is room for their rows
pub record PathJudged (s : List ℕ) (count room : ℕ) : Type 0 where
  pub list : List Slot
  pub is : walk max_segments s 0 ≡ done list
  pub size : length list ≡ count
  pub fits : row_numbers * count ≤ room
