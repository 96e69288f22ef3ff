-- Rows that are read: a segment's row, the walk over a path that was judged, and the ends of bark_read_path. Assumes nothing.
use Prim.Native.Nat.{ℕ, zero, suc, ◌+◌, ◌*◌, ◌-◌, ◌≤◌, ◌<◌}
use mathlib.Core.Path.{◌≡◌, refl, sym, ap, ◌∙◌, subst}
use mathlib.Core.List.{List, [], ◌∷◌, ◌++◌}
use mathlib.Core.Logic.{⊎_elim}
use native.Mathlib.Omega.{arith}
use lib.ListN.{length, length-append, length-drop, get_or, take, drop, drop_of_length-le}
use lib.Seq.{sets, drop-drop}
use mir.Val.{Fits}
use mir.Syntax.{w8, w64}
use Rattle.std.specs.Prelude.{Result, Err}
use Rattle.wire.specs.Parts.{overlay}
use Rattle.wire.specs.Refusals.{number}
use Rattle.wire.specs.Answers.{Answer, done, refused}
use Rattle.wire.specs.declared.Refusal.{Refusal}
use Rattle.wire.proofs.Numbers.{below_or}
use Rattle.wire.proofs.Rules.{never}
use Rattle.wire.proofs.Stores.{length_lent, sets_overlay}
use Rattle.wire.proofs.Folds.{Storing, storing_first, storing_fits, storing_more}
use Rattle.epath_sizes.specs.Limits.{max_segments}
use Rattle.epath_sizes.specs.Lists.{shifted}
use Rattle.epath_sizes.specs.declared.Segment.{Segment}
use Rattle.epath_sizes.specs.declared.Slot.{Slot}
use Rattle.epath_segment.specs.declared.SegmentRead.{SegmentRead}
use Rattle.epath_segment.specs.Reads.{Front, front, paper_front, read_seg, moved}
use Rattle.epath_check.specs.Paths.{before, walk, count_of, list_of, check_path}
use Rattle.epath_check.proofs.Places.{whole, at_found}
use Rattle.epath_check.proofs.Walks.{walk_ends, walk_full, walk_stops, walk_goes, Stands}
use Rattle.c_paths.specs.Kinds.{row_numbers}
use Rattle.c_paths.specs.Rows.{segment_row, numbers_of, rows_for}
use Rattle.c_paths.specs.declared.SegmentRow.{SegmentRow}
use Rattle.c_path_reads.specs.Reads.{path_rows, SegmentHere, RowRead, PathJudged}

-- ---- the row of the segment at a place
module _ (s : List ℕ) (at : ℕ) (old : List ℕ) where
  pub read_never : (r : Result SegmentRead Refusal) (k : Refusal) → paper_front r ≡ read_seg (take (length s - at) (drop at s)) → r ≡ Err k → SegmentHere s at (length old) → RowRead s at old at old
  read_never r k e h a =
      let q : moved at (read_seg (drop at s)) ≡ refused (number k) = ap (moved at) (whole s at _ e ∙ ap paper_front h) in
      never (sym q ∙ a.is)

  pub read_stored : (g : SegmentRead) (y : SegmentRow) (new : List ℕ) → new ≡ sets old 0 (numbers_of y) → done (front g.segment g.len) ≡ read_seg (take (length s - at) (drop at s)) → y ≡ segment_row (shifted at g.segment)
      → ((k : ℕ) → Fits w8 (get_or s k 0)) → at ≤ length s → RowRead s at old (at + g.len) new
  read_stored g y new q e p b l =
      record { segment = shifted at g.segment; placed = at_found s at g e (shifted at g.segment) b refl l; stored = q ∙ ap (λ (z : SegmentRow). sets old 0 (numbers_of z)) p }

pub ruleset place_rows = (read_never, read_stored)

-- ---- the walk
abbrev slot_numbers : Slot → List ℕ
slot_numbers x = numbers_of (segment_row x.segment)

rows_length : (l : List Slot) → length (rows_for l) ≡ row_numbers * length l
rows_length [] = refl
rows_length (x ∷ l) = omega (arith, rows_length l, length-append (slot_numbers x) (rows_for l))

pub record Reading (s old rows : List ℕ) (count at i : ℕ) : Type 0 where
  pub stands : Stands s i at
  pub list : List Slot
  pub size : length list ≡ count
  pub full : walk max_segments s 0 ≡ done list
  pub rest : walk (max_segments - i) s at ≡ done (drop i list)
  pub stores : Storing slot_numbers list old rows (row_numbers * i) i

-- what stands at a place before the end of a path that was judged
record Turn (s : List ℕ) (at i : ℕ) (list : List Slot) : Type 0 where
  pub few : i < max_segments
  pub segment : Segment
  pub next : ℕ
  pub is : moved at (read_seg (drop at s)) ≡ done (front segment next)
  pub here : drop i list ≡ record { segment = segment } ∷ drop (i + 1) list
  pub rest : walk (max_segments - (i + 1)) s next ≡ done (drop (i + 1) list)

record Led (x : Segment) (w : Answer (List Slot)) (l : List Slot) : Type 0 where
  pub tail : List Slot
  pub is : w ≡ done tail
  pub all : l ≡ record { segment = x } ∷ tail

led : (x : Segment) (w : Answer (List Slot)) (l : List Slot) → before x w ≡ done l → Led x w l
led x (done t) l h = record { tail = t; is = refl; all = cc }
led x (refused k) l h = never h

module _ (s : List ℕ) (at i : ℕ) (list : List Slot) (h : at < length s) where
  turn_at : (left : ℕ) → i + suc left ≡ max_segments → walk (suc left) s at ≡ done (drop i list) → (f : Answer Front) → moved at (read_seg (drop at s)) ≡ f → Turn s at i list
  turn_at left c e (refused k) m = never (sym (walk_stops s at left k h m) ∙ e)
  turn_at left c e (done (front x next)) m =
      let p : Led x (walk left s next) (drop i list) = led x (walk left s next) (drop i list) (sym (walk_goes s at left x next h m) ∙ e) in
      let t : p.tail ≡ drop (i + 1) list = sym (ap (drop 1) p.all) ∙ drop-drop 1 i list in
      let q : max_segments - (i + 1) ≡ left = omega arith in
      record {
        few = omega arith;
        segment = x;
        next = next;
        is = m;
        here = p.all ∙ ap (λ (l : List Slot). record { segment = x } ∷ l) t;
        rest = ap (λ (k : ℕ). walk k s next) q ∙ p.is ∙ ap done t;
      }

  turn_of : (left : ℕ) → i + left ≡ max_segments → walk left s at ≡ done (drop i list) → Turn s at i list
  turn_of zero c e = never (sym (walk_full s at h) ∙ e)
  turn_of (suc left) c e = turn_at left c e (moved at (read_seg (drop at s))) refl

module _ (s : List ℕ) where
  pub reading_first : (rows : List ℕ) (count : ℕ) → PathJudged s count (length rows) → Reading s rows rows count 0 0
  reading_first rows count j =
      record {
        stands = record { few = omega arith; there = omega arith; near = omega arith };
        list = j.list;
        size = j.size;
        full = j.is;
        rest = j.is;
        stores = storing_first slot_numbers j.list rows (omega (arith, rows_length j.list, j.size, j.fits));
      }

  module _ (old rows : List ℕ) (count at i : ℕ) (w : Reading s old rows count at i) where
    pub reading_small : Fits w64 (row_numbers * i)
    reading_small = record { fits = omega (arith, w.stands.few) }

    pub reading_at : row_numbers * i ≤ length rows
    reading_at = omega (arith, w.stores.room)

    pub reading_same : length rows ≡ length old
    reading_same = w.stores.same

    pub reading_ends : count ≤ i → rows ≡ overlay (path_rows s) old
    reading_ends h =
        let f : [] ≡ drop i w.list = sym (drop_of_length-le w.list (omega (arith, w.size))) in
        let g : rows_for w.list ≡ path_rows s = ap (λ (x : Answer (List Slot)). rows_for (list_of x)) (sym w.full) in
        ap (λ (l : List Slot). sets rows (row_numbers * i) (rows_for l)) f
        ∙ w.stores.rest
        ∙ sets_overlay old (rows_for w.list) (omega (arith, rows_length w.list, w.size, w.stores.room, w.stores.same))
        ∙ ap (λ (b : List ℕ). overlay b old) g

    module _ (l : i < count) where
      -- a path with segments left has bytes left
      h : at < length s
      h = ⊎_elim
          (λ (a : at < length s). a)
          (λ (a : length s ≤ at).
          let e : done [] ≡ done (drop i w.list) = sym (walk_ends s at (max_segments - i) a) ∙ w.rest in
          let f : [] ≡ drop i w.list = cc in
          absurd (omega (arith, w.size, ap length f ∙ length-drop i w.list)))
          (below_or at (length s))

      turn : Turn s at i w.list
      turn = turn_of s at i w.list h (max_segments - i) (omega (arith, w.stands.few)) w.rest

      room : row_numbers * i + row_numbers ≤ length rows
      room = omega (arith, storing_fits slot_numbers w.list w.stores turn.here)

      pub reading_asks : SegmentHere s at (length (take (length rows - row_numbers * i) (drop (row_numbers * i) rows)))
      reading_asks =
          record {
            there = w.stands.there;
            near = omega (arith, w.stands.near, w.stands.few);
            found = front turn.segment turn.next;
            is = turn.is;
            fits = rw (length_lent rows (row_numbers * i)) (omega (arith, room));
          }

      pub reading_more : (r : ℕ) (new : List ℕ) → RowRead s at (take (length rows - row_numbers * i) (drop (row_numbers * i) rows)) r new
          → Reading s old (take (row_numbers * i) rows ++ (new ++ drop (length rows - row_numbers * i) (drop (row_numbers * i) rows))) count r (i + 1)
      reading_more r new d =
          let g : done (front d.segment r) ≡ done (front turn.segment turn.next) = d.placed.is ∙ turn.is in
          let x : d.segment ≡ turn.segment = cc in
          let n : r ≡ turn.next = cc in
          let k : row_numbers * i + 4 ≡ row_numbers * (i + 1) = omega arith in
          let after : List ℕ = take (row_numbers * i) rows ++ (new ++ drop (length rows - row_numbers * i) (drop (row_numbers * i) rows)) in
          record {
            stands = record { few = omega (arith, turn.few); there = d.placed.inside; near = omega (arith, d.placed.close, w.stands.near) };
            list = w.list;
            size = w.size;
            full = w.full;
            rest = ap (walk (max_segments - (i + 1)) s) n ∙ turn.rest;
            stores =
                subst (λ (p : ℕ). Storing slot_numbers w.list old after p (i + 1)) k
                (storing_more slot_numbers w.list w.stores turn.here
                (record { size = refl; stored = d.stored ∙ ap (λ (y : Segment). sets (take (length rows - row_numbers * i) (drop (row_numbers * i) rows)) 0 (numbers_of (segment_row y))) x }));
          }

pub ruleset reading_laws = (reading_first, reading_small, reading_at, reading_same, reading_ends, reading_asks, reading_more)

-- ---- the ends of bark_read_path
record Listed (w : Answer (List Slot)) (n : ℕ) : Type 0 where
  pub list : List Slot
  pub is : w ≡ done list
  pub size : length list ≡ n

listed : (w : Answer (List Slot)) (n : ℕ) → count_of w ≡ done n → Listed w n
listed (done l) n h = record { list = l; is = refl; size = cc }
listed (refused k) n h = never h

pub path_judged : (s : List ℕ) (n places : ℕ) → done n ≡ check_path s → row_numbers * n ≤ places → PathJudged s n places
unfolding check_path
path_judged s n places h l =
    let w : Listed (walk max_segments s 0) n = listed (walk max_segments s 0) n (sym h) in
    record { list = w.list; is = w.is; size = w.size; fits = l }
