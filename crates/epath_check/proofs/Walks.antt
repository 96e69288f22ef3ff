-- The walk over a path's segments, a turn at a time: what is left gives what the whole gives. Assumes nothing.
use Prim.Native.Nat.{ℕ, zero, suc, ◌+◌, ◌*◌, ◌-◌, ◌≤◌, ◌<◌}
use mathlib.Core.Path.{◌≡◌, refl, sym, ap, ◌∙◌}
use mathlib.Core.List.{List, []}
use native.Mathlib.Omega.{arith}
use native.Mathlib.Nat.{add-zero, zero-add}
use lib.ListN.{length, get_or, drop}
use mir.Val.{Fits}
use mir.Syntax.{w8}
use borrow.Author.Tests.{lt-ltb, le-ltb}
use Rattle.std.specs.Prelude.{Result, Err}
use Rattle.wire.specs.Refusals.{number}
use Rattle.wire.specs.Answers.{Answer, done, refused, paper}
use Rattle.wire.proofs.Rules.{never}
use Rattle.wire.specs.declared.Refusal.{Refusal}
use Rattle.epath_sizes.specs.Limits.{max_segments, most_bytes, max_place}
use Rattle.epath_sizes.specs.declared.Segment.{Segment}
use Rattle.epath_sizes.specs.declared.Slot.{Slot}
use Rattle.epath_segment.specs.Reads.{Front, front, read_seg, moved}
use Rattle.epath_check.specs.Paths.{before, walk, count_of, check_path, Placed, end_of, next_in}
use Rattle.epath_check.proofs.Places.{placed}

-- ---- each end of the walk
module _ (s : List ℕ) (at : ℕ) where
  pub walk_ends : (left : ℕ) → length s ≤ at → walk left s at ≡ done []
  unfolding walk
  walk_ends zero h = simp (le-ltb _ _ h, walk)
  walk_ends (suc left) h = simp (le-ltb _ _ h, walk)

  pub walk_full : at < length s → walk zero s at ≡ refused 3
  unfolding walk
  walk_full h = simp (lt-ltb _ _ h, walk)

  pub walk_stops : (left k : ℕ) → at < length s → moved at (read_seg (drop at s)) ≡ refused k → walk (suc left) s at ≡ refused k
  unfolding walk
  walk_stops left k h e = simp (lt-ltb _ _ h, e, walk)

  pub walk_goes : (left : ℕ) (x : Segment) (next : ℕ) → at < length s → moved at (read_seg (drop at s)) ≡ done (front x next) → walk (suc left) s at ≡ before x (walk left s next)
  unfolding walk
  walk_goes left x next h e = simp (lt-ltb _ _ h, e, walk)

-- ---- what a loop has left: whatever it makes of the walk from here on is what it makes of the whole
module _ {B : Type 0} (s : List ℕ) (count at : ℕ) (f : Answer (List Slot) → B) (whole : B) (rest : f (walk (max_segments - count) s at) ≡ whole) where
  pub left_ends : length s ≤ at → f (done []) ≡ whole
  left_ends h = ap f (sym (walk_ends s at (max_segments - count) h)) ∙ rest

  module _ (h : at < length s) where
    pub left_full : count ≡ max_segments → f (refused 3) ≡ whole
    left_full c = let z : 0 ≡ max_segments - count = omega arith in ap f (sym (walk_full s at h)) ∙ ap (λ (k : ℕ). f (walk k s at)) z ∙ rest

    module _ (c : count ≡ max_segments → ⊥) (few : count ≤ max_segments) where
      one_less : f (walk (suc (max_segments - (count + 1))) s at) ≡ whole
      one_less = let e : suc (max_segments - (count + 1)) ≡ max_segments - count = omega arith in ap (λ (k : ℕ). f (walk k s at)) e ∙ rest

      pub left_stops : (k : ℕ) → moved at (read_seg (drop at s)) ≡ refused k → f (refused k) ≡ whole
      left_stops k m = ap f (sym (walk_stops s at (max_segments - (count + 1)) k h m)) ∙ one_less

      pub left_goes : (x : Segment) (next : ℕ) → moved at (read_seg (drop at s)) ≡ done (front x next) → f (before x (walk (max_segments - (count + 1)) s next)) ≡ whole
      left_goes x next m = ap f (sym (walk_goes s at (max_segments - (count + 1)) x next h m)) ∙ one_less

-- ---- counting
abbrev pub adds : ℕ → Answer (List Slot) → Answer ℕ
adds n (done l) = done (n + length l)
adds n (refused k) = refused k

adds_none : (w : Answer (List Slot)) → adds 0 w ≡ count_of w
adds_none (done l) = ap done (zero-add (length l))
adds_none (refused k) = refl

adds_one : (n : ℕ) (x : Segment) (w : Answer (List Slot)) → adds n (before x w) ≡ adds (n + 1) w
adds_one n x (done l) = ap done (omega arith)
adds_one n x (refused k) = refl

-- an end that is told without its segment says what the walk does there
stopped : (f : Answer Front) (k : ℕ) → end_of f ≡ refused k → f ≡ refused k
stopped (done (front x n)) k h = never (sym h)
stopped (refused j) k h = let e : j ≡ k = cc in ap refused e

record Gone (f : Answer Front) (n : ℕ) : Type 0 where
  x : Segment
  is : f ≡ done (front x n)

gone : (f : Answer Front) (n : ℕ) → end_of f ≡ done n → Gone f n
gone (refused k) n h = never h
gone (done (front x m)) n h = let e : m ≡ n = cc in record { x = x; is = ap (λ (k : ℕ). done (front x k)) e }

-- what any loop of the walk keeps of its place
pub record Stands (s : List ℕ) (count at : ℕ) : Type 0 where
  pub few : count ≤ max_segments
  pub there : at ≤ length s
  pub near : at ≤ most_bytes * count

pub record Counting (s : List ℕ) (count at : ℕ) : Type 0 where
  pub stands : Stands s count at
  pub rest : adds count (walk (max_segments - count) s at) ≡ check_path s

module _ (s : List ℕ) (count at : ℕ) where
  -- what a segment's reader asks
  pub stands_there : Stands s count at → at ≤ length s
  stands_there w = w.there

  pub stands_near : Stands s count at → at ≤ max_place
  stands_near w = omega arith

  pub stands_more : (x : Segment) (next : ℕ) → Stands s count at → (count ≡ max_segments → ⊥) → Placed s at (done (front x next)) → Stands s (count + 1) next
  stands_more x next w c p = record { few = omega arith; there = p.inside; near = omega (arith, p.close) }

  module _ (w : Counting s count at) where
    pub counting_full : at < length s → count ≡ max_segments → refused 3 ≡ check_path s
    counting_full = left_full s count at (adds count) (check_path s) w.rest

    pub counting_ends : length s ≤ at → done count ≡ check_path s
    counting_ends h = ap done (sym (add-zero count)) ∙ left_ends s count at (adds count) (check_path s) w.rest h

    module _ (h : at < length s) (c : count ≡ max_segments → ⊥) where
      pub counting_stops : (r : Result ℕ Refusal) (e : Refusal) → paper r ≡ next_in s at → r ≡ Err e → refused (number e) ≡ check_path s
      unfolding next_in
      counting_stops r e p q = left_stops s count at (adds count) (check_path s) w.rest h c w.stands.few (number e) (stopped _ _ (sym p ∙ rw q))

      pub counting_more : (next : ℕ) → done next ≡ next_in s at → ((k : ℕ) → Fits w8 (get_or s k 0)) → Counting s (count + 1) next
      unfolding next_in
      counting_more next p b =
          let g : Gone (moved at (read_seg (drop at s))) next = gone _ _ (sym p) in
          let l : Placed s at (moved at (read_seg (drop at s))) = placed s at b w.stands.there (read_seg (drop at s)) refl in
          record {
            stands = stands_more g.x next w.stands c (rw g.is at l);
            rest =
                sym (adds_one count g.x (walk (max_segments - (count + 1)) s next))
                ∙ left_goes s count at (adds count) (check_path s) w.rest h c w.stands.few g.x next g.is;
          }

pub counting_first : (s : List ℕ) → Counting s 0 0
unfolding check_path
counting_first s = record { stands = record { few = omega arith; there = omega arith; near = omega arith }; rest = adds_none (walk max_segments s 0) }

pub ruleset counting_laws = (stands_there, stands_near, counting_full, counting_ends, counting_stops, counting_more, counting_first)
