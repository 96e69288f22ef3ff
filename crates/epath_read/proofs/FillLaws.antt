-- The slots that the reader of a path fills, a turn of the walk at a time. Assumes nothing.
use Prim.Native.Nat.{ℕ, suc, ◌+◌, ◌-◌, ◌≤◌, ◌<◌}
use mathlib.Core.Path.{◌≡◌, refl, sym, ap, ◌∙◌}
use mathlib.Core.List.{List, []}
use native.Mathlib.Omega.{arith}
use native.Mathlib.Nat.{add-zero, zero-add}
use native.Mathlib.Numerals.{add-one}
use lib.ListN.{length, get_or, set, take, drop, length-set, length-replicate}
use lib.Seq.{sets}
use mir.Val.{Fits}
use mir.Syntax.{w8}
use Rattle.std.specs.Prelude.{Result, Err}
use Rattle.wire.specs.Refusals.{number}
use Rattle.wire.specs.Answers.{Answer, done, refused}
use Rattle.wire.specs.declared.Refusal.{Refusal}
use Rattle.epath_sizes.specs.Limits.{max_segments}
use Rattle.epath_sizes.specs.Lists.{blank, blanks, path_of, shifted}
use Rattle.epath_sizes.specs.declared.Segment.{Segment}
use Rattle.epath_sizes.specs.declared.Slot.{Slot}
use Rattle.epath_segment.specs.declared.SegmentRead.{SegmentRead}
use Rattle.epath_segment.specs.Reads.{front, paper_front, read_seg, moved}
use Rattle.epath_check.specs.Paths.{before, walk, count_of, list_of, Placed}
use Rattle.epath_check.proofs.Places.{whole, at_found, at_near, at_fits}
use Rattle.epath_check.proofs.Walks.{left_ends, left_full, left_stops, left_goes, Stands, stands_there, stands_near, stands_more}
use Rattle.epath_read.specs.Reads.{PathFound, read_path}

abbrev pub nothing : ℕ → PathFound
nothing k = record { answer = refused k; path = path_of [] }

abbrev pub fills : List Slot → ℕ → Answer (List Slot) → PathFound
fills slots n (done l) = record { answer = done (n + length l); path = record { slots = sets slots n l; count = n + length l } }
fills slots n (refused k) = nothing k

abbrev wholly : Answer (List Slot) → PathFound
wholly w = record { answer = count_of w; path = path_of (list_of w) }

fills_none : (w : Answer (List Slot)) → fills blanks 0 w ≡ wholly w
fills_none (done l) = rw (zero-add (length l))
fills_none (refused k) = refl

fills_one : (slots : List Slot) (n : ℕ) (x : Segment) (w : Answer (List Slot)) → fills slots n (before x w) ≡ fills (set slots n (record { segment = x })) (n + 1) w
fills_one slots n x (done l) =
    let e : n + suc (length l) ≡ n + 1 + length l = omega arith in
    rw (e, add-one n)
fills_one slots n x (refused k) = refl

pub record Filling (s : List ℕ) (slots : List Slot) (count at : ℕ) : Type 0 where
  pub stands : Stands s count at
  pub long : length slots ≡ max_segments
  pub rest : fills slots count (walk (max_segments - count) s at) ≡ read_path s

module _ (s : List ℕ) (slots : List Slot) (count at : ℕ) (w : Filling s slots count at) where
  pub filling_full : at < length s → count ≡ max_segments → nothing 3 ≡ read_path s
  filling_full h c = left_full s count at (fills slots count) (read_path s) w.rest h c

  pub filling_ends : length s ≤ at → record { answer = done count; path = record { slots = slots; count = count } } ≡ read_path s
  filling_ends h =
      let e : fills slots count (done []) ≡ record { answer = done count; path = record { slots = slots; count = count } } = rw (add-zero count) in
      sym e ∙ left_ends s count at (fills slots count) (read_path s) w.rest h

  module _ (h : at < length s) (c : count ≡ max_segments → ⊥) where
    pub filling_stops : (r : Result SegmentRead Refusal) (e : Refusal) → paper_front r ≡ read_seg (take (length s - at) (drop at s)) → r ≡ Err e → nothing (number e) ≡ read_path s
    filling_stops r e p q =
        let f : moved at (read_seg (drop at s)) ≡ refused (number e) = ap (moved at) (whole s at _ p ∙ ap paper_front q) in
        left_stops s count at (fills slots count) (read_path s) w.rest h c w.stands.few (number e) f

    pub filling_more : (g : SegmentRead) (x : Segment) → done (front g.segment g.len) ≡ read_seg (take (length s - at) (drop at s)) → x ≡ shifted at g.segment → ((k : ℕ) → Fits w8 (get_or s k 0)) → Filling s (set slots count (record { segment = x })) (count + 1) (at + g.len)
    filling_more g x p q b =
        let f : Placed s at (done (front x (at + g.len))) = at_found s at g p x b q w.stands.there in
        record {
          stands = stands_more s count at x (at + g.len) w.stands c f;
          long = length-set slots count (record { segment = x }) ∙ w.long;
          rest =
              sym (fills_one slots count x (walk (max_segments - (count + 1)) s (at + g.len)))
              ∙ left_goes s count at (fills slots count) (read_path s) w.rest h c w.stands.few x (at + g.len) (sym f.is);
        }

pub filling_first : (s : List ℕ) → Filling s blanks 0 0
unfolding read_path
filling_first s =
    record {
      stands = record { few = omega arith; there = omega arith; near = omega arith };
      long = length-replicate max_segments blank;
      rest = fills_none (walk max_segments s 0);
    }

pub ruleset filling_laws = (stands_there, stands_near, at_near, at_fits, filling_full, filling_ends, filling_stops, filling_more, filling_first)
