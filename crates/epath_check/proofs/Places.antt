-- A segment at a place: what the reader of the part from there says of the whole. Assumes nothing.
use Prim.Native.Nat.{ℕ, ◌+◌, ◌-◌, ◌≤◌, ◌<◌, ◌^◌}
use mathlib.Core.Path.{◌≡◌, sym}
use mathlib.Core.List.{List}
use native.Mathlib.Omega.{arith}
use lib.ListN.{length, get_or, take, drop, length-drop}
use mir.Val.{Fits}
use mir.Syntax.{w8, w64}
use Rattle.std.specs.Prelude.{Result, Err}
use Rattle.wire.specs.Refusals.{number}
use Rattle.wire.specs.declared.Refusal.{Refusal}
use Rattle.wire.specs.Answers.{Answer, done, refused}
use Rattle.wire.proofs.Numbers.{bytes_drop}
use Rattle.wire.proofs.Stores.{lent_all}
use Rattle.epath_sizes.specs.Lists.{start_of, shifted}
use Rattle.epath_sizes.specs.declared.Segment.{Segment}
use Rattle.epath_segment.specs.declared.SegmentRead.{SegmentRead}
use Rattle.epath_segment.specs.Reads.{Front, front, paper_front, read_seg, moved}
use Rattle.epath_check.specs.Paths.{Placed}
use Rattle.epath_segment.proofs.Got.{Got, got}

-- what stands at a place lies there
pub placed : (s : List ℕ) (at : ℕ) → ((k : ℕ) → Fits w8 (get_or s k 0)) → at ≤ length s → (f : Answer Front) → read_seg (drop at s) ≡ f → Placed s at (moved at f)
placed s at b l (refused k) e = record { is = rw e; inside = omega arith; close = omega arith }
placed s at b l (done (front x n)) e =
    let a : Got (drop at s) x n = got (drop at s) x n (bytes_drop s at (λ k. (b k).fits)) e in
    let g : n ≤ length (drop at s) = a.size in
    let k : n ≤ length s - at = simp length-drop at g in
    record { is = rw e; inside = omega arith; close = omega (arith, a.small) }

module _ (s : List ℕ) (at : ℕ) where
  pub whole : (f : Answer Front) → f ≡ read_seg (take (length s - at) (drop at s)) → read_seg (drop at s) ≡ f
  whole f e = rw (← lent_all s at) (sym e)

  pub at_refused : (r : Result SegmentRead Refusal) (k : Refusal) → paper_front r ≡ read_seg (take (length s - at) (drop at s)) → r ≡ Err k → Placed s at (refused (number k))
  at_refused r k e h = record { is = rw (whole _ e, h); inside = omega arith; close = omega arith }

  module _ (g : SegmentRead) (e : done (front g.segment g.len) ≡ read_seg (take (length s - at) (drop at s))) where
    at_got : ((k : ℕ) → Fits w8 (get_or s k 0)) → Got (drop at s) g.segment g.len
    at_got b = got (drop at s) g.segment g.len (bytes_drop s at (λ k. (b k).fits)) (whole _ e)

    pub at_near : ((k : ℕ) → Fits w8 (get_or s k 0)) → start_of g.segment ≤ 4
    at_near b = (at_got b).near

    pub at_fits : ((k : ℕ) → Fits w8 (get_or s k 0)) → at ≤ length s → length s < 2 ^ 64 → Fits w64 (at + g.len)
    at_fits b l f =
        let m : g.len ≤ length (drop at s) = (at_got b).size in
        let k : g.len ≤ length s - at = simp length-drop at m in
        record { fits = omega arith }

    pub at_found : (y : Segment) → ((k : ℕ) → Fits w8 (get_or s k 0)) → y ≡ shifted at g.segment → at ≤ length s → Placed s at (done (front y (at + g.len)))
    at_found y b p l = rw p (placed s at b l (done (front g.segment g.len)) (whole _ e))

pub ruleset place_laws = (at_refused, at_found, at_near, at_fits)
