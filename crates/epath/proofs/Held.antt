-- The bytes of each segment that was read lie in the input: what the writer asks of a list (11). Assumes nothing.
use Prim.Native.Nat.{ℕ, zero, suc, ◌+◌, ◌-◌, ◌≤◌, ◌<◌}
use mathlib.Core.Path.{◌≡◌, refl}
use mathlib.Core.List.{List, [], ◌∷◌}
use mathlib.Core.Logic.{⊎_elim}
use native.Mathlib.Omega.{arith}
use lib.ListN.{length, drop, length-drop}
use Rattle.wire.specs.Numbers.{Bytes}
use Rattle.wire.specs.Answers.{Answer, done, refused}
use Rattle.wire.proofs.Numbers.{below_or, bytes_drop}
use Rattle.epath_sizes.specs.Lists.{start_of, len_of, shifted}
use Rattle.epath_sizes.specs.declared.Segment.{Segment}
use Rattle.epath_sizes.specs.declared.Segment.TheVariants.{Symbol, Class, Instance, Attribute, Element, Port}
use Rattle.epath_sizes.specs.declared.Slot.{Slot}
use Rattle.epath_segment.specs.Reads.{Front, front, read_seg, moved}
use Rattle.epath_check.specs.Paths.{before, walk, list_of}
use Rattle.epath_segment.proofs.Got.{got}
use Rattle.epath_check.proofs.Walks.{walk_ends, walk_full, walk_stops, walk_goes}

-- each slot's bytes lie in a pool of n bytes
abbrev pub AllHeld : ℕ → List Slot → Type 0
AllHeld n [] = Unit {0}
AllHeld n (x ∷ l) = (start_of x.segment + len_of x.segment ≤ n) × AllHeld n l

shifted_held : (n at : ℕ) (x : Segment) → at ≤ n → start_of x + len_of x ≤ n - at → start_of (shifted at x) + len_of (shifted at x) ≤ n
shifted_held n at (Symbol y) l h = omega arith
shifted_held n at (Class v) l h = omega arith
shifted_held n at (Instance v) l h = omega arith
shifted_held n at (Attribute v) l h = omega arith
shifted_held n at (Element v) l h = omega arith
shifted_held n at (Port q) l h = omega arith

before_held : (n : ℕ) (x : Segment) (w : Answer (List Slot)) → start_of x + len_of x ≤ n → AllHeld n (list_of w) → AllHeld n (list_of (before x w))
before_held n x (done l) h a = (h, a)
before_held n x (refused k) h a = tt

goes : (left : ℕ) (s : List ℕ) (at : ℕ) → Bytes s → at < length s → (f : Answer Front) → read_seg (drop at s) ≡ f
    → ((n : ℕ) → AllHeld (length s) (list_of (walk left s (at + n)))) → AllHeld (length s) (list_of (walk (suc left) s at))
goes left s at b h (refused k) e ih = let m : moved at (read_seg (drop at s)) ≡ refused k = rw e in rw (walk_stops s at left k h m) tt
goes left s at b h (done (front y n)) e ih =
    let m : moved at (read_seg (drop at s)) ≡ done (front (shifted at y) (at + n)) = rw e in
    let g : start_of y + len_of y ≤ length (drop at s) = (got (drop at s) y n (bytes_drop s at b) e).held in
    let k : start_of y + len_of y ≤ length s - at = simp length-drop at g in
    rw (walk_goes s at left (shifted at y) (at + n) h m)
    (before_held (length s) (shifted at y) (walk left s (at + n)) (shifted_held (length s) at y (omega arith) k) (ih n))

pub all_held : (left : ℕ) (s : List ℕ) (at : ℕ) → Bytes s → AllHeld (length s) (list_of (walk left s at))
all_held zero s at b = ⊎_elim
    (λ (h : at < length s). rw (walk_full s at h) tt)
    (λ (h : length s ≤ at). rw (walk_ends s at zero h) tt)
    (below_or at (length s))
all_held (suc left) s at b = ⊎_elim
    (λ (h : at < length s). goes left s at b h (read_seg (drop at s)) refl (λ n. all_held left s (at + n) b))
    (λ (h : length s ≤ at). rw (walk_ends s at (suc left) h) tt)
    (below_or at (length s))
