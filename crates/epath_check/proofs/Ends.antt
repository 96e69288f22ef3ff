-- Where a segment ends. Assumes nothing.
use Prim.Native.Nat.{ℕ, ◌+◌, ◌-◌}
use mathlib.Core.Path.{◌≡◌, sym, ap, ◌∙◌}
use mathlib.Core.List.{List}
use lib.ListN.{length, take, drop, length-drop}
use lib.Seq.{get_or-drop}
use Rattle.std.specs.Prelude.{Result, Err}
use Rattle.wire.specs.Refusals.{number}
use Rattle.wire.specs.declared.Refusal.{Refusal}
use Rattle.wire.specs.Answers.{Answer, done, refused}
use Rattle.wire.proofs.Numbers.{byte_here}
use Rattle.epath_segment.specs.declared.SegmentRead.{SegmentRead}
use Rattle.epath_segment.specs.Reads.{Front, front, paper_front, read_seg, moved}
use Rattle.epath_check.specs.Paths.{end_of, next_in}
use Rattle.epath_check.proofs.Places.{whole, at_fits}

module _ (s : List ℕ) (at : ℕ) where
  ends : (f : Answer Front) → f ≡ read_seg (take (length s - at) (drop at s)) → end_of (moved at f) ≡ next_in s at
  unfolding next_in
  ends f e = ap (λ (y : Answer Front). end_of (moved at y)) (sym (whole s at f e))

  pub end_found : (g : SegmentRead) → done (front g.segment g.len) ≡ read_seg (take (length s - at) (drop at s)) → done (at + g.len) ≡ next_in s at
  end_found g e = ends _ e

  pub end_refused : (r : Result SegmentRead Refusal) (k : Refusal) → paper_front r ≡ read_seg (take (length s - at) (drop at s)) → r ≡ Err k → refused (number k) ≡ next_in s at
  end_refused r k p q = ends (refused (number k)) (sym (ap paper_front q) ∙ p)

pub ruleset end_laws = (end_found, end_refused, at_fits)

-- for the forms that are told where they stand
pub ruleset part_laws = (length-drop, get_or-drop, byte_here)
