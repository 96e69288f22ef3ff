-- The public function takes every argument, and its contract leaves one answer. Assumes nothing.
use mathlib.Core.Path.{◌≡◌, refl, ap}
use Rattle.std.specs.Prelude.{Result, Ok, Err}
use Rattle.exact.specs.Exact.{Exact, exact, says, same}
use Rattle.wire.specs.Answers.{Answer, done, refused}
use Rattle.wire.specs.declared.Refusal.{Refusal}
use Rattle.wire.proofs.Answers.{one_by, number_back, refusal_of}
use Rattle.epath_segment.specs.Reads.{Front, front, paper_front}
use Rattle.epath_segment.specs.declared.SegmentRead.{SegmentRead}
use Rattle.epath_segment.specs.contracts.decode.read_segment

-- an answer, from its form on paper
abbrev from_front : Answer Front → Result SegmentRead Refusal
from_front (done (front x n)) = Ok (record { segment = x; len = n })
from_front (refused k) = Err (refusal_of k)

pub front_one : (a b : Result SegmentRead Refusal) → paper_front a ≡ paper_front b → a ≡ b
front_one = one_by paper_front from_front (elim [ Ok r ↦ refl | Err e ↦ ap Err (number_back e) ])

pub read_segment_exact : Exact read_segment.ended (λ _ _. read_segment.clauses)
read_segment_exact = exact (λ w κs a. (tt, λ m. tt)) (λ w κs a g z e. search says) (λ t. (front_one t.z t.z' (same t.said t.said'), refl))
