-- The public function takes every argument, and its contract leaves one answer.
-- Assumes nothing.
use mathlib.Core.Path.{refl}
use Rattle.exact.specs.Exact.{Exact, exact, says, same}
use Rattle.wire.proofs.Answers.{answer_one}
use Rattle.epath_sizes.specs.contracts.sizes.segment_size

pub segment_size_exact : Exact segment_size.ended (λ _ _. segment_size.clauses)
segment_size_exact = exact (λ w κs a. (tt, λ m. tt)) (λ w κs a g z e. search says) (λ t. (answer_one t.z t.z' (same t.said t.said'), refl))
