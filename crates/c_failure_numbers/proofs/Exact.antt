-- The public function takes every argument, and its contract leaves one answer.
-- Assumes nothing.
use mathlib.Core.Path.{refl}
use Rattle.exact.specs.Exact.{Exact, exact, says, same}
use Rattle.c_failure_numbers.specs.contracts.failure_numbers

pub failure_numbers_exact : Exact failure_numbers.ended (λ _ _. failure_numbers.clauses)
failure_numbers_exact = exact (λ w κs a. (tt, λ m. tt)) (λ w κs a g z e. search says) (λ t. (same t.said t.said', refl))
