-- The public function takes every argument, and its contract leaves one answer. Assumes nothing.
use mathlib.Core.Path.{refl}
use Rattle.exact.specs.Exact.{Exact, exact, says, same}
use Rattle.c_path_checks.specs.contracts.bark_check_path

pub bark_check_path_exact : Exact bark_check_path.ended (λ _ _. bark_check_path.clauses)
bark_check_path_exact = exact (λ w κs a. (tt, λ m. tt)) (λ w κs a g z e. search says) (λ t. (same t.said t.said', refl))
