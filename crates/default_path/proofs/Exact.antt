-- Each public function takes every argument, and its contract leaves one answer. Assumes nothing.
use mathlib.Core.Path.{refl}
use Rattle.exact.specs.Exact.{Exact, exact, says, same}
use Rattle.default_path.specs.contracts.default_connection_path

pub default_connection_path_exact : Exact default_connection_path.ended (λ _ _. default_connection_path.clauses)
default_connection_path_exact = exact (λ w κs a. (tt, λ m. tt)) (λ w κs a g z e. search says) (λ t. (same t.said t.said', refl))
