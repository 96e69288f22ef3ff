-- Each public function takes every argument, and its contract leaves one answer.
-- Assumes nothing.
use mathlib.Core.Path.{refl}
use Rattle.exact.specs.Exact.{Exact, exact, says, same}
use Rattle.epath_lists.specs.contracts.blank_path
use Rattle.epath_lists.specs.contracts.default_port
use Rattle.epath_lists.specs.contracts.is_port

pub blank_path_exact : Exact blank_path.ended (λ _ _. blank_path.clauses)
blank_path_exact = exact (λ w κs a. (tt, λ m. tt)) (λ w κs a g z e. search says) (λ t. (same t.said t.said', refl))

pub default_port_exact : Exact default_port.ended (λ _ _. default_port.clauses)
default_port_exact = exact (λ w κs a. (tt, λ m. tt)) (λ w κs a g z e. search says) (λ t. (same t.said t.said', refl))

pub is_port_exact : Exact is_port.ended (λ _ _. is_port.clauses)
is_port_exact = exact (λ w κs a. (tt, λ m. tt)) (λ w κs a g z e. search says) (λ t. (same t.said t.said', refl))
