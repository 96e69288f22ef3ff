-- Each public function takes every argument, and its contract leaves one answer.
-- Assumes nothing.
use mathlib.Core.Path.{refl}
use Rattle.exact.specs.Exact.{Exact, exact, says, same}
use Rattle.statuses.specs.contracts.is_ok
use Rattle.statuses.specs.contracts.is_routing_error

pub is_ok_exact : Exact is_ok.ended (λ _ _. is_ok.clauses)
is_ok_exact = exact (λ w κs a. (tt, λ m. tt)) (λ w κs a g z e. search says) (λ t. (same t.said t.said', refl))

pub is_routing_error_exact : Exact is_routing_error.ended (λ _ _. is_routing_error.clauses)
is_routing_error_exact = exact (λ w κs a. (tt, λ m. tt)) (λ w κs a g z e. search says) (λ t. (same t.said t.said', refl))
