-- Each public function takes every argument, and its contract leaves one answer.
-- Assumes nothing.
use mathlib.Core.Path.{refl}
use Rattle.exact.specs.Exact.{Exact, exact, says, same}
use Rattle.c_statuses.specs.contracts.status_of
use Rattle.c_statuses.specs.contracts.bark_is_routing_error

pub status_of_exact : Exact status_of.ended (λ _ _. status_of.clauses)
status_of_exact = exact (λ w κs a. (tt, λ m. tt)) (λ w κs a g z e. search says) (λ t. (same t.said t.said', refl))

pub bark_is_routing_error_exact : Exact bark_is_routing_error.ended (λ _ _. bark_is_routing_error.clauses)
bark_is_routing_error_exact = exact (λ w κs a. (tt, λ m. tt)) (λ w κs a g z e. search says) (λ t. (same t.said t.said', refl))
