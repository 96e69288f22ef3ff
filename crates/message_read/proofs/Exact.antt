-- Each public function takes every argument, and its contract leaves one answer.
-- Assumes nothing.
use mathlib.Core.Path.{refl}
use Rattle.exact.specs.Exact.{Exact, exact, says, same}
use Rattle.wire.proofs.Answers.{answer_one}
use Rattle.message_read.specs.contracts.message.read_message
use Rattle.message_read.specs.contracts.route.route_at
use Rattle.message_read.specs.contracts.route.padded_route_at

pub read_message_exact : Exact read_message.ended (λ _ _. read_message.clauses)
read_message_exact = exact (λ w κs a. (tt, λ m. tt)) (λ w κs a g z e. search says) (λ t. (answer_one t.z t.z' (same t.said t.said'), refl))

pub route_at_exact : Exact route_at.ended (λ _ _. route_at.clauses)
route_at_exact = exact (λ w κs a. (tt, λ m. tt)) (λ w κs a g z e. search says) (λ t. (answer_one t.z t.z' (same t.said t.said'), refl))

pub padded_route_at_exact : Exact padded_route_at.ended (λ _ _. padded_route_at.clauses)
padded_route_at_exact = exact (λ w κs a. (tt, λ m. tt)) (λ w κs a g z e. search says) (λ t. (answer_one t.z t.z' (same t.said t.said'), refl))
