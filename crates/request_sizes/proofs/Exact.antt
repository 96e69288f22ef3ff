-- Each public function takes every argument, and its contract leaves one answer.
-- Assumes nothing.
use mathlib.Core.Path.{refl}
use Rattle.exact.specs.Exact.{Exact, exact, says, same}
use Rattle.wire.proofs.Answers.{answer_one}
use Rattle.request_sizes.specs.contracts.message.message_size
use Rattle.request_sizes.specs.contracts.send.unconnected_send_size

pub message_size_exact : Exact message_size.ended (λ _ _. message_size.clauses)
message_size_exact = exact (λ w κs a. (tt, λ m. tt)) (λ w κs a g z e. search says) (λ t. (answer_one t.z t.z' (same t.said t.said'), refl))

pub unconnected_send_size_exact : Exact unconnected_send_size.ended (λ _ _. unconnected_send_size.clauses)
unconnected_send_size_exact = exact (λ w κs a. (tt, λ m. tt)) (λ w κs a g z e. search says) (λ t. (answer_one t.z t.z' (same t.said t.said'), refl))
