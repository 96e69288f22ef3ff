-- Each public function takes every argument, and its contract leaves one answer.
-- Assumes nothing.
use mathlib.Core.Path.{refl}
use Rattle.exact.specs.Exact.{Exact, exact, says, same}
use Rattle.wire.proofs.Answers.{answer_one}
use Rattle.reply_read.specs.contracts.open.read_forward_open_reply
use Rattle.reply_read.specs.contracts.close.read_forward_close_reply

pub read_forward_open_reply_exact : Exact read_forward_open_reply.ended (λ _ _. read_forward_open_reply.clauses)
read_forward_open_reply_exact = exact (λ w κs a. (tt, λ m. tt)) (λ w κs a g z e. search says) (λ t. (answer_one t.z t.z' (same t.said t.said'), refl))

pub read_forward_close_reply_exact : Exact read_forward_close_reply.ended (λ _ _. read_forward_close_reply.clauses)
read_forward_close_reply_exact = exact (λ w κs a. (tt, λ m. tt)) (λ w κs a g z e. search says) (λ t. (answer_one t.z t.z' (same t.said t.said'), refl))
