-- Each public function takes every argument, and its contract leaves one answer.
-- Assumes nothing.
use mathlib.Core.Path.{refl}
use Rattle.exact.specs.Exact.{Exact, exact, says, same}
use Rattle.wire.proofs.Answers.{answer_one}
use Rattle.body_replies.specs.contracts.walk_reply
use Rattle.body_replies.specs.contracts.reply_item

pub walk_reply_exact : Exact walk_reply.ended (λ _ _. walk_reply.clauses)
walk_reply_exact = exact (λ w κs a. (tt, λ m. tt)) (λ w κs a g z e. search says) (λ t. (answer_one t.z t.z' (same t.said t.said'), refl))

pub reply_item_exact : Exact reply_item.ended (λ _ _. reply_item.clauses)
reply_item_exact = exact (λ w κs a. (tt, λ m. tt)) (λ w κs a g z e. search says) (λ t. (answer_one t.z t.z' (same t.said t.said'), refl))
