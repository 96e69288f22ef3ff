-- Each public function takes every argument, and its contract leaves one answer and one content of the lent run.
-- Assumes nothing.
use Rattle.exact.specs.Exact.{Exact, exact, says, same}
use Rattle.c_body_replies.specs.contracts.bark_reply_item
use Rattle.c_body_replies.specs.contracts.bark_walk_reply

pub bark_reply_item_exact : Exact bark_reply_item.ended (λ _ _. bark_reply_item.clauses)
bark_reply_item_exact = exact (λ w κs a. (tt, λ m. tt)) (λ w κs a g z e. search says) (λ t. (same t.said.0 t.said'.0, λ i. (tt, (tt, (same t.said.1 t.said'.1 i, tt)))))

pub bark_walk_reply_exact : Exact bark_walk_reply.ended (λ _ _. bark_walk_reply.clauses)
bark_walk_reply_exact = exact (λ w κs a. (tt, λ m. tt)) (λ w κs a g z e. search says) (λ t. (same t.said.0 t.said'.0, λ i. (tt, (tt, (tt, (same t.said.1 t.said'.1 i, tt))))))
