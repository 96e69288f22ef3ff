-- The public function takes every argument, and its contract leaves one answer and one content of the lent rows. Assumes nothing.
use Rattle.exact.specs.Exact.{Exact, exact, says, same}
use Rattle.c_reply_walk.specs.contracts.bark_read_replies

pub bark_read_replies_exact : Exact bark_read_replies.ended (λ _ _. bark_read_replies.clauses)
bark_read_replies_exact = exact (λ w κs a. (tt, λ m. tt)) (λ w κs a g z e. search says) (λ t. (same t.said.0 t.said'.0, λ i. (tt, (same t.said.1 t.said'.1 i, tt))))
