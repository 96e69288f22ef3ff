-- Each public function takes every argument, and its contract leaves one answer and one content of what is lent.
-- Assumes nothing.
use Rattle.exact.specs.Exact.{Exact, exact, says, same}
use Rattle.c_reply_writes.specs.contracts.bark_write_forward_open_success
use Rattle.c_reply_writes.specs.contracts.bark_write_forward_close_success

pub bark_write_forward_open_success_exact : Exact bark_write_forward_open_success.ended (λ _ _. bark_write_forward_open_success.clauses)
bark_write_forward_open_success_exact = exact (λ w κs a. (tt, λ m. tt)) (λ w κs a g z e. search says) (λ t.
    (same t.said.0 t.said'.0, λ i. (tt, (tt, (tt, (tt, (tt, (tt, (tt, (tt, (tt, (same t.said.1 t.said'.1 i, tt))))))))))))

pub bark_write_forward_close_success_exact : Exact bark_write_forward_close_success.ended (λ _ _. bark_write_forward_close_success.clauses)
bark_write_forward_close_success_exact = exact (λ w κs a. (tt, λ m. tt)) (λ w κs a g z e. search says) (λ t.
    (same t.said.0 t.said'.0, λ i. (tt, (tt, (tt, (tt, (tt, (same t.said.1 t.said'.1 i, tt))))))))
