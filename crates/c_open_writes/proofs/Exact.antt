-- Each public function takes every argument, and its contract leaves one answer and one content of what is lent.
-- Assumes nothing.
use Rattle.exact.specs.Exact.{Exact, exact, says, same}
use Rattle.c_open_writes.specs.contracts.bark_write_forward_open

pub bark_write_forward_open_exact : Exact bark_write_forward_open.ended (λ _ _. bark_write_forward_open.clauses)
bark_write_forward_open_exact = exact (λ w κs a. (tt, λ m. tt)) (λ w κs a g z e. search says) (λ t.
    (same t.said.0 t.said'.0, λ i. (tt, (tt, (tt, (tt, (tt, (tt, (tt, (tt, (tt, (tt, (tt, (tt, (tt, (tt, (tt, (same t.said.1 t.said'.1 i, tt))))))))))))))))))
