-- Each public function takes every argument, and its contract leaves one answer and one content of what is lent.
-- Assumes nothing.
use Rattle.exact.specs.Exact.{Exact, exact, says, same}
use Rattle.c_opens.specs.contracts.bark_read_forward_open
use Rattle.c_opens.specs.contracts.bark_default_forward_open

pub bark_read_forward_open_exact : Exact bark_read_forward_open.ended (λ _ _. bark_read_forward_open.clauses)
bark_read_forward_open_exact = exact (λ w κs a. (tt, λ m. tt)) (λ w κs a g z e. search says) (λ t.
    (same t.said.0 t.said'.0, λ i. (tt, (tt, (same t.said.1 t.said'.1 i, tt)))))

pub bark_default_forward_open_exact : Exact bark_default_forward_open.ended (λ _ _. bark_default_forward_open.clauses)
bark_default_forward_open_exact = exact (λ w κs a. (tt, λ m. tt)) (λ w κs a g z e. search says) (λ t.
    (same t.said.0 t.said'.0, λ i. (tt, (tt, (same t.said.1 t.said'.1 i, tt)))))
