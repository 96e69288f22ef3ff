-- Each public function takes every argument, and its contract leaves one answer and one content of what is lent.
-- Assumes nothing.
use Rattle.exact.specs.Exact.{Exact, exact, says, same}
use Rattle.c_bodies.specs.contracts.bark_write_body
use Rattle.c_bodies.specs.contracts.bark_join_bodies

pub bark_write_body_exact : Exact bark_write_body.ended (λ _ _. bark_write_body.clauses)
bark_write_body_exact = exact (λ w κs a. (tt, λ m. tt)) (λ w κs a g z e. search says) (λ t. (same t.said.0 t.said'.0, λ i. (tt, (tt, (same t.said.1 t.said'.1 i, tt)))))

pub bark_join_bodies_exact : Exact bark_join_bodies.ended (λ _ _. bark_join_bodies.clauses)
bark_join_bodies_exact = exact (λ w κs a. (tt, λ m. tt)) (λ w κs a g z e. search says) (λ t. (same t.said.0 t.said'.0, λ i. (tt, (tt, (same t.said.1 t.said'.1 i, tt)))))
