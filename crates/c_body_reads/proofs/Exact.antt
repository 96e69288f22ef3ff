-- Each public function takes every argument, and its contract leaves one answer and one content of what is lent.
-- Assumes nothing.
use mathlib.Core.Path.{refl}
use Rattle.exact.specs.Exact.{Exact, exact, says, same}
use Rattle.c_body_reads.specs.contracts.bark_read_body
use Rattle.c_body_reads.specs.contracts.bark_body_item
use Rattle.c_body_reads.specs.contracts.bark_walk_item

pub bark_read_body_exact : Exact bark_read_body.ended (λ _ _. bark_read_body.clauses)
bark_read_body_exact = exact (λ w κs a. (tt, λ m. tt)) (λ w κs a g z e. search says) (λ t. (same t.said t.said', refl))

pub bark_body_item_exact : Exact bark_body_item.ended (λ _ _. bark_body_item.clauses)
bark_body_item_exact = exact (λ w κs a. (tt, λ m. tt)) (λ w κs a g z e. search says) (λ t. (same t.said.0 t.said'.0, λ i. (tt, (tt, (same t.said.1 t.said'.1 i, tt)))))

pub bark_walk_item_exact : Exact bark_walk_item.ended (λ _ _. bark_walk_item.clauses)
bark_walk_item_exact = exact (λ w κs a. (tt, λ m. tt)) (λ w κs a g z e. search says) (λ t. (same t.said.0 t.said'.0, λ i. (tt, (tt, (tt, (same t.said.1 t.said'.1 i, tt))))))
