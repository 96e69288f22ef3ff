-- Each public function takes every argument, and its contract leaves one answer and one content of what is lent.
-- Assumes nothing.
use Rattle.exact.specs.Exact.{Exact, exact, says, same}
use Rattle.c_frames.specs.contracts.bark_take_scrap

pub bark_take_scrap_exact : Exact bark_take_scrap.ended (λ _ _. bark_take_scrap.clauses)
bark_take_scrap_exact = exact (λ w κs a. (tt, λ m. tt)) (λ w κs a g z e. search says) (λ t.
    (same t.said.0 t.said'.0, λ i. (same t.said.1.0 t.said'.1.0 i, (same t.said.1.1.0 t.said'.1.1.0 i, (tt, (same t.said.1.1.1 t.said'.1.1.1 i, tt))))))
