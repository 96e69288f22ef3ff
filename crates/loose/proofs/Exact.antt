-- The function takes every argument, and its contract leaves one answer and one content of `out`.
-- Assumes nothing.
use Rattle.exact.specs.Exact.{Exact, exact, says, same}
use Rattle.loose.specs.contracts.least

pub least_exact : Exact least.ended (λ _ _. least.clauses)
least_exact = exact (λ w κs a. (tt, λ m. tt)) (λ w κs a g z e. search says) (λ t.
    (same t.said.0 t.said'.0, λ i. (tt, (same t.said.1 t.said'.1 i, tt))))
