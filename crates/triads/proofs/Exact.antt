-- The public function takes every argument, and its contract leaves one content of what is lent.
-- Assumes nothing.
use mathlib.Core.Path.{refl}
use Rattle.exact.specs.Exact.{Exact, exact, says, same}
use Rattle.triads.specs.contracts.put_triad

pub put_triad_exact : Exact put_triad.ended (λ _ _. put_triad.clauses)
put_triad_exact = exact (λ w κs a. (tt, λ m. tt)) (λ w κs a g z e. search says) (λ t. (refl, λ i. (same t.said t.said' i, (tt, (tt, (tt, (tt, tt)))))))
