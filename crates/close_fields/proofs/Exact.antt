-- The public function takes every argument, and its contract leaves one content of what is lent.
-- Assumes nothing.
use mathlib.Core.Path.{refl}
use Rattle.exact.specs.Exact.{Exact, exact, says, same}
use Rattle.close_fields.specs.contracts.put_close_fields

pub put_close_fields_exact : Exact put_close_fields.ended (λ _ _. put_close_fields.clauses)
put_close_fields_exact = exact (λ w κs a. (tt, λ m. tt)) (λ w κs a g z e. search says) (λ t. (refl, λ i. (tt, (tt, (same t.said t.said' i, tt)))))
