-- The public function takes every argument, and its contract leaves one content of what is lent.
-- Assumes nothing.
use mathlib.Core.Path.{refl}
use Rattle.exact.specs.Exact.{Exact, exact, says, same}
use Rattle.send_fields.specs.contracts.put_send_fields

pub put_send_fields_exact : Exact put_send_fields.ended (λ _ _. put_send_fields.clauses)
put_send_fields_exact = exact (λ w κs a. (tt, λ m. tt)) (λ w κs a g z e. search says) (λ t. (refl, λ i. (tt, (tt, (tt, (same t.said t.said' i, tt))))))
