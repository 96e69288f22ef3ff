-- Each public function takes every argument, and its contract leaves one answer and one content of what is lent.
-- Assumes nothing.
use Rattle.exact.specs.Exact.{Exact, exact, says, same}
use Rattle.c_envelope.specs.contracts.bark_read_envelope

pub bark_read_envelope_exact : Exact bark_read_envelope.ended (λ _ _. bark_read_envelope.clauses)
bark_read_envelope_exact = exact (λ w κs a. (tt, λ m. tt)) (λ w κs a g z e. search says) (λ t.
    (same t.said.0 t.said'.0, λ i. (tt, (same t.said.1 t.said'.1 i, tt))))
