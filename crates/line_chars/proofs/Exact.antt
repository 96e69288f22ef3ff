-- The public function takes every argument, and its contract leaves one answer and one content of what is lent.
-- Assumes nothing.
use Rattle.exact.specs.Exact.{Exact, exact, says, same}
use Rattle.line_chars.specs.contracts.take_char

pub take_char_exact : Exact take_char.ended (λ _ _. take_char.clauses)
take_char_exact = exact (λ w κs a. (tt, λ m. tt)) (λ w κs a g z e. search says) (λ t.
    (same t.said.0 t.said'.0, λ i. (tt, (tt, (same t.said.1 t.said'.1 i, tt)))))
