-- The public function takes every argument, and its contract leaves one answer and one content of the lent rows. Assumes nothing.
use Rattle.exact.specs.Exact.{Exact, exact, says, same}
use Rattle.wire.proofs.Answers.{answer_one}
use Rattle.nested.specs.contracts.walk.read_nested

pub read_nested_exact : Exact read_nested.ended (λ _ _. read_nested.clauses)
read_nested_exact = exact (λ w κs a. (tt, λ m. tt)) (λ w κs a g z e. search says) (λ t. (answer_one t.z t.z' (same t.said.0 t.said'.0), λ i. (tt, (same t.said.1 t.said'.1 i, tt))))
