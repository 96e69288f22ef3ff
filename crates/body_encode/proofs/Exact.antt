-- Each public function takes every argument, and its contract leaves one answer and one content of the lent output.
-- Assumes nothing.
use Rattle.exact.specs.Exact.{Exact, exact, says, same}
use Rattle.wire.proofs.Answers.{answer_one}
use Rattle.body_encode.specs.contracts.write_body

pub write_body_exact : Exact write_body.ended (λ _ _. write_body.clauses)
write_body_exact = exact (λ w κs a. (tt, λ m. tt)) (λ w κs a g z e. search says) (λ t.
    (answer_one t.z t.z' (same t.said.0 t.said'.0), λ i. (tt, (tt, (same t.said.1 t.said'.1 i, tt)))))
