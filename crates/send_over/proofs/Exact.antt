-- The public function takes every argument, and its contract leaves one answer and one content of what is lent.
-- Assumes nothing.
use Rattle.exact.specs.Exact.{Exact, exact, says, same}
use Rattle.wire.proofs.Answers.{answer_one}
use Rattle.send_over.specs.contracts.write_unconnected_send_over

pub write_unconnected_send_over_exact : Exact write_unconnected_send_over.ended (λ _ _. write_unconnected_send_over.clauses)
write_unconnected_send_over_exact = exact (λ w κs a. (tt, λ m. tt)) (λ w κs a g z e. search says) (λ t.
    (answer_one t.z t.z' (same t.said.0 t.said'.0), λ i. (tt, (tt, (tt, (same t.said.1 t.said'.1 i, tt))))))
