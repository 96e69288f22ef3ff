-- Each public function takes every argument, and its contract leaves one answer and one content of what is lent.
-- Assumes nothing.
use Rattle.exact.specs.Exact.{Exact, exact, says, same}
use Rattle.wire.proofs.Answers.{answer_one}
use Rattle.success_encode.specs.contracts.open.write_forward_open_success
use Rattle.success_encode.specs.contracts.close.write_forward_close_success

pub write_forward_open_success_exact : Exact write_forward_open_success.ended (λ _ _. write_forward_open_success.clauses)
write_forward_open_success_exact = exact (λ w κs a. (tt, λ m. tt)) (λ w κs a g z e. search says) (λ t.
    (answer_one t.z t.z' (same t.said.0 t.said'.0), λ i. (tt, (tt, (tt, (same t.said.1 t.said'.1 i, tt))))))

pub write_forward_close_success_exact : Exact write_forward_close_success.ended (λ _ _. write_forward_close_success.clauses)
write_forward_close_success_exact = exact (λ w κs a. (tt, λ m. tt)) (λ w κs a g z e. search says) (λ t.
    (answer_one t.z t.z' (same t.said.0 t.said'.0), λ i. (tt, (tt, (tt, (same t.said.1 t.said'.1 i, tt))))))
