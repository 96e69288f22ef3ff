-- Each public function takes every argument, and its contract leaves one answer and one content of what is lent.
-- Assumes nothing.
use Rattle.exact.specs.Exact.{Exact, exact, says, same}
use Rattle.wire.proofs.Answers.{answer_one}
use Rattle.epath_encode.specs.contracts.encode.write_segment
use Rattle.epath_encode.specs.contracts.encode.write_path

pub write_segment_exact : Exact write_segment.ended (λ _ _. write_segment.clauses)
write_segment_exact = exact (λ w κs a. (tt, λ m. tt)) (λ w κs a g z e. search says) (λ t.
    (answer_one t.z t.z' (same t.said.0 t.said'.0), λ i. (tt, (tt, (same t.said.1 t.said'.1 i, tt)))))

pub write_path_exact : Exact write_path.ended (λ _ _. write_path.clauses)
write_path_exact = exact (λ w κs a. (tt, λ m. tt)) (λ w κs a g z e. search says) (λ t.
    (answer_one t.z t.z' (same t.said.0 t.said'.0), λ i. (tt, (tt, (same t.said.1 t.said'.1 i, tt)))))
