-- The public function takes every argument, and its contract leaves one answer and one content of the lent output. Assumes nothing.
use Rattle.exact.specs.Exact.{Exact, exact, says, same}
use Rattle.wire.proofs.Answers.{answer_one}
use Rattle.dump_text.specs.contracts.write_dump

pub write_dump_exact : Exact write_dump.ended (λ _ _. write_dump.clauses)
write_dump_exact = exact (λ w κs a. (tt, λ m. tt)) (λ w κs a g z e. search says) (λ t.
    (answer_one t.z t.z' (same t.said.0 t.said'.0), λ i. (tt, (same t.said.1 t.said'.1 i, tt))))
