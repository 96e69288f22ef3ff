-- The public function takes every argument, and its contract leaves one answer and one content of what is lent. Assumes nothing.
use Rattle.exact.specs.Exact.{Exact, exact, says, same}
use Rattle.c_path_reads.specs.contracts.bark_read_path

pub bark_read_path_exact : Exact bark_read_path.ended (λ _ _. bark_read_path.clauses)
bark_read_path_exact = exact (λ w κs a. (tt, λ m. tt)) (λ w κs a g z e. search says) (λ t. (same t.said.0 t.said'.0, λ i. (tt, (same t.said.1 t.said'.1 i, tt))))
