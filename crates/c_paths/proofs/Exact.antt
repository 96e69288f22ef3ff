-- Each public function takes every argument, and its contract leaves one answer and one content of what is lent.
-- Assumes nothing.
use mathlib.Core.Path.{refl}
use Rattle.exact.specs.Exact.{Exact, exact, says, same}
use Rattle.c_paths.specs.contracts.bark_path_size
use Rattle.c_paths.specs.contracts.bark_write_path

pub bark_path_size_exact : Exact bark_path_size.ended (λ _ _. bark_path_size.clauses)
bark_path_size_exact = exact (λ w κs a. (tt, λ m. tt)) (λ w κs a g z e. search says) (λ t. (same t.said t.said', refl))

pub bark_write_path_exact : Exact bark_write_path.ended (λ _ _. bark_write_path.clauses)
bark_write_path_exact = exact (λ w κs a. (tt, λ m. tt)) (λ w κs a g z e. search says) (λ t.
    (same t.said.0 t.said'.0, λ i. (tt, (tt, (same t.said.1 t.said'.1 i, tt)))))
