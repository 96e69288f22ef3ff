-- The public function takes every argument, and its contract leaves one answer. Assumes nothing.
use mathlib.Core.Path.{refl}
use Rattle.exact.specs.Exact.{Exact, exact, says, same}
use Rattle.wire.proofs.Answers.{answer_one}
use Rattle.epath_check.specs.contracts.check_path

pub check_path_exact : Exact check_path.ended (λ _ _. check_path.clauses)
check_path_exact = exact (λ w κs a. (tt, λ m. tt)) (λ w κs a g z e. search says) (λ t. (answer_one t.z t.z' (same t.said t.said'), refl))
