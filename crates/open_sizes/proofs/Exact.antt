-- Each public function takes every argument, and its contract leaves one answer. Assumes nothing.
use mathlib.Core.Path.{refl}
use Rattle.exact.specs.Exact.{Exact, exact, says, same}
use Rattle.wire.proofs.Answers.{answer_one}
use Rattle.open_sizes.specs.contracts.open_base
use Rattle.open_sizes.specs.contracts.front_size
use Rattle.open_sizes.specs.contracts.forward_open_size

pub open_base_exact : Exact open_base.ended (λ _ _. open_base.clauses)
open_base_exact = exact (λ w κs a. (tt, λ m. tt)) (λ w κs a g z e. search says) (λ t. (same t.said.0 t.said'.0, refl))

pub front_size_exact : Exact front_size.ended (λ _ _. front_size.clauses)
front_size_exact = exact (λ w κs a. (tt, λ m. tt)) (λ w κs a g z e. search says) (λ t. (answer_one t.z t.z' (same t.said t.said'), refl))

pub forward_open_size_exact : Exact forward_open_size.ended (λ _ _. forward_open_size.clauses)
forward_open_size_exact = exact (λ w κs a. (tt, λ m. tt)) (λ w κs a g z e. search says) (λ t. (answer_one t.z t.z' (same t.said t.said'), refl))
