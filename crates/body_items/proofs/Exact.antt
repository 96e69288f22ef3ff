-- Each public function takes every argument, and its contract leaves one answer.
-- Assumes nothing.
use mathlib.Core.Path.{refl}
use Rattle.exact.specs.Exact.{Exact, exact, says, same}
use Rattle.wire.proofs.Answers.{answer_one}
use Rattle.body_items.specs.contracts.walk_item
use Rattle.body_items.specs.contracts.body_item

pub walk_item_exact : Exact walk_item.ended (λ _ _. walk_item.clauses)
walk_item_exact = exact (λ w κs a. (tt, λ m. tt)) (λ w κs a g z e. search says) (λ t. (answer_one t.z t.z' (same t.said t.said'), refl))

pub body_item_exact : Exact body_item.ended (λ _ _. body_item.clauses)
body_item_exact = exact (λ w κs a. (tt, λ m. tt)) (λ w κs a g z e. search says) (λ t. (answer_one t.z t.z' (same t.said t.said'), refl))
