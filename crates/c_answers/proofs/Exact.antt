-- Each public function takes every argument, and its contract leaves one answer and one content of what is lent.
-- Assumes nothing.
use mathlib.Core.Path.{refl}
use Rattle.exact.specs.Exact.{Exact, exact, says, same}
use Rattle.c_answers.specs.contracts.refusal_answer
use Rattle.c_answers.specs.contracts.size_answer
use Rattle.c_answers.specs.contracts.count_answer
use Rattle.c_answers.specs.contracts.fill

pub refusal_answer_exact : Exact refusal_answer.ended (λ _ _. refusal_answer.clauses)
refusal_answer_exact = exact (λ w κs a. (tt, λ m. tt)) (λ w κs a g z e. search says) (λ t. (same t.said t.said', refl))

pub size_answer_exact : Exact size_answer.ended (λ _ _. size_answer.clauses)
size_answer_exact = exact (λ w κs a. (tt, λ m. tt)) (λ w κs a g z e. search says) (λ t. (same t.said t.said', refl))

pub count_answer_exact : Exact count_answer.ended (λ _ _. count_answer.clauses)
count_answer_exact = exact (λ w κs a. (tt, λ m. tt)) (λ w κs a g z e. search says) (λ t. (same t.said t.said', refl))

pub fill_exact : Exact fill.ended (λ _ _. fill.clauses)
fill_exact = exact (λ w κs a. (tt, λ m. tt)) (λ w κs a g z e. search says) (λ t. (same t.said.0 t.said'.0, λ i. (same t.said.1 t.said'.1 i, (tt, tt))))
