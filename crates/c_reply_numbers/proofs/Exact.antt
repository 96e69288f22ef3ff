-- The public function takes every argument, and its contract leaves one answer.
-- Assumes nothing.
use mathlib.Core.Path.{refl}
use Rattle.exact.specs.Exact.{Exact, exact, says, same}
use Rattle.c_reply_numbers.specs.contracts.reply_numbers

pub reply_numbers_exact : Exact reply_numbers.ended (λ _ _. reply_numbers.clauses)
reply_numbers_exact = exact (λ w κs a. (tt, λ m. tt)) (λ w κs a g z e. search says) (λ t. (same t.said t.said', refl))
