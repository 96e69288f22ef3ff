-- Each public function takes every argument, and its contract leaves one answer and one content of what is lent.
-- Assumes nothing.
use mathlib.Core.Path.{refl}
use Rattle.exact.specs.Exact.{Exact, exact, says, same}
use Rattle.lines.specs.contracts.blank_line
use Rattle.lines.specs.contracts.line_case

pub blank_line_exact : Exact blank_line.ended (λ _ _. blank_line.clauses)
blank_line_exact = exact (λ w κs a. (tt, λ m. tt)) (λ w κs a g z e. search says) (λ t. (same t.said t.said', refl))

pub line_case_exact : Exact line_case.ended (λ _ _. line_case.clauses)
line_case_exact = exact (λ w κs a. (tt, λ m. tt)) (λ w κs a g z e. search says) (λ t. (same t.said t.said', refl))
