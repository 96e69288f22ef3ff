-- Each public function takes every argument, and its contract leaves one answer. Assumes nothing.
use mathlib.Core.Path.{refl}
use Rattle.exact.specs.Exact.{Exact, exact, says, same}
use Rattle.hex_digits.specs.contracts.hex_digit

pub hex_digit_exact : Exact hex_digit.ended (λ _ _. hex_digit.clauses)
hex_digit_exact = exact (λ w κs a. (tt, λ m. tt)) (λ w κs a g z e. search says) (λ t. (same t.said t.said', refl))
