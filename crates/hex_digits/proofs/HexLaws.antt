-- Each end of the code, as a law with plain conditions. Assumes nothing.
use Prim.Native.Nat.{ℕ, ◌+◌, ◌%◌, ◌≤◌, ◌<◌}
use mathlib.Core.Path.{◌≡◌}
use borrow.Author.Tests.{le-leb, lt-leb}
use Rattle.hex_digits.specs.Hex.{hex_digit}

module _ (v : ℕ) where
  pub ten_digit : v % 16 ≤ 9 → 48 + v % 16 ≡ hex_digit v
  unfolding hex_digit
  ten_digit h = simp (le-leb (v % 16) 9 h)

  pub letter_digit : 9 < v % 16 → 55 + v % 16 ≡ hex_digit v
  unfolding hex_digit
  letter_digit h = simp (lt-leb (v % 16) 9 h)

pub ruleset digit_laws = (ten_digit, letter_digit)
