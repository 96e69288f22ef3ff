-- An answer as one number of 64 bits, for C. Assumes nothing: these are definitions.
use Rattle.std.specs.Prelude.{ℕ, ◌-◌, ◌≤◌, ◌<◌, List, [], length}
use Rattle.wire.specs.Refusals.{last_number}
use Rattle.wire.specs.Answers.{Answer, done, refused, and_then, with_room, written}

-- 2 to the 64, where the numbers end
abbrev pub two_to64 : ℕ
two_to64 = 18446744073709551616

-- 2 to the 63, where the numbers end that a signed reader takes for positive
abbrev pub two_to63 : ℕ
two_to63 = 9223372036854775808

-- what was asked for as it is; a refusal as its number below the end, which is that number with a minus sign in two's complement
abbrev pub code : Answer ℕ → ℕ
code (done n) = n
code (refused k) = two_to64 - k

-- ---- what a reader answers that fills a run of numbers: how many, and which

abbrev pub filled : Answer (List ℕ) → Answer ℕ
filled (done l) = done (length l)
filled (refused k) = refused k

abbrev pub numbers : Answer (List ℕ) → List ℕ
numbers (done l) = l
numbers (refused k) = []

-- what such a reader answers, where the run was lent as `old`, and what the run holds then
abbrev pub run_answer : Answer (List ℕ) → List ℕ → Answer ℕ
run_answer a old = with_room (filled a) (length old)

abbrev pub run_left : Answer (List ℕ) → List ℕ → List ℕ
run_left a old = written (run_answer a old) (numbers a) old

-- the numbers f of what was read
abbrev pub run_of : {A : Type 0} → (A → List ℕ) → Answer A → Answer (List ℕ)
run_of f a = and_then a (λ v. done (f v))

-- ---- the answers that are told apart: a size below that half, and document 01's refusals
abbrev pub Told : Answer ℕ → Type 0
Told (done n) = n < two_to63
Told (refused k) = (1 ≤ k) × (k ≤ last_number)
