-- Each public function takes every argument, and its contract leaves one answer.
-- Assumes nothing.
use mathlib.Core.Path.{refl}
use Rattle.exact.specs.Exact.{Exact, ExactBy, exact, exact_by, says, same}
use Rattle.wire_read.specs.contracts.byte_at
use Rattle.wire_read.specs.contracts.u16_at
use Rattle.wire_read.specs.contracts.u32_at
use Rattle.wire_read.specs.contracts.part_of

pub byte_at_exact : Exact byte_at.ended (λ _ _. byte_at.clauses)
byte_at_exact = exact (λ w κs a. (tt, λ m. tt)) (λ w κs a g z e. search says) (λ t. (same t.said t.said', refl))

pub u16_at_exact : Exact u16_at.ended (λ _ _. u16_at.clauses)
u16_at_exact = exact (λ w κs a. (tt, λ m. tt)) (λ w κs a g z e. search says) (λ t. (same t.said t.said', refl))

pub u32_at_exact : Exact u32_at.ended (λ _ _. u32_at.clauses)
u32_at_exact = exact (λ w κs a. (tt, λ m. tt)) (λ w κs a g z e. search says) (λ t. (same t.said t.said', refl))

-- the bytes of the part; no contract says where they lie
pub part_of_exact : ExactBy part_of.ended (λ _ _. part_of.clauses) (λ κs z. z.now)
part_of_exact = exact_by (λ w κs a. (tt, λ m. tt)) (λ w κs a g z e. search says) (λ t. (same t.said t.said', refl))
