-- Each public function takes every argument, and its contract leaves one content of what is lent.
-- Assumes nothing.
use mathlib.Core.Path.{refl}
use Rattle.exact.specs.Exact.{Exact, exact, says, same}
use Rattle.wire_write.specs.contracts.put_byte
use Rattle.wire_write.specs.contracts.put_u16
use Rattle.wire_write.specs.contracts.put_u32
use Rattle.wire_write.specs.contracts.put_bytes

pub put_byte_exact : Exact put_byte.ended (λ _ _. put_byte.clauses)
put_byte_exact = exact (λ w κs a. (tt, λ m. tt)) (λ w κs a g z e. search says) (λ t. (refl, λ i. (same t.said t.said' i, (tt, (tt, tt)))))

pub put_u16_exact : Exact put_u16.ended (λ _ _. put_u16.clauses)
put_u16_exact = exact (λ w κs a. (tt, λ m. tt)) (λ w κs a g z e. search says) (λ t. (refl, λ i. (same t.said t.said' i, (tt, (tt, tt)))))

pub put_u32_exact : Exact put_u32.ended (λ _ _. put_u32.clauses)
put_u32_exact = exact (λ w κs a. (tt, λ m. tt)) (λ w κs a g z e. search says) (λ t. (refl, λ i. (same t.said t.said' i, (tt, (tt, tt)))))

pub put_bytes_exact : Exact put_bytes.ended (λ _ _. put_bytes.clauses)
put_bytes_exact = exact (λ w κs a. (tt, λ m. tt)) (λ w κs a g z e. search says) (λ t. (refl, λ i. (same t.said t.said' i, (tt, (tt, tt)))))
