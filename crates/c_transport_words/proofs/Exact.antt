-- Each public function takes every argument, and its contract leaves one answer and one content of what is lent.
-- Assumes nothing.
use mathlib.Core.Path.{refl}
use Rattle.exact.specs.Exact.{Exact, exact, says, same}
use Rattle.c_transport_words.specs.contracts.bark_encode_transport
use Rattle.c_transport_words.specs.contracts.bark_decode_transport

pub bark_encode_transport_exact : Exact bark_encode_transport.ended (λ _ _. bark_encode_transport.clauses)
bark_encode_transport_exact = exact (λ w κs a. (tt, λ m. tt)) (λ w κs a g z e. search says) (λ t. (same t.said t.said', refl))

pub bark_decode_transport_exact : Exact bark_decode_transport.ended (λ _ _. bark_decode_transport.clauses)
bark_decode_transport_exact = exact (λ w κs a. (tt, λ m. tt)) (λ w κs a g z e. search says) (λ t.
    (same t.said.0 t.said'.0, λ i. (tt, (same t.said.1 t.said'.1 i, tt))))
