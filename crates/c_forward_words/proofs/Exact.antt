-- Each public function takes every argument, and its contract leaves one answer and one content of what is lent.
-- Assumes nothing.
use mathlib.Core.Path.{refl}
use Rattle.exact.specs.Exact.{Exact, exact, says, same}
use Rattle.c_forward_words.specs.contracts.bark_encode_parameters
use Rattle.c_forward_words.specs.contracts.bark_decode_parameters

pub bark_encode_parameters_exact : Exact bark_encode_parameters.ended (λ _ _. bark_encode_parameters.clauses)
bark_encode_parameters_exact = exact (λ w κs a. (tt, λ m. tt)) (λ w κs a g z e. search says) (λ t. (same t.said t.said', refl))

pub bark_decode_parameters_exact : Exact bark_decode_parameters.ended (λ _ _. bark_decode_parameters.clauses)
bark_decode_parameters_exact = exact (λ w κs a. (tt, λ m. tt)) (λ w κs a g z e. search says) (λ t.
    (same t.said.0 t.said'.0, λ i. (tt, (tt, (same t.said.1 t.said'.1 i, tt)))))
