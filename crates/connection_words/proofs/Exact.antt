-- Each public function takes every argument, and its contract leaves one answer.
-- Assumes nothing.
use mathlib.Core.Path.{refl}
use Rattle.exact.specs.Exact.{Exact, exact, says, same}
use Rattle.wire.proofs.Answers.{answer_one}
use Rattle.connection_words.specs.contracts.fields.parameter_width
use Rattle.connection_words.specs.contracts.fields.encode_parameters
use Rattle.connection_words.specs.contracts.fields.decode_parameters

pub encode_parameters_exact : Exact encode_parameters.ended (λ _ _. encode_parameters.clauses)
encode_parameters_exact = exact (λ w κs a. (tt, λ m. tt)) (λ w κs a g z e. search says) (λ t. (answer_one t.z t.z' (same t.said t.said'), refl))

pub decode_parameters_exact : Exact decode_parameters.ended (λ _ _. decode_parameters.clauses)
decode_parameters_exact = exact (λ w κs a. (tt, λ m. tt)) (λ w κs a g z e. search says) (λ t. (answer_one t.z t.z' (same t.said t.said'), refl))

pub parameter_width_exact : Exact parameter_width.ended (λ _ _. parameter_width.clauses)
parameter_width_exact = exact (λ w κs a. (tt, λ m. tt)) (λ w κs a g z e. search says) (λ t. (same t.said.0 t.said'.0, refl))
