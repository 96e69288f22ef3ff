-- Each public function takes every argument, and its contract leaves one answer.
-- Assumes nothing.
use mathlib.Core.Path.{refl}
use Rattle.exact.specs.Exact.{Exact, exact, says, same}
use Rattle.wire.proofs.Answers.{answer_one}
use Rattle.connection.specs.contracts.ConnectionTypeTryFromU8.try_from as connection_type
use Rattle.connection.specs.contracts.PriorityTryFromU8.try_from as priority
use Rattle.connection.specs.contracts.DirectionFromBool.from as direction
use Rattle.connection.specs.contracts.TriggerTypeTryFromU8.try_from as trigger
use Rattle.connection.specs.contracts.TransportClassTryFromU8.try_from as class
use Rattle.connection.specs.contracts.VariableLengthFromBool.from as variable
use Rattle.connection.specs.contracts.default_parameters
use Rattle.connection.specs.contracts.default_options
use Rattle.connection.specs.contracts.priority_tick_time

pub default_parameters_exact : Exact default_parameters.ended (λ _ _. default_parameters.clauses)
default_parameters_exact = exact (λ w κs a. (tt, λ m. tt)) (λ w κs a g z e. search says) (λ t. (same t.said t.said', refl))

pub default_options_exact : Exact default_options.ended (λ _ _. default_options.clauses)
default_options_exact = exact (λ w κs a. (tt, λ m. tt)) (λ w κs a g z e. search says) (λ t. (same t.said t.said', refl))

pub priority_tick_time_exact : Exact priority_tick_time.ended (λ _ _. priority_tick_time.clauses)
priority_tick_time_exact = exact (λ w κs a. (tt, λ m. tt)) (λ w κs a g z e. search says) (λ t. (same t.said t.said', refl))

-- ---- numbers to enums

pub connection_type_exact : Exact connection_type.ended (λ _ _. connection_type.clauses)
connection_type_exact = exact (λ w κs a. (tt, λ m. tt)) (λ w κs a g z e. search says) (λ t. (answer_one t.z t.z' (same t.said t.said'), refl))

pub priority_exact : Exact priority.ended (λ _ _. priority.clauses)
priority_exact = exact (λ w κs a. (tt, λ m. tt)) (λ w κs a g z e. search says) (λ t. (answer_one t.z t.z' (same t.said t.said'), refl))

pub direction_exact : Exact direction.ended (λ _ _. direction.clauses)
direction_exact = exact (λ w κs a. (tt, λ m. tt)) (λ w κs a g z e. search says) (λ t. (same t.said t.said', refl))

pub trigger_exact : Exact trigger.ended (λ _ _. trigger.clauses)
trigger_exact = exact (λ w κs a. (tt, λ m. tt)) (λ w κs a g z e. search says) (λ t. (answer_one t.z t.z' (same t.said t.said'), refl))

pub class_exact : Exact class.ended (λ _ _. class.clauses)
class_exact = exact (λ w κs a. (tt, λ m. tt)) (λ w κs a g z e. search says) (λ t. (answer_one t.z t.z' (same t.said t.said'), refl))

pub variable_exact : Exact variable.ended (λ _ _. variable.clauses)
variable_exact = exact (λ w κs a. (tt, λ m. tt)) (λ w κs a g z e. search says) (λ t. (same t.said t.said', refl))
