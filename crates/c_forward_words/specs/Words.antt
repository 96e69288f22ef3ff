-- The connection parameters of a Forward Open from numbers and as numbers, for C: each enum is the number that stands for it in its field
-- (connection_words, specs/Codes.antt). The places are those of include/barkcushion.h. Assumes nothing: these are definitions.
use Rattle.std.specs.Prelude.{ℕ, Bool, List, [], ◌∷◌}
use Rattle.wire.specs.Answers.{Answer, over, judged}
use Rattle.connection.specs.declared.ConnectionParameters.{ConnectionParameters}
use Rattle.connection_words.specs.Codes.{last_priority, last_type, bit, variable_number, priority_number, type_number, variable_of, priority_of, type_of}
use Rattle.connection_words.specs.Fields.{parameter_word, read_parameters}
use Rattle.c_answers.specs.Codes.{run_of}

abbrev pub parameters_from : Bool → ℕ → Bool → ℕ → ℕ → ConnectionParameters
parameters_from owner kind variable level size = record {
  redundant_owner = owner;
  connection_type = type_of kind;
  variable_length = variable_of (bit variable);
  priority = priority_of level;
  connection_size = size;
}

-- numbers that name no type and no priority are refused, then a size that the word can't hold
unfoldable pub encoded_parameters : Bool → Bool → ℕ → Bool → ℕ → ℕ → Answer ℕ
encoded_parameters large owner kind variable level size =
    judged (over kind last_type 4 ∷ over level last_priority 4 ∷ []) (parameter_word large (parameters_from owner kind variable level size))

abbrev pub parameter_numbers : ConnectionParameters → List ℕ
parameter_numbers p =
    bit p.redundant_owner
    ∷ type_number p.connection_type
    ∷ variable_number p.variable_length
    ∷ priority_number p.priority
    ∷ p.connection_size
    ∷ []

abbrev pub parameter_run : Bool → ℕ → Answer (List ℕ)
parameter_run large word = run_of parameter_numbers (read_parameters large word)
