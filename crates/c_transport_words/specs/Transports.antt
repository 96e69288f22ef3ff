-- The class and trigger of a Forward Open from numbers and as numbers, for C: each enum is the number that stands for it in its field
-- (connection_words, specs/Codes.antt). The places are those of include/barkcushion.h. Assumes nothing: these are definitions.
use Rattle.std.specs.Prelude.{ℕ, Bool, List, [], ◌∷◌}
use Rattle.wire.specs.Answers.{Answer, done, over, judged}
use Rattle.connection_words.specs.Codes.{last_trigger, last_class, bit, direction_number, trigger_number, class_number, direction_of, trigger_of, class_of}
use Rattle.connection_words.specs.Fields.{Transport, transport, read_transport}
use Rattle.c_answers.specs.Codes.{run_of}
-- what `class_trigger` says of every record that has the three (`byte_of_record` in proofs/Laws.antt)
pub use Rattle.connection_words.specs.Fields.{transport_byte}

-- numbers that name no trigger and no class are refused
unfoldable pub encoded_transport : Bool → ℕ → ℕ → Answer ℕ
encoded_transport server trigger class =
    judged (over trigger last_trigger 4 ∷ over class last_class 4 ∷ []) (done (transport_byte (direction_of (bit server)) (trigger_of trigger) (class_of class)))

abbrev pub transport_numbers : Transport → List ℕ
transport_numbers (transport d t c) = direction_number d ∷ trigger_number t ∷ class_number c ∷ []

abbrev pub transport_run : ℕ → Answer (List ℕ)
transport_run b = run_of transport_numbers (read_transport b)
