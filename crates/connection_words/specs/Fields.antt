-- The fields of several bits, as sums of their parts. CIP Volume 1, 3-5.5.1.1 (network connection parameters, 16 and 32 bits) and 3-4.4.3
-- (transport class and trigger). Refusals: document 01, "Requests". Assumes nothing: these are definitions.
use Rattle.std.specs.Prelude.{ℕ, ◌+◌, ◌*◌, ◌/◌, ◌%◌, List, [], ◌∷◌, Bool, true, false, eqb}
use Rattle.std.specs.Prelude.{Result, Ok, Err}
use Rattle.wire.specs.declared.Refusal.{Refusal}
use Rattle.wire.specs.Refusals.{number}
use Rattle.wire.specs.Answers.{Answer, done, refused, Rule, over, other, judged}
use Rattle.connection.specs.Limits.{size_limit}
use Rattle.connection_words.specs.Codes.{last_type, last_trigger, last_class, bit, variable_number, priority_number, type_number, direction_number, trigger_number, class_number, variable_of, priority_of, type_of, direction_of, trigger_of, class_of}
use Rattle.connection.specs.declared.ConnectionParameters.{ConnectionParameters}
use Rattle.connection.specs.declared.OpenOptions.{OpenOptions}
use Rattle.connection.specs.declared.Direction.{Direction}
use Rattle.connection.specs.declared.TriggerType.{TriggerType}
use Rattle.connection.specs.declared.TransportClass.{TransportClass}
use Rattle.connection_words.specs.declared.TransportRead.{TransportRead}

-- ---- connection parameters: the size in the low bits, and seven bits of flags at the top. A small word has 16 bits, a large one 32

-- what one of the flags' lowest bit counts: bit 9, and bit 25
abbrev pub unit : Bool → ℕ
unit false = 512
unit true = 33554432

-- of the seven bits, from the lowest: variable length, two of priority, one reserved, two of type, redundant owner
unfoldable pub flags_of : ConnectionParameters → ℕ
flags_of p =
    variable_number p.variable_length
    + 2 * priority_number p.priority
    + 16 * type_number p.connection_type
    + 64 * bit p.redundant_owner

unfoldable pub word_of : Bool → ConnectionParameters → ℕ
word_of large p = p.connection_size + unit large * flags_of p

-- a size that its bits can't hold is refused
unfoldable pub parameter_word : Bool → ConnectionParameters → Answer ℕ
parameter_word large p = judged (over p.connection_size (size_limit large) 3 ∷ []) (done (word_of large p))

unfoldable pub parameters_of : ℕ → ℕ → ConnectionParameters
parameters_of size flags = record {
  redundant_owner = eqb (flags / 64 % 2) 1;
  connection_type = type_of (flags / 16 % 4);
  variable_length = variable_of (flags % 2);
  priority = priority_of (flags / 2 % 4);
  connection_size = size;
}

-- reserved: bits between the size and the flags, bits past the flags, the flag between priority and type. Then type 3
abbrev pub word_rules : Bool → ℕ → List Rule
word_rules large w =
    over (w % unit large) (size_limit large) 5
    ∷ over (w / unit large) 127 5
    ∷ other (w / unit large / 8 % 2) 0 5
    ∷ over (w / unit large / 16 % 4) last_type 4
    ∷ []

unfoldable pub read_parameters : Bool → ℕ → Answer ConnectionParameters
read_parameters large w = judged (word_rules large w) (done (parameters_of (w % unit large) (w / unit large)))

-- ---- class and trigger: direction in bit 7, trigger in bits 4 to 6, class in the low four

abbrev pub transport_byte : Direction → TriggerType → TransportClass → ℕ
transport_byte d t c = 128 * direction_number d + 16 * trigger_number t + class_number c

unfoldable pub class_trigger : OpenOptions → ℕ
class_trigger o = 128 * direction_number o.transport_direction + 16 * trigger_number o.transport_trigger + class_number o.transport_class

pub data Transport : Type 0 where
  transport : Direction → TriggerType → TransportClass → Transport

abbrev pub transport_rules : ℕ → List Rule
transport_rules b = over (b / 16 % 8) last_trigger 4 ∷ over (b % 16) last_class 4 ∷ []

unfoldable pub read_transport : ℕ → Answer Transport
read_transport b = judged (transport_rules b) (done (transport (direction_of (b / 128)) (trigger_of (b / 16 % 8)) (class_of (b % 16))))

-- ---- what the function answers

abbrev pub paper_transport : Result TransportRead Refusal → Answer Transport
paper_transport (Ok t) = done (transport t.direction t.trigger t.class)
paper_transport (Err e) = refused (number e)
