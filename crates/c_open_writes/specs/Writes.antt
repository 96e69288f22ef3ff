-- Forward Open from arguments, for C. Its parameters, and class and trigger, are given as its words: they are read as its reader reads them, after
-- its path is judged. Assumes nothing: these are definitions.
use Rattle.std.specs.Prelude.{ℕ, ◌+◌, ◌/◌, ◌%◌, Bool, List}
use Rattle.std.specs.Prelude.{Result, Ok, Err}
use Rattle.wire.specs.declared.Refusal.{Refusal}
use Rattle.wire.specs.Refusals.{number}
use Rattle.wire.specs.Answers.{Answer, done, refused, and_then}
use Rattle.connection.specs.declared.ConnectionParameters.{ConnectionParameters}
use Rattle.connection.specs.declared.OpenOptions.{OpenOptions}
use Rattle.connection.specs.declared.Direction.{Direction}
use Rattle.connection.specs.declared.TriggerType.{TriggerType}
use Rattle.connection.specs.declared.TransportClass.{TransportClass}
use Rattle.connection_words.specs.Codes.{direction_of, trigger_of, class_of}
use Rattle.connection_words.specs.Fields.{unit, parameters_of, read_parameters, Transport, transport, read_transport}
use Rattle.open_sizes.specs.Sizes.{open_base}
use Rattle.route_written.specs.Written.{written_route}
use Rattle.c_open_writes.specs.declared.Words.{Words}

-- what its words hold
pub data OpenWords : Type 0 where
  open_words : ConnectionParameters → ConnectionParameters → Transport → OpenWords

unfoldable pub read_words : Bool → ℕ → ℕ → ℕ → Answer OpenWords
read_words large toTarget toOriginator b =
    and_then (read_parameters large toTarget) (λ p.
    and_then (read_parameters large toOriginator) (λ q.
    and_then (read_transport b) (λ t. done (open_words p q t))))

abbrev pub paper_words : Result Words Refusal → Answer OpenWords
paper_words (Ok w) = done (open_words w.o_t_params w.t_o_params (transport w.transport.direction w.transport.trigger w.transport.class))
paper_words (Err e) = refused (number e)

-- the path's own refusal, then the words', else how many bytes there are
unfoldable pub open_given : List ℕ → Bool → ℕ → ℕ → ℕ → Answer ℕ
open_given path large toTarget toOriginator b =
    and_then (written_route path) (λ n. and_then (read_words large toTarget toOriginator b) (λ _. done (open_base large + n)))

abbrev pub options_from : Bool → ℕ → ℕ → ℕ → ℕ → ℕ → ℕ → ℕ → ℕ → ℕ → ℕ → ConnectionParameters → ConnectionParameters → Direction → TriggerType → TransportClass → OpenOptions
options_from large priority ticks idToTarget idToOriginator serial vendor originator multiplier rpiToTarget rpiToOriginator p q d t c = record {
  o_t_connection_id = idToTarget;
  t_o_connection_id = idToOriginator;
  priority_tick_time = priority;
  timeout_ticks = ticks;
  connection_serial_number = serial;
  vendor_id = vendor;
  originator_serial_number = originator;
  o_t_rpi = rpiToTarget;
  t_o_rpi = rpiToOriginator;
  timeout_multiplier = multiplier;
  o_t_params = p;
  t_o_params = q;
  transport_direction = d;
  transport_class = c;
  transport_trigger = t;
  large_open = large;
}

-- the parts of a word, as its reader takes them where it refuses nothing
abbrev pub word_parts : Bool → ℕ → ConnectionParameters
word_parts large word = parameters_of (word % unit large) (word / unit large)

-- the record that the arguments make, in the order of the wire
abbrev pub options_of : Bool → ℕ → ℕ → ℕ → ℕ → ℕ → ℕ → ℕ → ℕ → ℕ → ℕ → ℕ → ℕ → ℕ → OpenOptions
options_of large priority ticks idToTarget idToOriginator serial vendor originator multiplier rpiToTarget toTarget rpiToOriginator toOriginator b =
    options_from large priority ticks idToTarget idToOriginator serial vendor originator multiplier rpiToTarget rpiToOriginator
    (word_parts large toTarget) (word_parts large toOriginator) (direction_of (b / 128)) (trigger_of (b / 16 % 8)) (class_of (b % 16))
