-- The reader of Forward Open and Large Forward Open (CIP Volume 1, 3-5.5.2), executable: fields in wire order, the first broken rule refuses. Rules
-- and numbers from document 01, "Requests". Assumes nothing: these are definitions.
use Rattle.std.specs.Prelude.{ℕ, ◌+◌, ◌*◌, List, [], ◌∷◌, Bool, length, get_or, drop}
use Rattle.std.specs.Prelude.{Result, Ok, Err}
use Rattle.wire.specs.Numbers.{value_of}
use Rattle.wire.specs.declared.Refusal.{Refusal}
use Rattle.wire.specs.Refusals.{number}
use Rattle.wire.specs.Answers.{Answer, done, refused, and_then, Rule, under, other, judged}
use Rattle.connection_words.specs.Fields.{Transport, transport, read_parameters, read_transport}
use Rattle.connection_words.specs.Requests.{parameter_width}
use Rattle.request_first.specs.Firsts.{first_rules}
use Rattle.message_read.specs.Reads.{route_at}
use Rattle.connection.specs.declared.ConnectionParameters.{ConnectionParameters}
use Rattle.connection.specs.declared.OpenOptions.{OpenOptions}
use Rattle.open_read.specs.declared.OpenRead.{OpenRead}

-- ---- Forward Open (3-5.5.2): 22 bytes, the reserved three their last, each direction's packet interval and parameters, class and trigger, path

-- the record, and where its path starts and how many bytes that has
pub data Opened : Type 0 where
  opened : OpenOptions → ℕ → ℕ → Opened

abbrev pub open_rules : List ℕ → List Rule
open_rules s = under (length s) 22 1 ∷ other (value_of 3 (drop 19 s)) 0 5 ∷ []

-- where the second packet interval stands, and class and trigger
abbrev pub second_place : Bool → ℕ
second_place large = 26 + parameter_width large

abbrev pub transport_place : Bool → ℕ
transport_place large = 30 + 2 * parameter_width large

unfoldable pub parameters_at : Bool → List ℕ → ℕ → Answer ConnectionParameters
parameters_at large s at = judged (under (length s) (at + parameter_width large) 1 ∷ []) (read_parameters large (value_of (parameter_width large) (drop at s)))

unfoldable pub transport_at : List ℕ → ℕ → Answer Transport
transport_at s at = judged (under (length s) (at + 1) 1 ∷ []) (read_transport (get_or s at 0))

abbrev pub options_at : Bool → List ℕ → ConnectionParameters → ConnectionParameters → Transport → OpenOptions
options_at large s a b (transport d t c) = record {
  o_t_connection_id = value_of 4 (drop 2 s);
  t_o_connection_id = value_of 4 (drop 6 s);
  priority_tick_time = get_or s 0 0;
  timeout_ticks = get_or s 1 0;
  connection_serial_number = value_of 2 (drop 10 s);
  vendor_id = value_of 2 (drop 12 s);
  originator_serial_number = value_of 4 (drop 14 s);
  o_t_rpi = value_of 4 (drop 22 s);
  t_o_rpi = value_of 4 (drop (second_place large) s);
  timeout_multiplier = get_or s 18 0;
  o_t_params = a;
  t_o_params = b;
  transport_direction = d;
  transport_class = c;
  transport_trigger = t;
  large_open = large;
}

-- class and trigger, and the path
unfoldable pub open_end : Bool → List ℕ → ConnectionParameters → ConnectionParameters → Answer Opened
open_end large s a b =
    and_then (transport_at s (transport_place large))
    (λ t. and_then (route_at s (transport_place large + 1)) (λ len. done (opened (options_at large s a b t) (transport_place large + 2) len)))

unfoldable pub open_behind : Bool → List ℕ → Answer Opened
open_behind large s =
    and_then (parameters_at large s 26) (λ a. and_then (parameters_at large s (second_place large + 4)) (λ b. open_end large s a b))

unfoldable pub read_open : Bool → List ℕ → Answer Opened
read_open large s = judged (first_rules s) (judged (open_rules s) (open_behind large s))

-- ---- what the function answers

abbrev pub paper_open : Result OpenRead Refusal → Answer Opened
paper_open (Ok r) = done (opened r.options r.path_start r.path_len)
paper_open (Err e) = refused (number e)
