-- Forward Open as numbers, for C, at the places of include/barkcushion.h. Assumes nothing: these are definitions.
use Rattle.std.specs.Prelude.{ℕ, Bool, List, [], ◌∷◌, ◌++◌}
use Rattle.wire.specs.Answers.{Answer, or_zero}
use Rattle.connection.specs.Defaults.{default_options}
use Rattle.connection.specs.declared.ConnectionParameters.{ConnectionParameters}
use Rattle.connection.specs.declared.OpenOptions.{OpenOptions}
use Rattle.connection_words.specs.Fields.{parameter_word, class_trigger}
use Rattle.open_read.specs.Reads.{Opened, opened, read_open}
use Rattle.c_answers.specs.Codes.{run_of}

-- parameters as their word; 0 where a word can't hold them
abbrev pub word_number : Bool → ConnectionParameters → ℕ
word_number large p = or_zero (parameter_word large p)

-- the fields that are written, in the order of the wire
abbrev pub open_numbers : Bool → OpenOptions → List ℕ
open_numbers large o =
    o.priority_tick_time
    ∷ o.timeout_ticks
    ∷ o.o_t_connection_id
    ∷ o.t_o_connection_id
    ∷ o.connection_serial_number
    ∷ o.vendor_id
    ∷ o.originator_serial_number
    ∷ o.timeout_multiplier
    ∷ o.o_t_rpi
    ∷ word_number large o.o_t_params
    ∷ o.t_o_rpi
    ∷ word_number large o.t_o_params
    ∷ class_trigger o
    ∷ []

-- and behind them where the path starts, and how many bytes it has
abbrev pub opened_numbers : Bool → Opened → List ℕ
opened_numbers large (opened o start len) = open_numbers large o ++ (start ∷ len ∷ [])

abbrev pub open_run : Bool → List ℕ → Answer (List ℕ)
open_run large s = run_of (opened_numbers large) (read_open large s)

abbrev pub default_numbers : Bool → ℕ → List ℕ
default_numbers large serial = open_numbers large (default_options serial)
