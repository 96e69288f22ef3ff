-- Forward Close as numbers and from arguments, for C, at the places of include/barkcushion.h. Assumes nothing: these are definitions.
use Rattle.std.specs.Prelude.{ℕ, List, [], ◌∷◌}
use Rattle.wire.specs.Answers.{Answer}
use Rattle.connection.specs.declared.ForwardCloseRequest.{ForwardCloseRequest}
use Rattle.close_read.specs.Reads.{Closed, closed, read_close}
use Rattle.c_answers.specs.Codes.{run_of}

abbrev pub closed_numbers : Closed → List ℕ
closed_numbers (closed c start len) =
    c.priority_time_ticks
    ∷ c.timeout_ticks
    ∷ c.connection_serial_number
    ∷ c.originator_vendor_id
    ∷ c.originator_serial_number
    ∷ start
    ∷ len
    ∷ []

abbrev pub close_run : List ℕ → Answer (List ℕ)
close_run s = run_of closed_numbers (read_close s)

abbrev pub close_of : ℕ → ℕ → ℕ → ℕ → ℕ → ForwardCloseRequest
close_of priority ticks serial vendor originator = record {
  priority_time_ticks = priority;
  timeout_ticks = ticks;
  connection_serial_number = serial;
  originator_vendor_id = vendor;
  originator_serial_number = originator;
}
