-- What the functions for C write and read of an Unconnected Send: its record of two numbers, and a run of numbers at the places of include/barkcushion.h.
-- Assumes nothing: these are definitions.
use Rattle.std.specs.Prelude.{ℕ, List, [], ◌∷◌}
use Rattle.wire.specs.Answers.{Answer}
use Rattle.connection.specs.declared.UnconnectedSend.{UnconnectedSend}
use Rattle.send_read.specs.Reads.{Sent, sent, read_send}
use Rattle.c_answers.specs.Codes.{run_of}

-- the record of two numbers
abbrev pub send_of : ℕ → ℕ → UnconnectedSend
send_of priority timeout = record { priority_ticks = priority; timeout_ticks = timeout }

-- start and length of the message, and of the path
abbrev pub send_numbers : Sent → List ℕ
send_numbers (sent u from m start len) = u.priority_ticks ∷ u.timeout_ticks ∷ from ∷ m ∷ start ∷ len ∷ []

abbrev pub send_run : List ℕ → Answer (List ℕ)
send_run s = run_of send_numbers (read_send s)
