-- What the functions for C read of a message, as a run of numbers at the places of include/barkcushion.h. Assumes nothing: these are definitions.
use Rattle.std.specs.Prelude.{ℕ, List, [], ◌∷◌}
use Rattle.wire.specs.Answers.{Answer}
use Rattle.message_read.specs.Reads.{read_message}
use Rattle.message_read.specs.declared.MessageRequest.{MessageRequest}
use Rattle.c_answers.specs.Codes.{run_of}

abbrev pub message_numbers : MessageRequest → List ℕ
message_numbers m = m.service_code ∷ m.path_start ∷ m.path_len ∷ m.data_start ∷ m.data_len ∷ []

abbrev pub message_run : List ℕ → Answer (List ℕ)
message_run s = run_of message_numbers (read_message s)
