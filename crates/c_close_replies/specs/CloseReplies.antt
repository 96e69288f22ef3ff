-- What the function for C reads of a Forward Close reply, as a run of numbers at the places of include/barkcushion.h. Assumes nothing: these are definitions.
use Rattle.std.specs.Prelude.{ℕ, List, [], ◌∷◌, Bool}
use Rattle.wire.specs.Answers.{Answer}
use Rattle.connection.specs.declared.ForwardCloseSuccess.{ForwardCloseSuccess}
use Rattle.reply_header.specs.declared.MessageReply.{MessageReply}
use Rattle.reply_read.specs.Reads.{read_close_reply}
use Rattle.reply_read.specs.declared.Reply.{Reply}
use Rattle.reply_read.specs.declared.Reply.TheVariants.{Success as succeeded, Failure as failed}
use Rattle.c_answers.specs.Codes.{run_of}
use Rattle.c_failure_numbers.specs.Failures.{connection_numbers, failure_numbers}

-- start and length of the application data
abbrev pub close_success_numbers : MessageReply → ForwardCloseSuccess → ℕ → ℕ → List ℕ
close_success_numbers m c start len =
    connection_numbers m 1 c.connection_serial_number c.originator_vendor_id c.originator_serial_number (start ∷ len ∷ [])

abbrev pub close_reply_numbers : Reply ForwardCloseSuccess → List ℕ
close_reply_numbers (succeeded m c start len) = close_success_numbers m c start len
close_reply_numbers (failed m f) = failure_numbers m f

abbrev pub close_reply_run : Bool → List ℕ → Answer (List ℕ)
close_reply_run routing s = run_of close_reply_numbers (read_close_reply routing s)
