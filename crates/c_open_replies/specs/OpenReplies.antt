-- What the function for C reads of a Forward Open reply, as a run of numbers at the places of include/barkcushion.h. Assumes nothing: these are definitions.
use Rattle.std.specs.Prelude.{ℕ, List, [], ◌∷◌, Bool}
use Rattle.wire.specs.Answers.{Answer}
use Rattle.connection.specs.declared.ForwardOpenSuccess.{ForwardOpenSuccess}
use Rattle.reply_header.specs.declared.MessageReply.{MessageReply}
use Rattle.reply_read.specs.Reads.{read_open_reply}
use Rattle.reply_read.specs.declared.Reply.{Reply}
use Rattle.reply_read.specs.declared.Reply.TheVariants.{Success as succeeded, Failure as failed}
use Rattle.c_answers.specs.Codes.{run_of}
use Rattle.c_failure_numbers.specs.Failures.{connection_numbers, failure_numbers}

-- its ids and packet intervals, start and length of the application data
abbrev pub open_success_numbers : MessageReply → ForwardOpenSuccess → ℕ → ℕ → List ℕ
open_success_numbers m o start len =
    connection_numbers m 1 o.connection_serial_number o.originator_vendor_id o.originator_serial_number
    (o.o_t_connection_id ∷ o.t_o_connection_id ∷ o.o_t_api ∷ o.t_o_api ∷ start ∷ len ∷ [])

abbrev pub open_reply_numbers : Reply ForwardOpenSuccess → List ℕ
open_reply_numbers (succeeded m o start len) = open_success_numbers m o start len
open_reply_numbers (failed m f) = failure_numbers m f

abbrev pub open_reply_run : Bool → List ℕ → Answer (List ℕ)
open_reply_run routing s = run_of open_reply_numbers (read_open_reply routing s)
