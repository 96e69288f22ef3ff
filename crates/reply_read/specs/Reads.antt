-- The readers of Forward Open and Forward Close replies, executable: the header first, then fields in wire order; the first broken rule refuses. CIP
-- Volume 1, 3-5.5.2 (Forward Open) and 3-5.5.3 (Forward Close); rules and numbers from document 01, "Replies". Assumes nothing: these are definitions.
use Rattle.std.specs.Prelude.{ℕ, ◌+◌, ◌*◌, List, [], ◌∷◌, Bool, true, false, length, get_or, drop}
use Rattle.std.specs.Prelude.{Option, Some, None}
use Rattle.wire.specs.Choice.{pick}
use Rattle.wire.specs.Numbers.{value_of}
use Rattle.wire.specs.Answers.{Answer, done, and_then, under, judged}
use Rattle.connection.specs.declared.ForwardOpenSuccess.{ForwardOpenSuccess}
use Rattle.connection.specs.declared.ForwardCloseSuccess.{ForwardCloseSuccess}
use Rattle.connection.specs.declared.ForwardRequestFail.{ForwardRequestFail}
use Rattle.statuses.specs.Statuses.{is_ok}
use Rattle.reply_header.specs.Headers.{read_header}
use Rattle.reply_header.specs.declared.MessageReply.{MessageReply}
use Rattle.reply_read.specs.declared.Reply.{Reply}
use Rattle.reply_read.specs.declared.Reply.TheVariants.{Success as succeeded, Failure as failed}

-- A `Reply` says its header, and on success the record, then start and length of the application data; on failure the failure record.

-- ---- the end of both success records: size of the application data in words, a reserved byte, the data. How many bytes the data has, by the size
-- at a place
unfoldable pub app_data : List ℕ → ℕ → Answer ℕ
app_data s at = judged (under (length s) (at + 2) 1 ∷ under (length s) (at + 2 + 2 * get_or s at 0) 1 ∷ []) (done (2 * get_or s at 0))

-- ---- failure: 8 bytes, and in a routing error the size of the path that was left

abbrev pub fail_size : Bool → ℕ
fail_size false = 8
fail_size true = 9

abbrev pub remaining_at : Bool → List ℕ → ℕ → Option ℕ
remaining_at false s at = None
remaining_at true s at = Some (get_or s (at + 8) 0)

abbrev pub fail_at : Bool → List ℕ → ℕ → ForwardRequestFail
fail_at routing s at = record {
  connection_serial_number = value_of 2 (drop at s);
  originator_vendor_id = value_of 2 (drop (at + 2) s);
  originator_serial_number = value_of 4 (drop (at + 4) s);
  remaining_path_size = remaining_at routing s at;
}

unfoldable pub read_fail : Bool → List ℕ → ℕ → Answer ForwardRequestFail
read_fail routing s at = judged (under (length s) (at + fail_size routing) 1 ∷ []) (done (fail_at routing s at))

-- ---- either reply, given its success record's fields and where, counted from the record's start, its application data's size stands
module _ {A : Type 0} (fields : List ℕ → ℕ → A) (size : ℕ) (routing : Bool) (s : List ℕ) where
  abbrev pub success_data : MessageReply → Answer (Reply A)
  success_data m =
      and_then (app_data s (m.data_start + size)) (λ len. done (succeeded m (fields s m.data_start) (m.data_start + size + 2) len))

  abbrev pub failure_data : MessageReply → Answer (Reply A)
  failure_data m = and_then (read_fail routing s m.data_start) (λ f. done (failed m f))

  -- what follows the header, by the status
  unfoldable pub reply_data : MessageReply → Answer (Reply A)
  reply_data m = pick (is_ok m.status) (success_data m) (failure_data m)

  unfoldable pub read_reply : Answer (Reply A)
  read_reply = and_then (read_header s) reply_data

-- ---- Forward Open: 24 bytes of fields

abbrev pub open_success_at : List ℕ → ℕ → ForwardOpenSuccess
open_success_at s at = record {
  o_t_connection_id = value_of 4 (drop at s);
  t_o_connection_id = value_of 4 (drop (at + 4) s);
  connection_serial_number = value_of 2 (drop (at + 8) s);
  originator_vendor_id = value_of 2 (drop (at + 10) s);
  originator_serial_number = value_of 4 (drop (at + 12) s);
  o_t_api = value_of 4 (drop (at + 16) s);
  t_o_api = value_of 4 (drop (at + 20) s);
}

abbrev pub read_open_reply : Bool → List ℕ → Answer (Reply ForwardOpenSuccess)
read_open_reply = read_reply open_success_at 24

-- ---- Forward Close: 8 bytes of fields

abbrev pub close_success_at : List ℕ → ℕ → ForwardCloseSuccess
close_success_at s at = record {
  connection_serial_number = value_of 2 (drop at s);
  originator_vendor_id = value_of 2 (drop (at + 2) s);
  originator_serial_number = value_of 4 (drop (at + 4) s);
}

abbrev pub read_close_reply : Bool → List ℕ → Answer (Reply ForwardCloseSuccess)
read_close_reply = read_reply close_success_at 8
