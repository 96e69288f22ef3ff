-- The reader of Forward Close (CIP Volume 1, 3-5.5.3), executable: fields in wire order, the first broken rule refuses. Rules and numbers from
-- document 01, "Requests". Assumes nothing: these are definitions.
use Rattle.std.specs.Prelude.{ℕ, List, get_or, drop, Result, Ok, Err}
use Rattle.wire.specs.Numbers.{value_of}
use Rattle.wire.specs.Refusals.{number}
use Rattle.wire.specs.declared.Refusal.{Refusal}
use Rattle.wire.specs.Answers.{Answer, done, refused, and_then, judged}
use Rattle.request_first.specs.Firsts.{first_rules}
use Rattle.message_read.specs.Reads.{padded_route_at}
use Rattle.connection.specs.declared.ForwardCloseRequest.{ForwardCloseRequest}
use Rattle.close_read.specs.declared.CloseRead.{CloseRead}

-- ---- Forward Close (3-5.5.3): ten bytes, path size, a reserved byte, path

-- the record, and where its path starts and how many bytes that has
pub data Closed : Type 0 where
  closed : ForwardCloseRequest → ℕ → ℕ → Closed

abbrev pub close_at : List ℕ → ForwardCloseRequest
close_at s = record {
  priority_time_ticks = get_or s 0 0;
  timeout_ticks = get_or s 1 0;
  connection_serial_number = value_of 2 (drop 2 s);
  originator_vendor_id = value_of 2 (drop 4 s);
  originator_serial_number = value_of 4 (drop 6 s);
}

unfoldable pub read_close : List ℕ → Answer Closed
read_close s = judged (first_rules s) (and_then (padded_route_at s 10) (λ len. done (closed (close_at s) 12 len)))

-- ---- what the function answers

abbrev pub paper_close : Result CloseRead Refusal → Answer Closed
paper_close (Ok c) = done (closed c.request c.path_start c.path_len)
paper_close (Err e) = refused (number e)
