-- The reader of Unconnected Send (CIP Volume 1, 3-5.5.4), executable: fields in wire order, the first broken rule refuses. Rules and numbers from
-- document 01, "Requests". Assumes nothing: these are definitions.
use Rattle.std.specs.Prelude.{ℕ, ◌+◌, ◌%◌, List, [], ◌∷◌, length, get_or, drop, Result, Ok, Err}
use Rattle.wire.specs.Numbers.{value_of}
use Rattle.wire.specs.Refusals.{number}
use Rattle.wire.specs.declared.Refusal.{Refusal}
use Rattle.wire.specs.Answers.{Answer, done, refused, and_then, Rule, under, other, judged}
use Rattle.request_first.specs.Firsts.{first_rules}
use Rattle.message_read.specs.Reads.{padded_route_at}
use Rattle.connection.specs.declared.UnconnectedSend.{UnconnectedSend}
use Rattle.send_read.specs.declared.SendRead.{SendRead}

-- ---- Unconnected Send (3-5.5.4): two bytes, the message's size, the message, a zero where it is odd, path size, a reserved byte, path

-- the record, then start and length of the message, and of the path
pub data Sent : Type 0 where
  sent : UnconnectedSend → ℕ → ℕ → ℕ → ℕ → Sent

abbrev pub send_at : List ℕ → UnconnectedSend
send_at s = record { priority_ticks = get_or s 0 0; timeout_ticks = get_or s 1 0 }

-- where a message of m bytes and its pad end
abbrev pub message_end : ℕ → ℕ
message_end m = 4 + m + m % 2

abbrev pub message_rules : List ℕ → ℕ → List Rule
message_rules s m =
    under (length s) (4 + m) 1
    ∷ under (length s) (message_end m) 1
    ∷ other (value_of (m % 2) (drop (4 + m) s)) 0 5
    ∷ []

unfoldable pub send_behind : List ℕ → ℕ → Answer Sent
send_behind s m =
    judged (message_rules s m)
    (and_then (padded_route_at s (message_end m)) (λ len. done (sent (send_at s) 4 m (message_end m + 2) len)))

unfoldable pub read_send : List ℕ → Answer Sent
read_send s = judged (first_rules s) (judged (under (length s) 4 1 ∷ []) (send_behind s (value_of 2 (drop 2 s))))

-- ---- what the function answers

abbrev pub paper_send : Result SendRead Refusal → Answer Sent
paper_send (Ok r) = done (sent r.send r.message_start r.message_len r.path_start r.path_len)
paper_send (Err e) = refused (number e)
