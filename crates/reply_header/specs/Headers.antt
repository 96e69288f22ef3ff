-- A reply's header, read. CIP Volume 1, 2-4.2 (message router response); rules and numbers from document 01, "Replies": service, a reserved byte,
-- general status, word count s, 2s bytes, and then data. Its layout stands in statuses. Assumes nothing: these are definitions.
use Rattle.std.specs.Prelude.{ℕ, ◌+◌, ◌*◌, ◌-◌, List, [], ◌∷◌, length, get_or, drop, eqb}
use Rattle.std.specs.Prelude.{Some, None}
use Rattle.wire.specs.Choice.{pick}
use Rattle.wire.specs.Numbers.{value_of}
use Rattle.wire.specs.Answers.{Answer, done, Rule, under, over, judged}
use Rattle.connection.specs.Limits.{max_record}
use Rattle.statuses.specs.declared.Status.{Status}
use Rattle.reply_header.specs.declared.MessageReply.{MessageReply}

-- words of extended status that are read
abbrev pub most_words : ℕ
most_words = 1

-- where the data starts, by the word count
abbrev pub data_from : List ℕ → ℕ
data_from s = 4 + 2 * get_or s 3 0

abbrev pub header_rules : List ℕ → List Rule
header_rules s =
    over (length s) max_record 3
    ∷ under (length s) 4 1
    ∷ under (length s) (data_from s) 1
    ∷ over (get_or s 3 0) most_words 6
    ∷ []

abbrev pub status_at : List ℕ → Status
status_at s = record { general = get_or s 2 0; extended = pick (eqb (get_or s 3 0) 0) None (Some (value_of 2 (drop 4 s))) }

abbrev pub reply_at : List ℕ → MessageReply
reply_at s = record {
  reply_service = get_or s 0 0;
  status = status_at s;
  data_start = data_from s;
  data_len = length s - data_from s;
}

unfoldable pub read_header : List ℕ → Answer MessageReply
read_header s = judged (header_rules s) (done (reply_at s))
