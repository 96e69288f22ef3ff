-- All replies of a body as rows of numbers, for C. Assumes nothing: these are definitions.
use Rattle.std.specs.Prelude.{ℕ, zero, suc, ◌+◌, ◌*◌, List, [], ◌∷◌, ◌++◌}
use Rattle.wire.specs.Answers.{Answer, done, refused, under, judged, and_then}
use Rattle.reply_header.specs.declared.MessageReply.{MessageReply}
use Rattle.body_read.specs.Reads.{read_body}
use Rattle.body_replies.specs.Replies.{walk_reply}
use Rattle.c_reply_numbers.specs.Numbers.{reply_numbers}

abbrev pub reply_row_size : ℕ
reply_row_size = 7

-- 0 and the header's six numbers; or the refusal's number and six zeros
abbrev pub reply_row : Answer MessageReply → List ℕ
reply_row (done m) = 0 ∷ reply_numbers m
reply_row (refused k) = k ∷ 0 ∷ 0 ∷ 0 ∷ 0 ∷ 0 ∷ 0 ∷ []

-- m rows end to end, from item k of n on
abbrev pub rows_from : ℕ → List ℕ → ℕ → ℕ → List ℕ
rows_from zero s n k = []
rows_from (suc m) s n k = reply_row (walk_reply s n k) ++ rows_from m s n (k + 1)

-- how many items there are: the body's own refusal, then 2 where a row has no place
unfoldable pub rows_answer : List ℕ → ℕ → Answer ℕ
rows_answer s room = and_then (read_body s) (λ n. judged (under room (reply_row_size * n) 2 ∷ []) (done n))

-- a row for each, of a body of n items
abbrev pub rows_in : Answer ℕ → List ℕ → List ℕ
rows_in (done n) s = rows_from n s n 0
rows_in (refused k) s = []

unfoldable pub reply_rows : List ℕ → List ℕ
reply_rows s = rows_in (read_body s) s
