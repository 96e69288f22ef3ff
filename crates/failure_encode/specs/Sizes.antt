-- What the writer answers before room is judged. Document 01, "Refusal numbers" and "Numbers that bound it".
-- Assumes nothing: these are definitions.
use Rattle.std.specs.Prelude.{ℕ, ◌+◌, [], ◌∷◌}
use Rattle.std.specs.Prelude.{Option, Some, None}
use Rattle.wire.specs.Answers.{Answer, done, under, judged}
use Rattle.connection.specs.declared.ForwardRequestFail.{ForwardRequestFail}
use Rattle.statuses.specs.declared.Status.{Status}

-- a failure has 12 bytes, 2 more with an extended word, 1 more with a remaining path size
abbrev pub word_width : Option ℕ → ℕ
word_width None = 0
word_width (Some w) = 2

abbrev pub remaining_width : Option ℕ → ℕ
remaining_width None = 0
remaining_width (Some w) = 1

abbrev pub failure_width : Status → ForwardRequestFail → ℕ
failure_width status f = 12 + word_width status.extended + remaining_width f.remaining_path_size

-- general status 0 is no failure: 4
unfoldable pub failure_size : Status → ForwardRequestFail → Answer ℕ
failure_size status f = judged (under status.general 1 4 ∷ []) (done (failure_width status f))
