-- The path behind a size byte, given as its bytes: document 01, "Numbers that bound it". Assumes nothing: these are definitions.
use Rattle.std.specs.Prelude.{ℕ, ◌+◌, List, [], ◌∷◌, length}
use Rattle.wire.specs.Answers.{Answer, done, over, judged, and_then, within_limit}
use Rattle.epath_check.specs.Paths.{check_path}
use Rattle.connection.specs.Limits.{max_path, max_record}

-- its limit, then the strict reader's own refusal, else how many bytes it has
unfoldable pub written_route : List ℕ → Answer ℕ
written_route path = judged (over (length path) max_path 3 ∷ []) (and_then (check_path path) (λ _. done (length path)))

-- a record of a written path, head bytes and so many of a lent part
unfoldable pub over_size : List ℕ → ℕ → ℕ → Answer ℕ
over_size path head rest = and_then (written_route path) (λ n. within_limit max_record (head + n + rest))
