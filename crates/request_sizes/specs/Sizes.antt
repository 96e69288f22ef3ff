-- What the sizes answer. Document 01, "Refusal numbers": the count and the segments, then the whole limits.
-- Assumes nothing: these are definitions.
use Rattle.std.specs.Prelude.{ℕ, ◌+◌, ◌%◌, List}
use Rattle.wire.specs.Answers.{Answer, and_then, within_limit}
use Rattle.epath_sizes.specs.declared.Path.{Path}
use Rattle.connection.specs.Limits.{max_record}
use Rattle.route.specs.Routes.{route_size}

-- with d bytes of data
unfoldable pub message_size : List ℕ → Path → ℕ → Answer ℕ
message_size pool p d = and_then (route_size pool p) (λ n. within_limit max_record (2 + n + d))

-- with a message of m bytes
unfoldable pub send_size : List ℕ → Path → ℕ → Answer ℕ
send_size pool p m = and_then (route_size pool p) (λ n. within_limit max_record (6 + n + m % 2 + m))
