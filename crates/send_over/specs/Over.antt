-- What the writer over a written path answers: document 01, "Refusal numbers". Assumes nothing: this is a definition.
use Rattle.std.specs.Prelude.{ℕ, ◌+◌, ◌%◌, List}
use Rattle.wire.specs.Answers.{Answer}
use Rattle.route_written.specs.Written.{over_size}

-- with a message of m bytes
abbrev pub send_over_size : List ℕ → ℕ → Answer ℕ
send_over_size path m = over_size path (6 + m % 2) m
