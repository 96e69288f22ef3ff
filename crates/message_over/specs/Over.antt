-- What the writer over a written path answers: document 01, "Refusal numbers". Assumes nothing: this is a definition.
use Rattle.std.specs.Prelude.{ℕ, List}
use Rattle.wire.specs.Answers.{Answer}
use Rattle.route_written.specs.Written.{over_size}

-- with d bytes of data
abbrev pub message_over_size : List ℕ → ℕ → Answer ℕ
message_over_size path d = over_size path 2 d
