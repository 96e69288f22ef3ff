-- What the writer over a path that was written before answers. Assumes nothing: this is a definition.
use Rattle.std.specs.Prelude.{ℕ, ◌+◌, List}
use Rattle.wire.specs.Answers.{Answer, done, and_then}
use Rattle.connection_words.specs.Requests.{close_base}
use Rattle.route_written.specs.Written.{written_route}

-- the path's own refusal, else what stands before it and the path
unfoldable pub close_over_size : List ℕ → Answer ℕ
close_over_size path = and_then (written_route path) (λ n. done (close_base + n))
