-- What the writer over a path that was written before answers: the path's own refusal, then the parameters'. Assumes nothing: these are definitions.
use Rattle.std.specs.Prelude.{ℕ, ◌+◌, List}
use Rattle.wire.specs.Answers.{Answer, done, and_then}
use Rattle.connection.specs.declared.OpenOptions.{OpenOptions}
use Rattle.connection_words.specs.Fields.{parameter_word}
use Rattle.open_sizes.specs.Sizes.{open_base}
use Rattle.route_written.specs.Written.{written_route}

-- behind a path of n bytes
unfoldable pub open_after : OpenOptions → ℕ → Answer ℕ
open_after o n =
    and_then (parameter_word o.large_open o.o_t_params) (λ _.
    and_then (parameter_word o.large_open o.t_o_params) (λ _.
    done (open_base o.large_open + n)))

unfoldable pub open_over_size : List ℕ → OpenOptions → Answer ℕ
open_over_size path o = and_then (written_route path) (open_after o)
