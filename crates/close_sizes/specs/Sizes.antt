-- What the size answers. Document 01, "Refusal numbers": the count and the segments, then the path's limit; the limit of a record is far from
-- the longest of these. Assumes nothing: these are definitions.
use Rattle.std.specs.Prelude.{ℕ, ◌+◌, List}
use Rattle.wire.specs.Answers.{Answer, done, and_then}
use Rattle.epath_sizes.specs.declared.Path.{Path}
use Rattle.connection_words.specs.Requests.{close_base}
use Rattle.route.specs.Routes.{route_size}

unfoldable pub close_size : List ℕ → Path → Answer ℕ
close_size pool p = and_then (route_size pool p) (λ n. done (close_base + n))
