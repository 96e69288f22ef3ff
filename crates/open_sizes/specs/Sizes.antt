-- What the size answers. Document 01, "Refusal numbers": the count and the segments, then the path's limit, then the other fields; the limit of
-- a record is far from the longest of these. Assumes nothing: these are definitions.
use Rattle.std.specs.Prelude.{ℕ, ◌+◌, List, Bool, true, false}
use Rattle.wire.specs.Answers.{Answer, done, and_then}
use Rattle.epath_sizes.specs.declared.Path.{Path}
use Rattle.connection.specs.declared.OpenOptions.{OpenOptions}
use Rattle.connection_words.specs.Fields.{parameter_word}
use Rattle.route.specs.Routes.{route_size}

abbrev pub open_base : Bool → ℕ
open_base false = 36
open_base true = 40

-- before the path, where both words can hold their parameters
unfoldable pub front_size : OpenOptions → Answer ℕ
front_size o =
    and_then (parameter_word o.large_open o.o_t_params) (λ _.
    and_then (parameter_word o.large_open o.t_o_params) (λ _.
    done (open_base o.large_open)))

-- a small connection size over its limit is the parameters' own refusal.
unfoldable pub open_size : List ℕ → Path → OpenOptions → Answer ℕ
open_size pool p o =
    and_then (route_size pool p) (λ n.
    and_then (parameter_word o.large_open o.o_t_params) (λ _.
    and_then (parameter_word o.large_open o.t_o_params) (λ _.
    done (open_base o.large_open + n))))
