-- The path behind a size byte: document 01, "Numbers that bound it". Assumes nothing: these are definitions.
use Rattle.std.specs.Prelude.{ℕ, ◌+◌, ◌≤◌, ◌≡◌, List, length}
use Rattle.std.proofs.lemmas.List.Edits.{sets}
use Rattle.wire.specs.Answers.{Answer, done, and_then, within_limit}
use Rattle.epath_sizes.specs.Segments.{encode}
use Rattle.epath_sizes.specs.Lists.{segs_of}
use Rattle.epath_sizes.specs.Sizes.{path_size}
use Rattle.epath_sizes.specs.declared.Path.{Path}
use Rattle.connection.specs.Limits.{max_path}

-- the path's own refusal, then its limit
unfoldable pub route_size : List ℕ → Path → Answer ℕ
route_size pool p = and_then (path_size pool p) (λ n. within_limit max_path n)

-- ---- for the writers' own parts: a path that was judged, and its room from a place on
pub record Ready (pool : List ℕ) (p : Path) (at : ℕ) (out : List ℕ) : Type 0 where
  pub size : ℕ
  pub is : path_size pool p ≡ done size
  pub short : size ≤ max_path
  pub room : at + size ≤ length out

-- and what is left where it was written: how many bytes there were, and the list
pub record Routed (pool : List ℕ) (p : Path) (at : ℕ) (old : List ℕ) (r : ℕ) (new : List ℕ) : Type 0 where
  pub size : r ≡ length (encode (segs_of pool p))
  pub short : r ≤ max_path
  pub stored : new ≡ sets old at (encode (segs_of pool p))
