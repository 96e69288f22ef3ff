-- The writer's stores, put together: fields and path. Assumes nothing.
use Prim.Native.Nat.{ℕ, ◌/◌}
use mathlib.Core.Path.{◌≡◌, ap, ◌∙◌}
use mathlib.Core.List.{List}
use lib.Seq.{sets}
use Rattle.wire.specs.Records.{laid}
use Rattle.epath_sizes.specs.Segments.{encode}
use Rattle.epath_sizes.specs.Lists.{segs_of}
use Rattle.epath_sizes.specs.declared.Path.{Path}
use Rattle.connection.specs.declared.ForwardCloseRequest.{ForwardCloseRequest}
use Rattle.connection_words.specs.Requests.{close_fields, close_bytes}
use Rattle.route.specs.Routes.{Routed}
use Rattle.close_fields.proofs.Laws.{close_laid}

module _ (pool : List ℕ) (p : Path) (old : List ℕ) (n : ℕ) (a : List ℕ) (t : Routed pool p 12 old n a) where
  pub close_put : (c : ForwardCloseRequest) (b : List ℕ) → b ≡ sets a 0 (laid (close_fields c (n / 2))) → b ≡ sets old 0 (close_bytes c (encode (segs_of pool p)))
  close_put c b e = close_laid c (encode (segs_of pool p)) old a b t.stored (e ∙ ap (λ (k : ℕ). sets a 0 (laid (close_fields c (k / 2)))) t.size)
