-- The writer's stores, put together: fields, path, data. Assumes nothing.
use Prim.Native.Nat.{ℕ, ◌+◌, ◌/◌}
use mathlib.Core.Path.{◌≡◌}
use mathlib.Core.List.{List}
use lib.ListN.{set}
use lib.Seq.{sets}
use Rattle.epath_sizes.specs.Segments.{encode}
use Rattle.epath_sizes.specs.Lists.{segs_of}
use Rattle.epath_sizes.specs.declared.Path.{Path}
use Rattle.connection_words.specs.Requests.{message_bytes}
use Rattle.connection_words.proofs.MessageStores.{message_around}
use Rattle.route.specs.Routes.{Routed}

pub message_put : (pool : List ℕ) (p : Path) (old : List ℕ) (n : ℕ) (a : List ℕ) → Routed pool p 2 old n a
    → (service : ℕ) (content b c d : List ℕ) → b ≡ set a 0 service → c ≡ set b 1 (n / 2) → d ≡ sets c (2 + n) content
    → d ≡ sets old 0 (message_bytes service (encode (segs_of pool p)) content)
message_put pool p old n a t = message_around old (encode (segs_of pool p)) n a t.size t.stored
