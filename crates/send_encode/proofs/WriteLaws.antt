-- The writer's stores, put together: fields, message, path. Assumes nothing.
use Prim.Native.Nat.{ℕ, ◌+◌, ◌/◌, ◌%◌}
use mathlib.Core.Path.{◌≡◌}
use mathlib.Core.List.{List}
use lib.ListN.{length}
use lib.Seq.{sets}
use Rattle.wire.specs.Records.{laid}
use Rattle.epath_sizes.specs.Segments.{encode}
use Rattle.epath_sizes.specs.Lists.{segs_of}
use Rattle.epath_sizes.specs.declared.Path.{Path}
use Rattle.connection.specs.declared.UnconnectedSend.{UnconnectedSend}
use Rattle.connection_words.specs.Requests.{send_head, send_rest, send_bytes}
use Rattle.route.specs.Routes.{Routed}
use Rattle.send_fields.proofs.Laws.{send_around}

pub send_put : (u : UnconnectedSend) (message old : List ℕ) (n : ℕ) (a b c pool : List ℕ) (p : Path) → Routed pool p (6 + length message % 2 + length message) old n a
    → b ≡ sets a 4 message → c ≡ sets (sets b 0 (laid (send_head u (length message)))) (4 + length message) (laid (send_rest (length message) (n / 2)))
    → c ≡ sets old 0 (send_bytes u message (encode (segs_of pool p)))
send_put u message old n a b c pool p t e f = send_around u message old n a b c (encode (segs_of pool p)) t.size t.stored e f
