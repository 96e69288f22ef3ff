-- The writer over a written path: what a size that was answered says of the request. Assumes nothing.
use Prim.Native.Nat.{ℕ, ◌+◌, ◌%◌}
use mathlib.Core.Path.{◌≡◌}
use mathlib.Core.List.{List}
use native.Mathlib.Omega.{arith}
use lib.ListN.{length}
use Rattle.std.specs.Prelude.{Result, Ok}
use Rattle.wire.specs.declared.Refusal.{Refusal}
use Rattle.wire.specs.Answers.{paper}
use Rattle.connection.specs.declared.UnconnectedSend.{UnconnectedSend}
use Rattle.connection_words.specs.Requests.{send_bytes}
use Rattle.connection_words.proofs.Lengths.{send_length}
use Rattle.route_written.specs.Written.{over_size}
use Rattle.route_written.proofs.RecordLaws.{over_path, over_rest, over_sum}

pub send_over_sized : (path : List ℕ) (r : Result ℕ Refusal) (size : ℕ) → r ≡ Ok size
    → (u : UnconnectedSend) (message : List ℕ) → paper r ≡ over_size path (6 + length message % 2) (length message) → size ≡ length (send_bytes u message path)
send_over_sized path r size h u message is = omega (arith, over_sum path (6 + length message % 2) (length message) r is size h, send_length u message path)

pub ruleset over_laws = (over_path, over_rest, send_over_sized)
