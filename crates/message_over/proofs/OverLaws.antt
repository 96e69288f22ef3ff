-- The writer over a written path: what a size that was answered says of the request. Assumes nothing.
use Prim.Native.Nat.{ℕ}
use mathlib.Core.Path.{◌≡◌}
use mathlib.Core.List.{List}
use native.Mathlib.Omega.{arith}
use lib.ListN.{length}
use Rattle.std.specs.Prelude.{Result, Ok}
use Rattle.wire.specs.declared.Refusal.{Refusal}
use Rattle.wire.specs.Answers.{paper}
use Rattle.connection_words.specs.Requests.{message_bytes}
use Rattle.connection_words.proofs.Lengths.{message_length}
use Rattle.route_written.specs.Written.{over_size}
use Rattle.route_written.proofs.RecordLaws.{over_path, over_sum}

pub message_over_sized : (path : List ℕ) (r : Result ℕ Refusal) (size : ℕ) → r ≡ Ok size
    → (service : ℕ) (content : List ℕ) → paper r ≡ over_size path 2 (length content) → size ≡ length (message_bytes service path content)
message_over_sized path r size h service content is = omega (arith, over_sum path 2 (length content) r is size h, message_length service path content)

pub ruleset over_laws = (over_path, message_over_sized)
