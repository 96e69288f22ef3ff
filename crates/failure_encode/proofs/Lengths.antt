-- How many bytes a reply has. Assumes nothing.
use Prim.Native.Nat.{ℕ, ◌+◌}
use mathlib.Core.Path.{◌≡◌, refl}
use mathlib.Core.List.{◌++◌}
use native.Mathlib.Omega.{arith}
use lib.ListN.{length}
use Rattle.std.specs.Prelude.{Option, Some, None}
use Rattle.wire.specs.Records.{widths}
use Rattle.wire.proofs.Records.{laid_length}
use Rattle.connection.specs.declared.ForwardRequestFail.{ForwardRequestFail}
use Rattle.connection_words.specs.Requests.{triad}
use Rattle.statuses.specs.Layouts.{extended_fields, header_fields}
use Rattle.statuses.specs.declared.Status.{Status}
use Rattle.failure_encode.specs.Failures.{remaining_fields, failure_fields, failure_bytes}
use Rattle.failure_encode.specs.Sizes.{word_width, remaining_width, failure_width}

-- behind the general status: 9 bytes, and what an extended word and a remaining path size add
rest : (x : Option ℕ) (y : Option ℕ) (serial vendor originator : ℕ)
    → widths (extended_fields x ++ (triad serial vendor originator ++ remaining_fields y)) ≡ 9 + word_width x + remaining_width y
rest None None serial vendor originator = refl
rest None (Some w) serial vendor originator = refl
rest (Some v) None serial vendor originator = refl
rest (Some v) (Some w) serial vendor originator = refl

pub failure_length : (service : ℕ) (status : Status) (f : ForwardRequestFail) → length (failure_bytes service status f) ≡ failure_width status f
unfolding failure_bytes
failure_length service status f =
    omega (
      arith,
      laid_length (header_fields service status ++ failure_fields f),
      rest status.extended f.remaining_path_size f.connection_serial_number f.originator_vendor_id f.originator_serial_number,
    )
