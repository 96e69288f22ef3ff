-- The bytes of a Forward Open's or a Forward Close's reply that tells of failure (CIP Volume 1, 2-4.2, 3-5.5.2 and 3-5.5.3): the header; what names
-- the connection; for a routing error the size of the path that was left, in words. Assumes nothing: these are definitions.
use Rattle.std.specs.Prelude.{ℕ, List, [], ◌∷◌, ◌++◌}
use Rattle.std.specs.Prelude.{Option, Some, None}
use Rattle.wire.specs.Records.{Field, byte, laid}
use Rattle.connection.specs.declared.ForwardRequestFail.{ForwardRequestFail}
use Rattle.connection_words.specs.Requests.{triad}
use Rattle.statuses.specs.Layouts.{header_fields}
use Rattle.statuses.specs.declared.Status.{Status}

abbrev pub remaining_fields : Option ℕ → List Field
remaining_fields None = []
remaining_fields (Some w) = byte w ∷ []

abbrev pub failure_fields : ForwardRequestFail → List Field
failure_fields f =
    triad f.connection_serial_number f.originator_vendor_id f.originator_serial_number ++ remaining_fields f.remaining_path_size

unfoldable pub failure_bytes : ℕ → Status → ForwardRequestFail → List ℕ
failure_bytes service status f = laid (header_fields service status ++ failure_fields f)
