-- The bytes of a reply's header, as a list of fields. CIP Volume 1, 2-4.2 (message router response); document 01, "Replies". The reader is in
-- reply_header; the writers need no more than this. Assumes nothing: these are definitions.
use Rattle.std.specs.Prelude.{ℕ, List, [], ◌∷◌}
use Rattle.std.specs.Prelude.{Option, Some, None}
use Rattle.wire.specs.Records.{Field, byte, num}
use Rattle.statuses.specs.declared.Status.{Status}

abbrev pub extended_fields : Option ℕ → List Field
extended_fields None = byte 0 ∷ []
extended_fields (Some w) = byte 1 ∷ num 2 w ∷ []

abbrev pub header_fields : ℕ → Status → List Field
header_fields service s = byte service ∷ byte 0 ∷ byte s.general ∷ extended_fields s.extended
