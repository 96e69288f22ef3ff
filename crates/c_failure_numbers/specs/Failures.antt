-- What the functions for C read of a reply to a Forward Open or a Forward Close, as a run of numbers at the places of include/barkcushion.h: what the replies
-- have alike, and all of a failure. Assumes nothing: these are definitions.
use Rattle.std.specs.Prelude.{ℕ, List, [], ◌∷◌, ◌++◌}
use Rattle.std.specs.Prelude.{Option, Some, None}
use Rattle.connection.specs.declared.ForwardRequestFail.{ForwardRequestFail}
use Rattle.reply_header.specs.declared.MessageReply.{MessageReply}
use Rattle.c_reply_numbers.specs.Numbers.{reply_numbers}

-- the header's numbers, 1 if it was served and else 0, what names the connection, and what else the record holds
abbrev pub connection_numbers : MessageReply → ℕ → ℕ → ℕ → ℕ → List ℕ → List ℕ
connection_numbers m served serial vendor originator rest = reply_numbers m ++ (served ∷ serial ∷ vendor ∷ originator ∷ rest)

-- whether the size of the path that was left is told, and it, or 0

abbrev pub has_remaining : Option ℕ → ℕ
has_remaining None = 0
has_remaining (Some w) = 1

abbrev pub remaining_of : Option ℕ → ℕ
remaining_of None = 0
remaining_of (Some w) = w

abbrev pub failure_numbers : MessageReply → ForwardRequestFail → List ℕ
failure_numbers m f =
    connection_numbers m 0 f.connection_serial_number f.originator_vendor_id f.originator_serial_number
    (has_remaining f.remaining_path_size ∷ remaining_of f.remaining_path_size ∷ [])
