-- The bytes of the Connection Manager's replies that tell of success: the header of a message router response (CIP Volume 1, 2-4.2), and behind it
-- what answers a Forward Open (3-5.5.2) or a Forward Close (3-5.5.3). Assumes nothing: these are definitions.
use Rattle.std.specs.Prelude.{ℕ, ◌/◌, List, [], ◌∷◌, ◌++◌, length}
use Rattle.std.proofs.lemmas.List.Edits.{sets}
use Rattle.std.specs.Prelude.{None}
use Rattle.wire.specs.Records.{Field, byte, num, laid}
use Rattle.connection.specs.declared.ForwardOpenSuccess.{ForwardOpenSuccess}
use Rattle.connection.specs.declared.ForwardCloseSuccess.{ForwardCloseSuccess}
use Rattle.connection_words.specs.Requests.{triad}
use Rattle.statuses.specs.Layouts.{header_fields}
use Rattle.statuses.specs.declared.Status.{Status}

-- general status 0 and no extended word
abbrev pub success : Status
success = record { general = 0; extended = None }

-- two numbers: from originator to target, and back
abbrev pub both_ways : ℕ → ℕ → List Field
both_ways toTarget toOriginator = num 4 toTarget ∷ num 4 toOriginator ∷ []

-- what stands before application data: its size in words, a reserved byte
abbrev pub app_fields : List ℕ → List Field
app_fields app = byte (length app / 2) ∷ byte 0 ∷ []

-- ids, what names the connection, actual packet intervals
abbrev pub open_success_fields : ForwardOpenSuccess → List Field
open_success_fields o =
    both_ways o.o_t_connection_id o.t_o_connection_id
    ++ (triad o.connection_serial_number o.originator_vendor_id o.originator_serial_number
    ++ both_ways o.o_t_api o.t_o_api)

abbrev pub close_success_fields : ForwardCloseSuccess → List Field
close_success_fields c = triad c.connection_serial_number c.originator_vendor_id c.originator_serial_number

-- header, fields, application data
unfoldable pub open_reply_bytes : ℕ → ForwardOpenSuccess → List ℕ → List ℕ
open_reply_bytes service o app = laid (header_fields service success ++ (open_success_fields o ++ app_fields app)) ++ app

unfoldable pub close_reply_bytes : ℕ → ForwardCloseSuccess → List ℕ → List ℕ
close_reply_bytes service c app = laid (header_fields service success ++ (close_success_fields c ++ app_fields app)) ++ app

-- ---- for the writers' own parts: what a list holds once fields are stored from a place on
unfoldable pub with_fields : List ℕ → ℕ → List Field → List ℕ
with_fields old at fs = sets old at (laid fs)

-- the records' bytes, and a reply whose record has these bytes
unfoldable pub open_record : ForwardOpenSuccess → List ℕ
open_record o = laid (open_success_fields o)

unfoldable pub close_record : ForwardCloseSuccess → List ℕ
close_record c = laid (close_success_fields c)

unfoldable pub success_bytes : ℕ → List ℕ → List ℕ → List ℕ
success_bytes service fields app = laid (header_fields service success) ++ (fields ++ (laid (app_fields app) ++ app))
