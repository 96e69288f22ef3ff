-- The bytes of requests: a message (CIP Volume 1, 2-4.1), and the Connection Manager's Forward Open and Large Forward Open (3-5.5.2), Forward
-- Close (3-5.5.3) and Unconnected Send (3-5.5.4). A path is its bytes here; its size is said in words. Assumes nothing: these are definitions.
use Rattle.std.specs.Prelude.{ℕ, ◌/◌, ◌%◌, List, [], ◌∷◌, ◌++◌, Bool, true, false, length}
use Rattle.wire.specs.Records.{Field, byte, num, laid}
use Rattle.connection_words.specs.Fields.{word_of, class_trigger}
use Rattle.connection.specs.declared.ConnectionParameters.{ConnectionParameters}
use Rattle.connection.specs.declared.OpenOptions.{OpenOptions}
use Rattle.connection.specs.declared.ForwardCloseRequest.{ForwardCloseRequest}
use Rattle.connection.specs.declared.UnconnectedSend.{UnconnectedSend}

abbrev pub words : List ℕ → ℕ
words path = length path / 2

-- ---- message: service, path size, path, data

abbrev pub message_fields : ℕ → ℕ → List Field
message_fields service w = byte service ∷ byte w ∷ []

unfoldable pub message_bytes : ℕ → List ℕ → List ℕ → List ℕ
message_bytes service path content = laid (message_fields service (words path)) ++ (path ++ content)

-- what names a connection: its serial number, and its originator's vendor and serial number
abbrev pub triad : ℕ → ℕ → ℕ → List Field
triad serial vendor originator = num 2 serial ∷ num 2 vendor ∷ num 4 originator ∷ []

-- ---- Forward Open: what stands before the path. A small one has parameters of two bytes, a large one of four

abbrev pub parameter_width : Bool → ℕ
parameter_width false = 2
parameter_width true = 4

abbrev pub open_ids : ℕ → ℕ → ℕ → ℕ → List Field
open_ids priority ticks toTarget toOriginator = byte priority ∷ byte ticks ∷ num 4 toTarget ∷ num 4 toOriginator ∷ []

-- the first 22 bytes, the reserved three their last
abbrev pub open_head : OpenOptions → List Field
open_head o =
    open_ids o.priority_tick_time o.timeout_ticks o.o_t_connection_id o.t_o_connection_id
    ++ (triad o.connection_serial_number o.vendor_id o.originator_serial_number
    ++ (byte o.timeout_multiplier ∷ num 3 0 ∷ []))

-- a direction's requested packet interval and parameters
abbrev pub direction_fields : Bool → ℕ → ConnectionParameters → List Field
direction_fields large rpi q = num 4 rpi ∷ num (parameter_width large) (word_of large q) ∷ []

-- the rest: both directions, class and trigger, path size
abbrev pub open_rest : OpenOptions → ℕ → List Field
open_rest o w =
    direction_fields o.large_open o.o_t_rpi o.o_t_params
    ++ (direction_fields o.large_open o.t_o_rpi o.t_o_params
    ++ (byte (class_trigger o) ∷ byte w ∷ []))

unfoldable pub open_bytes : OpenOptions → List ℕ → List ℕ
open_bytes o path = laid (open_head o) ++ (laid (open_rest o (words path)) ++ path)

-- ---- Forward Close: what stands before the path, and how many bytes that is

abbrev pub close_base : ℕ
close_base = 12

abbrev pub close_fields : ForwardCloseRequest → ℕ → List Field
close_fields c w =
    byte c.priority_time_ticks
    ∷ byte c.timeout_ticks
    ∷ (triad c.connection_serial_number c.originator_vendor_id c.originator_serial_number
    ++ (byte w ∷ byte 0 ∷ []))

unfoldable pub close_bytes : ForwardCloseRequest → List ℕ → List ℕ
close_bytes c path = laid (close_fields c (words path)) ++ path

-- ---- Unconnected Send: the message's size, the message, a zero where it is odd, the size of the route, a zero, the route

abbrev pub send_head : UnconnectedSend → ℕ → List Field
send_head u m = byte u.priority_ticks ∷ byte u.timeout_ticks ∷ num 2 m ∷ []

abbrev pub send_rest : ℕ → ℕ → List Field
send_rest m w = num (m % 2) 0 ∷ byte w ∷ byte 0 ∷ []

unfoldable pub send_bytes : UnconnectedSend → List ℕ → List ℕ → List ℕ
send_bytes u message path = laid (send_head u (length message)) ++ (message ++ (laid (send_rest (length message) (words path)) ++ path))
