-- What the function for C writes, as the record that the writer takes: each argument as the field of its name, the vendor as the originator's.
-- Assumes nothing: these are definitions.
use Rattle.std.specs.Prelude.{ℕ, Bool, true, false}
use Rattle.std.specs.Prelude.{Option, Some, None}
use Rattle.connection.specs.declared.ForwardRequestFail.{ForwardRequestFail}

-- the size of the path that was left counts only where it is told
abbrev pub remaining_from : Bool → ℕ → Option ℕ
remaining_from false words = None
remaining_from true words = Some words

abbrev pub fail_of : ℕ → ℕ → ℕ → Bool → ℕ → ForwardRequestFail
fail_of serial vendor originator has_remaining remaining = record {
  connection_serial_number = serial;
  originator_vendor_id = vendor;
  originator_serial_number = originator;
  remaining_path_size = remaining_from has_remaining remaining;
}
