-- What the functions for C write, as the records that the writers take: each argument as the field of its name, the vendor as the originator's.
-- Assumes nothing: these are definitions.
use Rattle.std.specs.Prelude.{ℕ}
use Rattle.connection.specs.declared.ForwardOpenSuccess.{ForwardOpenSuccess}
use Rattle.connection.specs.declared.ForwardCloseSuccess.{ForwardCloseSuccess}

abbrev pub opened_of : ℕ → ℕ → ℕ → ℕ → ℕ → ℕ → ℕ → ForwardOpenSuccess
opened_of toTarget toOriginator serial vendor originator targetInterval originatorInterval = record {
  o_t_connection_id = toTarget;
  t_o_connection_id = toOriginator;
  connection_serial_number = serial;
  originator_vendor_id = vendor;
  originator_serial_number = originator;
  o_t_api = targetInterval;
  t_o_api = originatorInterval;
}

abbrev pub closed_of : ℕ → ℕ → ℕ → ForwardCloseSuccess
closed_of serial vendor originator = record {
  connection_serial_number = serial;
  originator_vendor_id = vendor;
  originator_serial_number = originator;
}
