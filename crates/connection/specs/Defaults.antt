-- The crate's default record, the serial number from the caller, and its setter for the tick time. Document 01, "Requests".
-- Assumes nothing: these are definitions.
use Rattle.std.specs.Prelude.{ℕ, ◌%◌, false}
use Rattle.connection.specs.declared.ConnectionParameters.{ConnectionParameters}
use Rattle.connection.specs.declared.OpenOptions.{OpenOptions}
use Rattle.connection.specs.declared.ConnectionType.TheVariants.{P2P}
use Rattle.connection.specs.declared.VariableLength.TheVariants.{Fixed}
use Rattle.connection.specs.declared.Priority.TheVariants.{High}
use Rattle.connection.specs.declared.Direction.TheVariants.{Server}
use Rattle.connection.specs.declared.TransportClass.TheVariants.{Class3}
use Rattle.connection.specs.declared.TriggerType.TheVariants.{Application}

abbrev pub default_parameters : ConnectionParameters
default_parameters = record {
  redundant_owner = false;
  connection_type = P2P;
  variable_length = Fixed;
  priority = High;
  connection_size = 504;
}

abbrev pub options_with : ℕ → ConnectionParameters → OpenOptions
options_with serial params = record {
  o_t_connection_id = 0;
  t_o_connection_id = 0;
  priority_tick_time = 0x03;
  timeout_ticks = 0xFA;
  connection_serial_number = serial;
  vendor_id = 0xFF;
  originator_serial_number = 0xFFFFFFFF;
  o_t_rpi = 0x4240;
  t_o_rpi = 0x4240;
  timeout_multiplier = 3;
  o_t_params = params;
  t_o_params = params;
  transport_direction = Server;
  transport_class = Class3;
  transport_trigger = Application;
  large_open = false;
}

abbrev pub default_options : ℕ → OpenOptions
default_options serial = options_with serial default_parameters

-- the tick time in the low four bits, and the reserved bits above it zero; all else as it was
abbrev pub masked : OpenOptions → ℕ → OpenOptions
masked o val = record {
  o_t_connection_id = o.o_t_connection_id;
  t_o_connection_id = o.t_o_connection_id;
  priority_tick_time = val % 16;
  timeout_ticks = o.timeout_ticks;
  connection_serial_number = o.connection_serial_number;
  vendor_id = o.vendor_id;
  originator_serial_number = o.originator_serial_number;
  o_t_rpi = o.o_t_rpi;
  t_o_rpi = o.t_o_rpi;
  timeout_multiplier = o.timeout_multiplier;
  o_t_params = o.o_t_params;
  t_o_params = o.t_o_params;
  transport_direction = o.transport_direction;
  transport_class = o.transport_class;
  transport_trigger = o.transport_trigger;
  large_open = o.large_open;
}
