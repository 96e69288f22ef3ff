-- The numbers that stand for a field's values are the crate connection's, which has the enums. Assumes nothing.
pub use Rattle.connection.specs.Codes.{bit, variable_number, priority_number, type_number, direction_number, trigger_number, class_number}
pub use Rattle.connection.specs.Codes.{last_priority, last_type, last_trigger, last_class}
pub use Rattle.connection.specs.Codes.{variable_of, priority_of, type_of, direction_of, trigger_of, class_of}
