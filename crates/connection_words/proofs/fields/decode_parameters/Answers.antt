-- `connection_words::fields::decode_parameters` meets its contract. Assumes nothing.
--: * = search (field_laws, c.in_ok-connection_type.ensures, rules) fits 5000
use Rattle.connection_words.proofs.FieldLaws.{field_laws}
use Rattle.std.proofs.Common.{rules}
use Rattle.connection_words.proofs.fields.decode_parameters.Goals as goal

pub returns : goal.returns
returns c = search (field_laws, c.in_ok-connection_type.ensures, rules) fits 5000
