-- `epath_encode::encode::encode_port` meets its contract. Assumes nothing.
--: * = search (end_laws, rules) fits 5000
use Rattle.std.proofs.Common.{rules}
use Rattle.epath_encode.proofs.WriteLaws.{end_laws}
use Rattle.epath_encode.proofs.encode.encode_port.Goals as goal

pub returns : goal.returns
returns c = search (end_laws, rules) fits 5000
