-- `epath_encode::encode::put_padded` meets its contract. Assumes nothing.
--: * = search (pad_laws, rules) fits 5000
use Rattle.std.proofs.Common.{rules}
use Rattle.epath_encode.proofs.WriteLaws.{pad_laws}
use Rattle.epath_encode.proofs.encode.put_padded.Goals as goal

pub returns : goal.returns
returns c = search (pad_laws, rules) fits 5000
