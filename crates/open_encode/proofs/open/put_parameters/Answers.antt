-- `open_encode::open::put_parameters` meets its contract. Assumes nothing.
--: * = search (open_laws, rules) fits 5000
use Rattle.open_encode.proofs.WriteLaws.{open_laws}
use Rattle.std.proofs.Common.{rules}
use Rattle.open_encode.proofs.open.put_parameters.Goals as goal

pub overflow_cast-word : goal.overflow_cast-word
overflow_cast-word c = search (open_laws, rules) fits 5000
