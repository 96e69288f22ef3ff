-- `epath_read::read_path` meets its contract. Assumes nothing.
--: * = search (filling_laws, c.in_ok-found.ensures, c.type_inv.s, rules) fits 5000
use Rattle.epath_read.proofs.FillLaws.{filling_laws}
use Rattle.std.proofs.Common.{rules}
use Rattle.epath_read.proofs.read_path.Goals as goal

pub loop-place-preserved : goal.loop-place-preserved
loop-place-preserved c = search (filling_laws, c.in_ok-found.ensures, c.type_inv.s, rules) fits 5000
