-- `epath_check::check_path` meets its contract. Assumes nothing.
--: * = search (counting_laws, c.in_ok-at.ensures, rules) fits 5000
use Rattle.epath_check.proofs.Walks.{counting_laws}
use Rattle.std.proofs.Common.{rules}
use Rattle.epath_check.proofs.check_path.Goals as goal

pub loop-at-preserved : goal.loop-at-preserved
loop-at-preserved c = search (counting_laws, c.in_ok-at.ensures, rules) fits 5000
