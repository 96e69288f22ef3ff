-- `close_over::close_over_size` meets its contract. Assumes nothing.
--: * = search (over_laws, c.in_ok-n.was, rules) fits 5000
use Rattle.close_over.proofs.OverLaws.{over_laws}
use Rattle.std.proofs.Common.{rules}
use Rattle.close_over.proofs.close_over_size.Goals as goal

pub returns : goal.returns
returns c = search (over_laws, c.in_ok-n.was, rules) fits 5000
