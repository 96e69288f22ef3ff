-- `route_written::written_route` meets its contract. Assumes nothing.
--: * = search (written_laws, c.in_ok-check_path.was, rules) fits 5000
use Rattle.route_written.proofs.WrittenLaws.{written_laws}
use Rattle.std.proofs.Common.{rules}
use Rattle.route_written.proofs.written_route.Goals as goal

pub returns : goal.returns
returns c = search (written_laws, c.in_ok-check_path.was, rules) fits 5000
