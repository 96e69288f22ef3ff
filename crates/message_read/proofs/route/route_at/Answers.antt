-- `message_read::route::route_at` meets its contract. Assumes nothing.
--: * = search (path_laws, c.in_ok-len.was, rules) fits 5000
use Rattle.message_read.proofs.ReadLaws.{path_laws}
use Rattle.std.proofs.Common.{rules}
use Rattle.message_read.proofs.route.route_at.Goals as goal
