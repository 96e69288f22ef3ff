-- `route::route_size` meets its contract. Assumes nothing.
--: * = search (route_laws, c.in_ok-n.was, rules) fits 5000
use Rattle.route.proofs.RouteLaws.{route_laws}
use Rattle.std.proofs.Common.{rules}
use Rattle.route.proofs.route_size.Goals as goal

pub returns-then-n-gt-MAX_PATH : goal.returns-then-n-gt-MAX_PATH
returns-then-n-gt-MAX_PATH c = search (route_laws, c.in_ok-n.was, rules) fits 5000

pub returns-then-n-ne0 : goal.returns-then-n-ne0
returns-then-n-ne0 c = search (route_laws, c.in_ok-n.was, rules) fits 5000

pub returns : goal.returns
returns c = search (route_laws, c.in_ok-n.was, rules) fits 5000
