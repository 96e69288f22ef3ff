-- `message_read::route::last_path` meets its contract. Assumes nothing.
--: * = search (path_laws, c.in_ok-path_at.was, rules) fits 5000
use Rattle.message_read.proofs.ReadLaws.{path_laws}
use Rattle.std.proofs.Common.{rules}
use Rattle.message_read.proofs.route.last_path.Goals as goal

pub returns-then-at-len : goal.returns-then-at-len
returns-then-at-len c = search (path_laws, c.in_ok-path_at.was, rules) fits 5000

pub returns : goal.returns
returns c = search (path_laws, c.in_ok-path_at.was, rules) fits 5000
