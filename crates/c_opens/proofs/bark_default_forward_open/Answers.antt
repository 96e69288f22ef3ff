-- `c_opens::bark_default_forward_open` meets its contract. Assumes nothing.
--: * = search (default_laws, rules) fits 5000
use Rattle.c_opens.proofs.Laws.{default_laws}
use Rattle.std.proofs.Common.{rules}
use Rattle.c_opens.proofs.bark_default_forward_open.Goals as goal

pub returns-clause-numbers : goal.returns-clause-numbers
returns-clause-numbers c = search (default_laws, rules) fits 5000
