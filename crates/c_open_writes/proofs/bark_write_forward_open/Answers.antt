-- `c_open_writes::bark_write_forward_open` meets its contract. Assumes nothing.
--: * = search (given_laws, rules) fits 5000
use Rattle.c_open_writes.proofs.Laws.{given_laws}
use Rattle.std.proofs.Common.{rules}
use Rattle.c_open_writes.proofs.bark_write_forward_open.Goals as goal

pub returns-in-Err-written_route-clause-answer : goal.returns-in-Err-written_route-clause-answer
returns-in-Err-written_route-clause-answer c = search (given_laws, rules) fits 5000

pub returns-in-Err-written_route-clause-bytes : goal.returns-in-Err-written_route-clause-bytes
returns-in-Err-written_route-clause-bytes c = search (given_laws, rules) fits 5000

pub returns-in-Ok-written_route-clause-answer : goal.returns-in-Ok-written_route-clause-answer
returns-in-Ok-written_route-clause-answer c = search (given_laws, rules) fits 5000

pub returns-in-Ok-written_route-clause-bytes : goal.returns-in-Ok-written_route-clause-bytes
returns-in-Ok-written_route-clause-bytes c = search (given_laws, rules) fits 5000

pub returns-in-Ok-clause-answer : goal.returns-in-Ok-clause-answer
returns-in-Ok-clause-answer c = search (given_laws, rules) fits 5000

pub returns-in-Ok-clause-bytes : goal.returns-in-Ok-clause-bytes
returns-in-Ok-clause-bytes c = search (given_laws, rules) fits 5000
