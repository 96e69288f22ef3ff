-- `close_read::read_forward_close` meets its contract. Assumes nothing.
--: * = search (close_laws, c.in_ok-first_byte.was, c.in_ok-path_len.was, rules) fits 5000
use Rattle.close_read.proofs.ReadLaws.{close_laws}
use Rattle.std.proofs.Common.{rules}
use Rattle.close_read.proofs.read_forward_close.Goals as goal

pub returns : goal.returns
returns c = search (close_laws, c.in_ok-first_byte.was, c.in_ok-path_len.was, rules) fits 5000
