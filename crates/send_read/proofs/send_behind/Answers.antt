-- `send_read::send_behind` meets its contract. Assumes nothing.
--: * = search (send_laws, c.in_ok-judge_message.was, c.in_ok-path_len.was, rules) fits 5000
use Rattle.send_read.proofs.ReadLaws.{send_laws}
use Rattle.std.proofs.Common.{rules}
use Rattle.send_read.proofs.send_behind.Goals as goal

pub returns : goal.returns
returns c = search (send_laws, c.in_ok-judge_message.was, c.in_ok-path_len.was, rules) fits 5000
