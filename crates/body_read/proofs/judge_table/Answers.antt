-- `body_read::judge_table` meets its contract. Assumes nothing.
--: * = search (table_laws, rules) fits 5000
use Rattle.body_read.proofs.ReadLaws.{table_laws}
use Rattle.std.proofs.Common.{rules}
use Rattle.body_read.proofs.judge_table.Goals as goal

pub returns-then-first-s : goal.returns-then-first-s
returns-then-first-s c = search (table_laws, rules) fits 5000
