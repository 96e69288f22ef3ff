-- `body_read::judge_later` meets its contract. Assumes nothing.
--: * = search (reading_laws, rules) fits 5000
use Rattle.body_read.proofs.ReadLaws.{reading_laws}
use Rattle.std.proofs.Common.{rules}
use Rattle.body_read.proofs.judge_later.Goals as goal

pub returns-then-s-at : goal.returns-then-s-at
returns-then-s-at c = search (reading_laws, rules) fits 5000

pub returns-then-offset-last : goal.returns-then-offset-last
returns-then-offset-last c = search (reading_laws, rules) fits 5000

pub returns-then-s-offset : goal.returns-then-s-offset
returns-then-s-offset c = search (reading_laws, rules) fits 5000

pub returns : goal.returns
returns c = search (reading_laws, rules) fits 5000

pub loop-k-preserved : goal.loop-k-preserved
loop-k-preserved c = search (reading_laws, rules) fits 5000
