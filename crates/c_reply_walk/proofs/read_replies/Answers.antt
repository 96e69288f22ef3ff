-- `c_reply_walk::read_replies` meets its contract. Assumes nothing.
use Rattle.c_reply_walk.proofs.Laws.{full, full_rows, enough, all_rows}
use Rattle.c_reply_walk.proofs.read_replies.Goals as goal

pub returns-then-out-n-clause-answer : goal.returns-then-out-n-clause-answer
returns-then-out-n-clause-answer c = full _ _ _ c.in_ok-n.ensures c.if-out-n.true

pub returns-then-out-n-clause-rows : goal.returns-then-out-n-clause-rows
returns-then-out-n-clause-rows c = full_rows _ _ _ c.in_ok-n.ensures c.if-out-n.true

pub returns-clause-answer : goal.returns-clause-answer
returns-clause-answer c = enough _ _ _ c.in_ok-n.ensures c.if-out-n.false

pub returns-clause-rows : goal.returns-clause-rows
returns-clause-rows c = all_rows _ _ _ c.in_ok-n.ensures c.if-out-n.false _ c.put_replies.ensures
