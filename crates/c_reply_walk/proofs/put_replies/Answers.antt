-- `c_reply_walk::put_replies` meets its contract. Assumes nothing.
use Rattle.c_reply_walk.proofs.Laws.{turn_goes}
use Rattle.c_reply_walk.proofs.put_replies.Goals as goal

pub loop-k-preserved : goal.loop-k-preserved
loop-k-preserved c = turn_goes _ _ _ _ _ c.loop-k.invariant _ _ c.loop-k-test.true c.walk_reply.ensures c.put_reply.ensures
