-- `c_reply_walk::put_replies` meets its contract. Assumes nothing.
use Rattle.c_reply_walk.proofs.Laws.{Turn}
use Rattle.c_reply_walk.proofs.put_replies.Given as goal

abbrev pub invariant-loop-k : goal.invariant-loop-k
invariant-loop-k l = Turn l.s l.n l.initial.rows l.rows l.k
