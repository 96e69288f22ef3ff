-- `body_read::judge_later` meets its contract. Assumes nothing.
use Prim.Native.Nat.{◌-◌}
use Rattle.body_read.proofs.ReadLaws.{Reading}
use Rattle.body_read.proofs.judge_later.Given as goal

abbrev pub invariant-loop-k : goal.invariant-loop-k
invariant-loop-k l = Reading l.s l.n l.last l.k

abbrev pub decreases-loop-k : goal.decreases-loop-k
decreases-loop-k l = l.n - l.k
