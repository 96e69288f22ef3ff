-- `body_join::put_raised` meets its contract. Assumes nothing.
use Rattle.body_join.proofs.JoinLaws.{Raising}
use Rattle.body_join.proofs.put_raised.Given as goal

abbrev pub invariant-loop-i : goal.invariant-loop-i
invariant-loop-i l = Raising l.s l.n l.by l.initial.out l.at l.out l.i
