-- `wire_write::copy` meets its contract. Assumes nothing.
use Rattle.wire.proofs.Stores.{Copying}
use Rattle.wire_write.proofs.copy.Given as goal

abbrev pub invariant-loop-i : goal.invariant-loop-i
invariant-loop-i l = Copying l.initial.out l.at l.src l.n l.out l.i
