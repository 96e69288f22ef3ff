-- `epath_encode::encode::put_run` meets its contract. Assumes nothing.
use Rattle.wire.proofs.Stores.{Copying}
use Rattle.epath_encode.proofs.encode.put_run.Given as goal

abbrev pub invariant-loop-i : goal.invariant-loop-i
invariant-loop-i l = Copying l.initial.out l.at l.src l.n l.out l.i
