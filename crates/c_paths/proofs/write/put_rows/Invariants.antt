-- `c_paths::write::put_rows` meets its contract. Assumes nothing.
use Rattle.c_paths.proofs.PathLaws.{Filing}
use Rattle.c_paths.proofs.write.put_rows.Given as goal

abbrev pub invariant-loop-i : goal.invariant-loop-i
invariant-loop-i l = Filing l.pool l.segments l.initial.out l.out l.at l.i
