-- `c_paths::write::rows_size` meets its contract. Assumes nothing.
use Rattle.c_paths.proofs.PathLaws.{Summing}
use Rattle.c_paths.proofs.write.rows_size.Given as goal

abbrev pub invariant-loop-i : goal.invariant-loop-i
invariant-loop-i l = Summing l.pool l.segments l.total l.i
