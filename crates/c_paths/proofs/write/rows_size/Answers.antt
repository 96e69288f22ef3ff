-- `c_paths::write::rows_size` meets its contract. Assumes nothing.
use Rattle.c_paths.proofs.PathLaws.{summing_more}
use Rattle.c_paths.proofs.write.rows_size.Goals as goal

pub loop-i-preserved : goal.loop-i-preserved
loop-i-preserved c = search (summing_more, c.in_ok-total.ensures)
