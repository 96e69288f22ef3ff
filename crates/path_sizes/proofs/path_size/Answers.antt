-- `path_sizes::path_size` meets its contract. Assumes nothing.
use Rattle.epath_sizes.proofs.PathLaws.{summing_more}
use Rattle.path_sizes.proofs.path_size.Goals as goal

pub loop-slot-preserved : goal.loop-slot-preserved
loop-slot-preserved c = search (summing_more, c.in_ok-total.ensures)
