-- `path_sizes::path_size` meets its contract. Assumes nothing.
use Rattle.epath_sizes.proofs.PathLaws.{Summing}
use Rattle.path_sizes.proofs.path_size.Given as goal

abbrev pub invariant-loop-slot : goal.invariant-loop-slot
invariant-loop-slot l = Summing l.pool l.fn.p l.total l.slot-index
