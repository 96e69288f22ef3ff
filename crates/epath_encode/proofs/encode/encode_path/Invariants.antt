-- `epath_encode::encode::encode_path` meets its contract. Assumes nothing.
use Rattle.epath_encode.proofs.FileLaws.{Filing}
use Rattle.epath_encode.proofs.encode.encode_path.Given as goal

abbrev pub invariant-loop-slot : goal.invariant-loop-slot
invariant-loop-slot l = Filing l.pool l.fn.p l.initial.out l.out l.at l.slot-index
