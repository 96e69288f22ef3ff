-- `body_encode::put_offsets` meets its contract. Assumes nothing.
use Rattle.body_encode.proofs.WriteLaws.{Placing}
use Rattle.body_encode.proofs.put_offsets.Given as goal

abbrev pub invariant-loop-i : goal.invariant-loop-i
invariant-loop-i l = Placing l.lengths l.initial.out l.out l.at l.i
