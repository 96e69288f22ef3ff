-- `body_sizes::items_size` meets its contract. Assumes nothing.
use Rattle.body_sizes.proofs.SizeLaws.{Judging}
use Rattle.body_sizes.proofs.items_size.Given as goal

abbrev pub invariant-loop-n : goal.invariant-loop-n
invariant-loop-n l = Judging l.lent l.lengths l.left l.n-index
