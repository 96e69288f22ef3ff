-- `epath_check::check_path` meets its contract. Assumes nothing.
use Rattle.epath_check.proofs.Walks.{Counting}
use Prim.Native.Nat.{◌-◌}
use Rattle.epath_sizes.specs.Limits.{max_segments}
use Rattle.epath_check.proofs.check_path.Given as goal

abbrev pub invariant-loop-at : goal.invariant-loop-at
invariant-loop-at l = Counting l.s l.seen l.at

abbrev pub decreases-loop-at : goal.decreases-loop-at
decreases-loop-at l = max_segments - l.seen
