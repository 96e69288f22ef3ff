-- `epath_read::read_path` meets its contract. Assumes nothing.
use Rattle.epath_read.proofs.FillLaws.{Filling}
use Prim.Native.Nat.{◌-◌}
use Rattle.epath_sizes.specs.Limits.{max_segments}
use Rattle.epath_read.proofs.read_path.Given as goal

abbrev pub invariant-loop-place : goal.invariant-loop-place
invariant-loop-place l = Filling l.s l.slots l.count l.place

abbrev pub decreases-loop-place : goal.decreases-loop-place
decreases-loop-place l = max_segments - l.count
