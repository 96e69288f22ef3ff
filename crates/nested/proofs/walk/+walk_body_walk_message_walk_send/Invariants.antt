-- `nested::walk::+walk_body_walk_message_walk_send` meets its contract. Assumes nothing.
use Prim.Native.Nat.{◌+◌, ◌*◌}
use Rattle.nested.proofs.WalkLaws.{Turn}
use Rattle.nested.proofs.walk.+walk_body_walk_message_walk_send.Given as goal

abbrev pub decreases-walk_body : goal.decreases-walk_body
decreases-walk_body l = 2 * l.left + 1

abbrev pub decreases-walk_message : goal.decreases-walk_message
decreases-walk_message l = 2 * l.left

abbrev pub decreases-walk_send : goal.decreases-walk_send
decreases-walk_send l = 2 * l.left + 1

abbrev pub invariant-walk_body-loop-k : goal.invariant-walk_body-loop-k
invariant-walk_body-loop-k l = Turn l.s l.left l.n l.k l.at l.next l.initial.rows l.rows
