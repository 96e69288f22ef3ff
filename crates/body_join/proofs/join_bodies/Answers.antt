-- `body_join::join_bodies` meets its contract. Assumes nothing.
use Rattle.wire.proofs.Answers.{writer_laws}
use Rattle.body_join.proofs.JoinLaws.{join_laws}
use Rattle.body_join.proofs.join_bodies.Goals as goal

pub returns-then-out-size-clause-answer : goal.returns-then-out-size-clause-answer
returns-then-out-size-clause-answer c = search (writer_laws, c.join_size.ensures, c.in_ok-size.was)

pub returns-then-out-size-clause-bytes : goal.returns-then-out-size-clause-bytes
returns-then-out-size-clause-bytes c = search (writer_laws, c.join_size.ensures, c.in_ok-size.was)

pub returns-clause-answer : goal.returns-clause-answer
returns-clause-answer c = search (writer_laws, c.join_size.ensures, c.in_ok-size.was)

pub returns-clause-bytes : goal.returns-clause-bytes
returns-clause-bytes c = search (writer_laws, join_laws, c.join_size.ensures, c.in_ok-size.was, c.in_ok-size.ensures)
