-- `message_over::write_message_over` meets its contract. Assumes nothing.
--: * = search (writer_laws, over_laws, c.in_ok-size.was, rules) fits 5000
use Rattle.wire.proofs.Answers.{writer_laws}
use Rattle.message_over.proofs.OverLaws.{over_laws}
use Rattle.std.proofs.Common.{rules}
use Rattle.message_over.proofs.write_message_over.Goals as goal

pub returns-then-out-size-clause-answer : goal.returns-then-out-size-clause-answer
returns-then-out-size-clause-answer c = search (writer_laws, over_laws, c.in_ok-size.was, rules) fits 5000

pub returns-then-out-size-clause-bytes : goal.returns-then-out-size-clause-bytes
returns-then-out-size-clause-bytes c = search (writer_laws, over_laws, c.in_ok-size.was, rules) fits 5000

pub put_message_over-requires : goal.put_message_over-requires
put_message_over-requires c = search (writer_laws, over_laws, c.in_ok-size.was, rules) fits 5000

pub returns-clause-answer : goal.returns-clause-answer
returns-clause-answer c = search (writer_laws, over_laws, c.in_ok-size.was, rules) fits 5000

pub returns-clause-bytes : goal.returns-clause-bytes
returns-clause-bytes c = search (writer_laws, over_laws, c.in_ok-size.was, rules) fits 5000
