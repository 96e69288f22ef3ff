-- `message_encode::write_message` meets its contract. Assumes nothing.
--: * = search (writer_laws, ready_laws, length_laws, c.in_ok-size.was, rules) fits 5000
use Rattle.wire.proofs.Answers.{writer_laws}
use Rattle.request_sizes.proofs.SizeLaws.{ready_laws, length_laws}
use Rattle.std.proofs.Common.{rules}
use Rattle.message_encode.proofs.write_message.Goals as goal

pub returns-then-out-size-clause-answer : goal.returns-then-out-size-clause-answer
returns-then-out-size-clause-answer c = search (writer_laws, ready_laws, length_laws, c.in_ok-size.was, rules) fits 5000

pub returns-then-out-size-clause-bytes : goal.returns-then-out-size-clause-bytes
returns-then-out-size-clause-bytes c = search (writer_laws, ready_laws, length_laws, c.in_ok-size.was, rules) fits 5000

pub put_message-requires : goal.put_message-requires
put_message-requires c = search (writer_laws, ready_laws, length_laws, c.in_ok-size.was, rules) fits 5000

pub returns-clause-answer : goal.returns-clause-answer
returns-clause-answer c = search (writer_laws, ready_laws, length_laws, c.in_ok-size.was, rules) fits 5000

pub returns-clause-bytes : goal.returns-clause-bytes
returns-clause-bytes c = search (writer_laws, ready_laws, length_laws, c.in_ok-size.was, rules) fits 5000
