-- `open_encode::open::write_forward_open` meets its contract. Assumes nothing.
--: * = search (writer_laws, ready_laws, length_laws, c.in_ok-size.was, rules) fits 5000
use Rattle.wire.proofs.Answers.{writer_laws}
use Rattle.open_sizes.proofs.SizeLaws.{ready_laws, length_laws}
use Rattle.std.proofs.Common.{rules}
use Rattle.open_encode.proofs.open.write_forward_open.Goals as goal

pub returns-then-out-size-clause-answer : goal.returns-then-out-size-clause-answer
returns-then-out-size-clause-answer c = search (writer_laws, ready_laws, length_laws, c.in_ok-size.was, rules) fits 5000

pub returns-then-out-size-clause-bytes : goal.returns-then-out-size-clause-bytes
returns-then-out-size-clause-bytes c = search (writer_laws, ready_laws, length_laws, c.in_ok-size.was, rules) fits 5000

pub put_open-requires : goal.put_open-requires
put_open-requires c = search (writer_laws, ready_laws, length_laws, c.in_ok-size.was, rules) fits 5000

pub returns-clause-answer : goal.returns-clause-answer
returns-clause-answer c = search (writer_laws, ready_laws, length_laws, c.in_ok-size.was, rules) fits 5000

pub returns-clause-bytes : goal.returns-clause-bytes
returns-clause-bytes c = search (writer_laws, ready_laws, length_laws, c.in_ok-size.was, rules) fits 5000
