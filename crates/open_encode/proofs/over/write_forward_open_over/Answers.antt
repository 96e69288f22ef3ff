-- `open_encode::over::write_forward_open_over` meets its contract. Assumes nothing.
--: * = search (writer_laws, judged_laws, c.in_ok-size.was, rules) fits 5000
use Rattle.wire.proofs.Answers.{writer_laws}
use Rattle.open_encode.proofs.OverLaws.{judged_laws}
use Rattle.std.proofs.Common.{rules}
use Rattle.open_encode.proofs.over.write_forward_open_over.Goals as goal

pub returns-then-out-size-clause-answer : goal.returns-then-out-size-clause-answer
returns-then-out-size-clause-answer c = search (writer_laws, judged_laws, c.in_ok-size.was, rules) fits 5000

pub returns-then-out-size-clause-bytes : goal.returns-then-out-size-clause-bytes
returns-then-out-size-clause-bytes c = search (writer_laws, judged_laws, c.in_ok-size.was, rules) fits 5000

pub put_open_over-requires : goal.put_open_over-requires
put_open_over-requires c = search (writer_laws, judged_laws, c.in_ok-size.was, rules) fits 5000

pub returns-clause-answer : goal.returns-clause-answer
returns-clause-answer c = search (writer_laws, judged_laws, c.in_ok-size.was, rules) fits 5000

pub returns-clause-bytes : goal.returns-clause-bytes
returns-clause-bytes c = search (writer_laws, judged_laws, c.in_ok-size.was, rules) fits 5000
