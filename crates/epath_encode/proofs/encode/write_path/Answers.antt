-- `epath_encode::encode::write_path` meets its contract. Assumes nothing.
use Rattle.epath_encode.proofs.WriteLaws.{short_answer, short_bytes, enough_answer}
use Rattle.epath_encode.proofs.encode.write_path.Goals as goal

pub returns-then-out-size-clause-answer : goal.returns-then-out-size-clause-answer
returns-then-out-size-clause-answer c = search (short_answer, c.in_ok-size.ensures)

pub returns-then-out-size-clause-bytes : goal.returns-then-out-size-clause-bytes
returns-then-out-size-clause-bytes c = search (short_bytes, c.in_ok-size.ensures)

pub returns-clause-answer : goal.returns-clause-answer
returns-clause-answer c = search (enough_answer, c.in_ok-size.ensures)
