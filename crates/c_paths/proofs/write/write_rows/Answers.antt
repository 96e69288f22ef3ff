-- `c_paths::write::write_rows` meets its contract. Assumes nothing.
use Rattle.epath_encode.proofs.WriteLaws.{short_answer, short_bytes, enough_answer}
use Rattle.c_paths.proofs.PathLaws.{rows_ready}
use Rattle.c_paths.proofs.write.write_rows.Goals as goal

pub returns-then-out-n-clause-answer : goal.returns-then-out-n-clause-answer
returns-then-out-n-clause-answer c = search (short_answer, c.in_ok-n.ensures)

pub returns-then-out-n-clause-bytes : goal.returns-then-out-n-clause-bytes
returns-then-out-n-clause-bytes c = search (short_bytes, c.in_ok-n.ensures)

pub put_rows-requires : goal.put_rows-requires
put_rows-requires c = search (rows_ready, c.in_ok-n.ensures)

pub returns-clause-answer : goal.returns-clause-answer
returns-clause-answer c = search (enough_answer, c.in_ok-n.ensures)
