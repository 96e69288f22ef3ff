-- `c_path_reads::read_rows` meets its contract. Assumes nothing.
use Rattle.c_path_reads.proofs.ReadLaws.{Reading}
use Rattle.c_path_reads.proofs.read_rows.Given as goal

abbrev pub invariant-loop-i : goal.invariant-loop-i
invariant-loop-i l = Reading l.path l.initial.rows l.rows l.count l.at l.i
