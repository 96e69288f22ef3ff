-- `dump_text::put_lines` meets its contract. Assumes nothing.
use Rattle.dump_text.proofs.TextLaws.{Lines}
use Rattle.dump_text.proofs.put_lines.Given as goal

abbrev pub invariant-loop-k : goal.invariant-loop-k
invariant-loop-k l = Lines l.rows l.n l.k l.at l.initial.out l.out
