-- `dump_text::put_lines` meets its contract. Assumes nothing.
--: * = search (lines_laws, rules) fits 5000
use Rattle.dump_text.proofs.TextLaws.{lines_laws}
use Rattle.std.proofs.Common.{rules}
use Rattle.dump_text.proofs.put_lines.Goals as goal

pub loop-k-preserved : goal.loop-k-preserved
loop-k-preserved c = search (lines_laws, rules) fits 5000

pub returns : goal.returns
returns c = search (lines_laws, rules) fits 5000
