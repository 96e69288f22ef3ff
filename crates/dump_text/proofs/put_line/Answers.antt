-- `dump_text::put_line` meets its contract. Assumes nothing.
--: * = search (line_laws, rules) fits 5000
use Rattle.dump_text.proofs.TextLaws.{line_laws}
use Rattle.std.proofs.Common.{rules}
use Rattle.dump_text.proofs.put_line.Goals as goal

pub put_hex-path-requires : goal.put_hex-path-requires
put_hex-path-requires c = search (line_laws, rules) fits 5000

pub put_word-data-requires : goal.put_word-data-requires
put_word-data-requires c = search (line_laws, rules) fits 5000

pub put_word-requires : goal.put_word-requires
put_word-requires c = search (line_laws, rules) fits 5000

pub returns : goal.returns
returns c = search (line_laws, rules) fits 5000
