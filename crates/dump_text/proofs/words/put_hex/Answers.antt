-- `dump_text::words::put_hex` meets its contract. Assumes nothing.
--: * = search (hex_placed, rules) fits 5000
use Rattle.dump_text.proofs.WordLaws.{hex_placed}
use Rattle.std.proofs.Common.{rules}
use Rattle.dump_text.proofs.words.put_hex.Goals as goal

pub returns : goal.returns
returns c = search (hex_placed, rules) fits 5000
