-- `dump_text::words::put_word` meets its contract. Assumes nothing.
--: * = search (word_laws, rules) fits 5000
use Rattle.dump_text.proofs.WordLaws.{word_laws}
use Rattle.std.proofs.Common.{rules}
use Rattle.dump_text.proofs.words.put_word.Goals as goal

pub overflow_add-result : goal.overflow_add-result
overflow_add-result c = search (word_laws, rules) fits 5000

pub returns : goal.returns
returns c = search (word_laws, rules) fits 5000
