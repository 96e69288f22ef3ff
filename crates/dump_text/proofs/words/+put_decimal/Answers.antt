-- `dump_text::words::+put_decimal` meets its contract. Assumes nothing.
--: * = search (word_laws, rules) fits 5000
use Rattle.dump_text.proofs.WordLaws.{word_laws}
use Rattle.std.proofs.Common.{rules}
use Rattle.dump_text.proofs.words.+put_decimal.Goals as goal

pub returns-then-v-lt10 : goal.returns-then-v-lt10
returns-then-v-lt10 t c = search (word_laws, rules) fits 5000

pub overflow_add-result-2 : goal.overflow_add-result-2
overflow_add-result-2 t c = search (word_laws, rules) fits 5000

pub returns : goal.returns
returns t c = search (word_laws, rules) fits 5000
