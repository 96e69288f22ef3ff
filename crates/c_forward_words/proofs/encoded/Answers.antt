-- `c_forward_words::encoded` meets its contract. Assumes nothing.
--: * = search (encode_laws, c.in_ok-kind.ensures, c.in_ok-level.ensures, c.in_ok-word.ensures, rules) fits 5000
use Rattle.c_forward_words.proofs.Laws.{encode_laws}
use Rattle.std.proofs.Common.{rules}
use Rattle.c_forward_words.proofs.encoded.Goals as goal

pub returns-in_err-word : goal.returns-in_err-word
returns-in_err-word c = search (encode_laws, c.in_ok-kind.ensures, c.in_ok-level.ensures, c.in_err-word.ensures, rules) fits 5000

pub returns : goal.returns
returns c = search (encode_laws, c.in_ok-kind.ensures, c.in_ok-level.ensures, c.in_ok-word.ensures, rules) fits 5000
