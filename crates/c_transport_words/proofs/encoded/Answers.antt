-- `c_transport_words::encoded` meets its contract. Assumes nothing.
--: * = search (transport_laws, c.in_ok-trigger.ensures, c.in_ok-class.ensures, rules) fits 5000
use Rattle.c_transport_words.proofs.Laws.{transport_laws}
use Rattle.std.proofs.Common.{rules}
use Rattle.c_transport_words.proofs.encoded.Goals as goal

pub returns : goal.returns
returns c = search (transport_laws, c.in_ok-trigger.ensures, c.in_ok-class.ensures, rules) fits 5000
