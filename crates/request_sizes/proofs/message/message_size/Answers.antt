-- `request_sizes::message::message_size` meets its contract. Assumes nothing.
--: * = search (size_laws, c.in_ok-n.was, rules) fits 5000
use Rattle.request_sizes.proofs.SizeLaws.{size_laws}
use Rattle.std.proofs.Common.{rules}
use Rattle.request_sizes.proofs.message.message_size.Goals as goal

pub returns : goal.returns
returns c = search (size_laws, c.in_ok-n.was, rules) fits 5000
