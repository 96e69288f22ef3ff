-- `request_sizes::send::unconnected_send_size` meets its contract. Assumes nothing.
--: * = search (size_laws, c.in_ok-n.was, rules) fits 5000
use Rattle.request_sizes.proofs.SizeLaws.{size_laws}
use Rattle.std.proofs.Common.{rules}
use Rattle.request_sizes.proofs.send.unconnected_send_size.Goals as goal

pub record_size-requires : goal.record_size-requires
record_size-requires c = search (size_laws, c.in_ok-n.was, rules) fits 5000

pub returns : goal.returns
returns c = search (size_laws, c.in_ok-n.was, rules) fits 5000
