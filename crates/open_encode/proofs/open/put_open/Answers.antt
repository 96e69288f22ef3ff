-- `open_encode::open::put_open` meets its contract. Assumes nothing.
--: * = search (put_laws, open_laws, rules) fits 5000
use Rattle.route.proofs.RouteLaws.{put_laws}
use Rattle.open_encode.proofs.WriteLaws.{open_laws}
use Rattle.std.proofs.Common.{rules}
use Rattle.open_encode.proofs.open.put_open.Goals as goal

pub unwrap-n-requires : goal.unwrap-n-requires
unwrap-n-requires c = search (put_laws, open_laws, rules) fits 5000

pub overflow_cast-n : goal.overflow_cast-n
overflow_cast-n c = search (put_laws, open_laws, rules) fits 5000

pub returns : goal.returns
returns c = search (put_laws, open_laws, rules) fits 5000
