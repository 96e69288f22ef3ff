-- `send_encode::put_send` meets its contract. Assumes nothing.
--: * = search (put_laws, send_put, rules) fits 5000
use Rattle.route.proofs.RouteLaws.{put_laws}
use Rattle.send_encode.proofs.WriteLaws.{send_put}
use Rattle.std.proofs.Common.{rules}
use Rattle.send_encode.proofs.put_send.Goals as goal

pub unwrap-n-requires : goal.unwrap-n-requires
unwrap-n-requires c = search (put_laws, send_put, rules) fits 5000

pub overflow_cast-n : goal.overflow_cast-n
overflow_cast-n c = search (put_laws, send_put, rules) fits 5000

pub returns : goal.returns
returns c = search (put_laws, send_put, rules) fits 5000
