-- `message_encode::put_message` meets its contract. Assumes nothing.
--: * = search (put_laws, message_put, rules) fits 5000
use Rattle.route.proofs.RouteLaws.{put_laws}
use Rattle.message_encode.proofs.WriteLaws.{message_put}
use Rattle.std.proofs.Common.{rules}
use Rattle.message_encode.proofs.put_message.Goals as goal

pub unwrap-n-requires : goal.unwrap-n-requires
unwrap-n-requires c = search (put_laws, message_put, rules) fits 5000

pub overflow_cast-n : goal.overflow_cast-n
overflow_cast-n c = search (put_laws, message_put, rules) fits 5000

pub overflow_add-n : goal.overflow_add-n
overflow_add-n c = search (put_laws, message_put, rules) fits 5000

pub returns : goal.returns
returns c = search (put_laws, message_put, rules) fits 5000
