-- `message_read::message::read_message` meets its contract. Assumes nothing.
--: * = search (message_laws, c.in_ok-len.was, c.in_ok-path_at.was, rules) fits 5000
use Rattle.message_read.proofs.ReadLaws.{message_laws}
use Rattle.std.proofs.Common.{rules, ◌≡◌, ap, ◌∙◌, Err}
use Rattle.wire.specs.Answers.{paper}
use Rattle.message_read.proofs.message.read_message.Goals as goal

pub path_at-requires : goal.path_at-requires
path_at-requires c = search (message_laws, c.in_ok-len.was, rules) fits 5000

pub returns-in_err-path_at : goal.returns-in_err-path_at
returns-in_err-path_at c =
    let z : c.from_residual-in_err-path_at.result ≡ Err c.in_err-path_at.field-0.0 = search rules in
    ap paper z ∙ search (message_laws, c.in_ok-len.was, c.in_err-path_at.was, rules) fits 5000

pub message_at-requires : goal.message_at-requires
message_at-requires c = search (message_laws, c.in_ok-len.was, c.in_ok-path_at.was, rules) fits 5000

pub returns : goal.returns
returns c = search (message_laws, c.in_ok-len.was, c.in_ok-path_at.was, rules) fits 5000
