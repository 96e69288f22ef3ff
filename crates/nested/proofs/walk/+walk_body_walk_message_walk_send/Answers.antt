-- `nested::walk::+walk_body_walk_message_walk_send` meets its contract. Assumes nothing.
use Rattle.nested.proofs.WalkLaws.{message_laws, send_laws, body_laws, turn_goes}
use Rattle.std.proofs.Common.{rules, ◌≡◌}
use Rattle.std.specs.Prelude.{Err}
use Rattle.nested.proofs.walk.+walk_body_walk_message_walk_send.Goals as goal

pub walk_body-returns-in_err-n : goal.walk_body-returns-in_err-n
walk_body-returns-in_err-n t c = let f : c.from_residual.result ≡ Err c.in_err-n.field-0.0 = search rules in search (body_laws, f, c.in_err-n.ensures)

pub walk_body-loop-k-init : goal.walk_body-loop-k-init
walk_body-loop-k-init t c = search (body_laws, c.in_ok-n.ensures)

pub walk_body-returns-in_err-next : goal.walk_body-returns-in_err-next
walk_body-returns-in_err-next t c = let f : c.from_residual-in_err-next.result ≡ Err c.in_err-next.field-0.0 = search rules in search (body_laws, c.loop-k.invariant, c.item_of.ensures, c.walk_message.ensures, c.in_err-next.was, f)

pub walk_body-loop-k-preserved : goal.walk_body-loop-k-preserved
walk_body-loop-k-preserved t c = turn_goes _ _ _ _ _ _ _ _ c.loop-k.invariant c.loop-k-test.true _ c.item_of.ensures _ _ c.walk_message.ensures _ c.in_ok-next.was

pub walk_body-returns : goal.walk_body-returns
walk_body-returns t c = search (body_laws, rules) fits 5000

pub walk_message-returns-then-left-eq0 : goal.walk_message-returns-then-left-eq0
walk_message-returns-then-left-eq0 t c = search (message_laws, rules) fits 5000

pub walk_message-returns-in_err-m : goal.walk_message-returns-in_err-m
walk_message-returns-in_err-m t c = let f : c.from_residual.result ≡ Err c.in_err-m.field-0.0 = search rules in search (message_laws, f, c.in_err-m.ensures)

pub walk_message-put_row-requires : goal.walk_message-put_row-requires
walk_message-put_row-requires t c = search (message_laws, c.in_ok-m.ensures, rules) fits 5000

pub walk_message-walk_body-requires : goal.walk_message-walk_body-requires
walk_message-walk_body-requires t c = search (message_laws, c.in_ok-m.ensures, rules) fits 5000

pub walk_message-walk_send-requires : goal.walk_message-walk_send-requires
walk_message-walk_send-requires t c = search (message_laws, c.in_ok-m.ensures, rules) fits 5000

pub walk_message-returns-in-Packet : goal.walk_message-returns-in-Packet
walk_message-returns-in-Packet t c = search (message_laws, c.in_ok-m.ensures, rules) fits 5000

pub walk_message-returns-in-Send : goal.walk_message-returns-in-Send
walk_message-returns-in-Send t c = search (message_laws, c.in_ok-m.ensures, rules) fits 5000

pub walk_message-returns-in-Plain : goal.walk_message-returns-in-Plain
walk_message-returns-in-Plain t c = search (message_laws, c.in_ok-m.ensures, rules) fits 5000

pub walk_send-returns-in_err-send : goal.walk_send-returns-in_err-send
walk_send-returns-in_err-send t c = let f : c.from_residual.result ≡ Err c.in_err-send.field-0.0 = search rules in search (send_laws, f, c.in_err-send.ensures)

pub walk_send-walk_message-requires : goal.walk_send-walk_message-requires
walk_send-walk_message-requires t c = search (send_laws, c.in_ok-send.ensures, rules) fits 5000

pub walk_send-returns : goal.walk_send-returns
walk_send-returns t c = search (send_laws, c.in_ok-send.ensures, rules) fits 5000
