-- `message_read::route::padded_route_at` meets its contract. Assumes nothing.
--: * = search (path_laws, c.in_ok-len.was, rules) fits 5000
use Rattle.message_read.proofs.ReadLaws.{path_laws, padded_short}
use Rattle.std.proofs.Common.{rules, ◌≡◌, ◌+◌, ◌≤◌, ◌<◌, length, get_or}
use Rattle.message_read.proofs.route.padded_route_at.Goals as goal

pub returns-in_default : goal.returns-in_default
returns-in_default c =
    let f : length c.args.s.now ≤ c.args.at + 1 = search rules in
    padded_short c.args.s.now c.args.at c.path_size.result c.path_size.ensures c.in_ok-len.len c.in_ok-len.was f

pub returns-then-reserved-ne0 : goal.returns-then-reserved-ne0
returns-then-reserved-ne0 c =
    let f : c.in-Some.field-0.now ≡ get_or c.args.s.now (c.args.at + 1) 0 = search rules in
    let g : c.args.at + 1 < length c.args.s.now = search rules in
    search (path_laws, c.in_ok-len.was, rules) fits 5000
