-- `nested::walk::read_nested` meets its contract. Assumes nothing.
use Rattle.nested.proofs.WalkLaws.{nested_laws}
use Rattle.std.proofs.Common.{rules}
use Rattle.nested.proofs.walk.read_nested.Goals as goal

pub returns-in_err-n-clause-rows_after : goal.returns-in_err-n-clause-rows_after
returns-in_err-n-clause-rows_after c = search (nested_laws, c.walk_message.ensures, c.in_err-n.was, rules) fits 5000

pub returns-then-rows-n-clause-result_value : goal.returns-then-rows-n-clause-result_value
returns-then-rows-n-clause-result_value c = search (nested_laws, c.walk_message.ensures, c.in_ok-n.was, rules) fits 5000

pub returns-then-rows-n-clause-rows_after : goal.returns-then-rows-n-clause-rows_after
returns-then-rows-n-clause-rows_after c = search (nested_laws, c.walk_message.ensures, c.in_ok-n.was, rules) fits 5000

pub returns-clause-result_value : goal.returns-clause-result_value
returns-clause-result_value c = search (nested_laws, c.walk_message.ensures, c.in_ok-n.was, rules) fits 5000

pub returns-clause-rows_after : goal.returns-clause-rows_after
returns-clause-rows_after c = search (nested_laws, c.walk_message.ensures, c.in_ok-n.was, rules) fits 5000
