-- `dump_text::write_by` meets its contract. Assumes nothing.
--: * = search (dump_laws, rules) fits 5000
use Rattle.dump_text.proofs.TextLaws.{dump_laws}
use Rattle.std.proofs.Common.{rules}
use Rattle.dump_text.proofs.write_by.Goals as goal

pub put_text-size-requires : goal.put_text-size-requires
put_text-size-requires c = search (dump_laws, rules) fits 5000

pub returns-then-out-size-clause-result_value : goal.returns-then-out-size-clause-result_value
returns-then-out-size-clause-result_value c = search (dump_laws, rules) fits 5000

pub returns-then-out-size-clause-out_after : goal.returns-then-out-size-clause-out_after
returns-then-out-size-clause-out_after c = search (dump_laws, rules) fits 5000

pub put_text-requires : goal.put_text-requires
put_text-requires c = search (dump_laws, rules) fits 5000

pub returns-clause-result_value : goal.returns-clause-result_value
returns-clause-result_value c = search (dump_laws, rules) fits 5000

pub returns-clause-out_after : goal.returns-clause-out_after
returns-clause-out_after c = search (dump_laws, rules) fits 5000
