-- `c_paths::write::put_rows` meets its contract. Assumes nothing.
--: * = search (filing_laws, rules) fits 5000
use Rattle.c_paths.proofs.PathLaws.{filing_laws}
use Rattle.std.proofs.Common.{rules}
use Rattle.c_paths.proofs.write.put_rows.Goals as goal

pub loop-i-init : goal.loop-i-init
loop-i-init c = search (filing_laws, rules) fits 5000

pub put_row-at-requires : goal.put_row-at-requires
put_row-at-requires c = search (filing_laws, rules) fits 5000

pub overflow_add-at : goal.overflow_add-at
overflow_add-at c = search (filing_laws, rules) fits 5000

pub loop-i-preserved : goal.loop-i-preserved
loop-i-preserved c = search (filing_laws, rules) fits 5000

pub returns : goal.returns
returns c = search (filing_laws, rules) fits 5000
