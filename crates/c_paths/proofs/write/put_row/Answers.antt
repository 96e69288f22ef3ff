-- `c_paths::write::put_row` meets its contract. Assumes nothing.
--: * = search (ready_laws, rules) fits 5000
use Rattle.c_paths.proofs.PathLaws.{ready_laws}
use Rattle.std.proofs.Common.{rules}
use Rattle.c_paths.proofs.write.put_row.Goals as goal

pub segment_of-requires : goal.segment_of-requires
segment_of-requires c = search (ready_laws, rules) fits 5000

pub unreachable-requires : goal.unreachable-requires
unreachable-requires c = search (ready_laws, rules) fits 5000

pub returns : goal.returns
returns c = search (ready_laws, rules) fits 5000
