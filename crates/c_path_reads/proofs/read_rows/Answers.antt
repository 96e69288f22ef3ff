-- `c_path_reads::read_rows` meets its contract. Assumes nothing.
--: * = search (reading_laws, rules) fits 5000
use Rattle.c_path_reads.proofs.ReadLaws.{reading_laws}
use Rattle.std.proofs.Common.{rules}
use Rattle.c_path_reads.proofs.read_rows.Goals as goal

pub read_row-at-requires : goal.read_row-at-requires
read_row-at-requires c = search (reading_laws, rules) fits 5000

pub returns : goal.returns
returns c = search (reading_laws, rules) fits 5000
