-- `epath_encode::encode::encode_path` meets its contract. Assumes nothing.
--: * = search (filing_laws, rules) fits 5000
use Rattle.std.proofs.Common.{rules}
use Rattle.epath_encode.proofs.FileLaws.{filing_laws}
use Rattle.epath_encode.proofs.encode.encode_path.Goals as goal

pub loop-slot-preserved : goal.loop-slot-preserved
loop-slot-preserved c = search (filing_laws, rules) fits 5000
