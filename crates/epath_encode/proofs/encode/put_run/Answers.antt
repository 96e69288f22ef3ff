-- `epath_encode::encode::put_run` meets its contract. Assumes nothing.
--: * = search (run_laws, rules) fits 5000
use Rattle.std.proofs.Common.{rules}
use Rattle.epath_encode.proofs.WriteLaws.{run_laws}
use Rattle.epath_encode.proofs.encode.put_run.Goals as goal

pub loop-i-preserved : goal.loop-i-preserved
loop-i-preserved c = search (run_laws, rules) fits 5000
