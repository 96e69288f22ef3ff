-- `wire_write::copy` meets its contract. Assumes nothing.
--: * = search (copy_laws, rules) fits 5000
use Rattle.wire.proofs.Stores.{copy_laws}
use Rattle.std.proofs.Common.{rules}
use Rattle.wire_write.proofs.copy.Goals as goal

pub loop-i-preserved : goal.loop-i-preserved
loop-i-preserved c = search (copy_laws, rules) fits 5000
