-- `nested::walk::item_of` meets its contract. Assumes nothing.
use Rattle.nested.proofs.WalkLaws.{item_laws}
use Rattle.std.proofs.Common.{rules}
use Rattle.nested.proofs.walk.item_of.Goals as goal

pub returns : goal.returns
returns c = search (item_laws, rules) fits 5000
