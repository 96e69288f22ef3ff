-- `open_sizes::forward_open_size` meets its contract. Assumes nothing.
--: * = search (front_fits, open_short, c.in_ok-front.ensures, c.in_ok-n.ensures, rules) fits 5000
use Rattle.open_sizes.proofs.SizeLaws.{front_fits, open_short}
use Rattle.std.proofs.Common.{rules}
use Rattle.open_sizes.proofs.forward_open_size.Goals as goal

pub overflow_add-result : goal.overflow_add-result
overflow_add-result c = search (front_fits, open_short, c.in_ok-front.ensures, c.in_ok-n.ensures, rules) fits 5000
