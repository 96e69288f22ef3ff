-- `transport_words::fields::transport_of` meets its contract. Assumes nothing.
use Prim.Native.Nat.{ℕ}
use Rattle.connection_words.proofs.FieldLaws.{field_laws}
use Rattle.std.proofs.Common.{rules}
use Rattle.transport_words.proofs.fields.transport_of.Goals as goal

pub returns-in_err-class : goal.returns-in_err-class
returns-in_err-class c = search (field_laws, c.in_ok-trigger.ensures, c.in_err-class.ensures, rules) fits 5000

pub returns : goal.returns
returns c = search (field_laws, c.in_ok-trigger.ensures, c.in_ok-class.ensures, rules) fits 5000
