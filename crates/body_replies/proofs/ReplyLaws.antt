-- Each end of the functions that read a reply of a body, as a law with plain conditions. Assumes nothing.
use Prim.Native.Nat.{ℕ, ◌≤◌}
use mathlib.Core.Path.{◌≡◌, refl, sym, ap, ◌∙◌}
use mathlib.Core.List.{List}
use native.Mathlib.Omega.{arith}
use Rattle.wire.specs.Parts.{part}
use Rattle.wire.specs.Answers.{Answer, done, refused, and_then}
use Rattle.wire.proofs.Rules.{then_stops, then_goes}
use Rattle.connection.specs.Limits.{max_record}
use Rattle.reply_header.specs.Headers.{read_header}
use Rattle.reply_header.specs.declared.MessageReply.{MessageReply}
use Rattle.reply_header.proofs.HeaderLaws.{Header, header_was}
use Rattle.body_items.specs.declared.Item.{Item}
use Rattle.body_items.specs.Items.{walk_item, body_item}
use Rattle.body_items.proofs.ItemLaws.{walk_inside, item_inside}
use Rattle.body_replies.specs.Replies.{shifted_reply, reply_in}

-- ---- the header of an item's bytes
module _ (s : List ℕ) (i : Item) (p : List ℕ) (part-is : p ≡ part s i.start i.len) where
  pub in_refused : (e : ℕ) → refused e ≡ read_header p → refused e ≡ reply_in s i
  in_refused e h = then_stops _ _ e (ap read_header (sym part-is) ∙ sym h)

  pub in_found : (m : MessageReply) → done m ≡ read_header p → done (shifted_reply i.start m) ≡ reply_in s i
  in_found m h = then_goes _ _ m (done (shifted_reply i.start m)) (ap read_header (sym part-is) ∙ sym h) refl

-- a header's data starts inside what it was read from
pub in_small : (p : List ℕ) (m : MessageReply) → done m ≡ read_header p → m.data_start ≤ max_record
in_small p m h =
    let v : Header p m = header_was p m (sym h) in
    omega (arith, v.small, v.inside, ap (λ (x : MessageReply). x.data_start) v.is)

pub ruleset in_laws = (in_refused, in_found, in_small)

-- ---- an item of a walk or of a body, whichever was asked
pub item_refused : (s : List ℕ) (x : Answer Item) (e : ℕ) → refused e ≡ x → refused e ≡ and_then x (reply_in s)
item_refused s x e h = then_stops _ _ e (sym h)

pub item_read : (s : List ℕ) (x : Answer Item) (i : Item) (y : Answer MessageReply) → done i ≡ x → y ≡ reply_in s i → y ≡ and_then x (reply_in s)
item_read s x i y h e = then_goes _ _ i y (sym h) e

-- each starts inside a body of at most the limit
pub walk_within : (s : List ℕ) (n k : ℕ) (i : Item) → done i ≡ walk_item s n k → i.start ≤ max_record
walk_within s n k i h = walk_inside s n k i (sym h)

pub item_within : (s : List ℕ) (k : ℕ) (i : Item) → done i ≡ body_item s k → i.start ≤ max_record
item_within s k i h = item_inside s k i (sym h)

pub ruleset item_laws = (item_refused, item_read, walk_within, item_within)
