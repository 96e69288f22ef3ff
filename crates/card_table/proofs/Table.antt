-- The marked cards, proved together: one test over the table, which is computed, and one law that makes of it each card's truth. Assumes nothing.
use Prim.Native.Nat.{ℕ, zero, suc, ◌<◌}
use mathlib.Core.Path.{◌≡◌, refl, sym, ap}
use mathlib.Core.Bool.{Bool, true, false, true≢false}
use mathlib.Core.List.{List, [], ◌∷◌}
use native.Mathlib.Nat.{le_of_suc-le-suc, not-suc-le-zero}
use lib.ListN.{length, get_or}
use borrow.Author.Tests.{eqb-true}
use Rattle.wire.specs.Choice.{same_bytes}
use Rattle.wire.proofs.Choice.{same_true}
use Rattle.wire.specs.Numbers.{value_of}
use Rattle.wire.specs.Answers.{Answer, done, refused, breaks, judged}
use Rattle.epath_sizes.specs.Segments.{padded}
use Rattle.epath_sizes.specs.Sizes.{segment_size}
use Rattle.epath_segment.specs.Reads.{form_of, form_in, read_wide, read_seg}
use Rattle.epath_check.specs.Paths.{walk, check_path}
use Rattle.reply_header.specs.Headers.{read_header}
use Rattle.body_sizes.specs.Bodies.{body_of}
use Rattle.body_read.specs.Reads.{read_body}
use Rattle.body_items.specs.Items.{items_of}
use Rattle.body_join.specs.Joins.{join_of, join_size}
use Rattle.card_table.specs.Cards.{Card, promised, cards, same_answer, right}

-- ---- a test over a table, and what it says of each entry

abbrev both : Bool → Bool → Bool
both true b = b
both false b = false

abbrev every : List Card → Bool
every [] = true
every (c ∷ cs) = both (right c) (every cs)

same_answer_lem : (x y : Answer (List ℕ)) → same_answer x y ≡ true → x ≡ y
same_answer_lem (done a) (done b) h = ap done (same_true a b h)
same_answer_lem (done a) (refused k) h = absurd (true≢false (sym h))
same_answer_lem (refused k) (done b) h = absurd (true≢false (sym h))
same_answer_lem (refused k) (refused l) h = ap refused (eqb-true k l h)

-- a card is true
abbrev True : Card → Type 0
True c = promised c.asked ≡ c.answer

-- each card of any table that passes is
each : (cs : List Card) (none : Card) → every cs ≡ true → (k : ℕ) → k < length cs → True (get_or cs k none)
each [] none h k l = absurd (not-suc-le-zero l)
each (c ∷ cs) none h k l = go (right c) refl (λ (g : every cs ≡ true) (n : ℕ) (m : n < length cs). each cs none g n m) h k l
  where
    go : (t : Bool) → right c ≡ t → (every cs ≡ true → (n : ℕ) → n < length cs → True (get_or cs n none)) → both t (every cs) ≡ true
        → (k : ℕ) → k < length (c ∷ cs) → True (get_or (c ∷ cs) k none)
    go true e f h zero l = same_answer_lem (promised c.asked) c.answer e
    go true e f h (suc k) l = f h k (le_of_suc-le-suc l)
    go false e f h k l = absurd (true≢false (sym h))

-- ---- document 01's table

all_right : every cards ≡ true
unfolding segment_size padded check_path walk read_seg read_wide form_of form_in read_header join_size join_of body_of items_of read_body same_bytes judged breaks value_of
all_right = refl

pub each_card : (none : Card) (k : ℕ) → k < length cards → True (get_or cards k none)
each_card none = each cards none all_right
