-- Each reply is read from its own item's bytes and from no others; a walk in one judgement gives what asking by index gives. Assumes nothing.
use Prim.Native.Nat.{ℕ, zero, suc, ◌+◌, ◌-◌, ◌≤◌, ◌<◌}
use mathlib.Core.Path.{◌≡◌, refl, sym, ap, ◌∙◌}
use mathlib.Core.List.{List, [], ◌∷◌}
use native.Mathlib.Omega.{arith}
use lib.ListN.{length, get_or, take, drop}
use lib.Seq.{drop-drop, take-take, take-nil}
use Rattle.wire.specs.Parts.{part}
use Rattle.wire.specs.Answers.{Answer, done, refused, and_then}
use Rattle.wire.proofs.Rules.{then_done}
use Rattle.wire.proofs.Stores.{part_length}
use Rattle.connection.specs.Limits.{max_record}
use Rattle.statuses.specs.declared.Status.{Status}
use Rattle.reply_header.specs.Headers.{read_header}
use Rattle.reply_header.specs.declared.MessageReply.{MessageReply}
use Rattle.reply_theorems.proofs.Headers.{Rest, header_rest}
use Rattle.body_sizes.specs.Bodies.{body_of}
use Rattle.body_read.specs.Reads.{read_body}
use Rattle.body_read.proofs.Accepts.{accepted}
use Rattle.body_items.specs.declared.Item.{Item}
use Rattle.body_items.specs.Items.{body_item, walk_item, bytes_in}
use Rattle.body_items.proofs.ItemLaws.{ItemOf, item_was, Span, span, walk_same}
use Rattle.body_replies.specs.Replies.{shifted_reply, reply_in, body_reply, walk_reply}
use Rattle.body_theorems.proofs.Written.{Filled, Handed, item_of_written}

-- what a reply says, wherever it lies: service, status, and the bytes of its data
pub record Told : Type 0 where
  pub service : ℕ
  pub status : Status
  pub bytes : List ℕ

abbrev pub told_in : List ℕ → MessageReply → Told
told_in s m = record { service = m.reply_service; status = m.status; bytes = part s m.data_start m.data_len }

abbrev pub tells : List ℕ → Answer MessageReply → Answer Told
tells s x = and_then x (λ m. done (told_in s m))

-- ---- a part of a part
drop_take : (b n : ℕ) (l : List ℕ) → drop b (take n l) ≡ take (n - b) (drop b l)
drop_take zero n l = let e : n ≡ n - 0 = omega arith in ap (λ (k : ℕ). take k l) e
drop_take (suc b) zero l = let e : zero - suc b ≡ 0 = omega arith in rw e refl
drop_take (suc b) (suc n) [] = sym (take-nil (suc n - suc b))
drop_take (suc b) (suc n) (x ∷ l) = let e : suc n - suc b ≡ n - b = omega arith in drop_take b n l ∙ ap (λ (k : ℕ). take k (drop b l)) (sym e)

part_part : (s : List ℕ) (a n b c : ℕ) → b + c ≤ n → part (part s a n) b c ≡ part s (a + b) c
part_part s a n b c h =
    ap (take c) (drop_take b n (drop a s))
    ∙ take-take c (n - b) (drop b (drop a s)) (omega arith)
    ∙ ap (take c) (drop-drop b a s)

-- ---- in an item, a reply says what its bytes alone say
in_item : (s : List ℕ) (i : Item) (x : Answer MessageReply) → x ≡ read_header (bytes_in s i) → i.start + i.len ≤ length s
    → and_then (and_then x (λ m. done (shifted_reply i.start m))) (λ m. done (told_in s m)) ≡ and_then x (λ m. done (told_in (bytes_in s i) m))
in_item s i (refused k) e l = refl
in_item s i (done m) e l =
    let r : Rest (bytes_in s i) m = header_rest (bytes_in s i) m (sym e) in
    let n : length (bytes_in s i) ≡ i.len = part_length s i.start i.len (omega arith) in
    let p : part (bytes_in s i) m.data_start m.data_len ≡ part s (i.start + m.data_start) m.data_len
    = part_part s i.start i.len m.data_start m.data_len (omega (arith, r.whole)) in
    ap (λ (l : List ℕ). done (record { service = m.reply_service; status = m.status; bytes = l })) (sym p)

-- an item that is handed out lies inside
inside : (s : List ℕ) (k : ℕ) (i : Item) → body_item s k ≡ done i → i.start + i.len ≤ length s
inside s k i h =
    let w : ItemOf s k i = item_was s k i h in
    let p : Span s w.n w.accepted k = span s w.n w.accepted k w.there in
    rw (← w.is) (omega (arith, p.some, p.ends))

-- the reply at k is the header of item k's bytes
pub reply_is_header : (s : List ℕ) (k : ℕ) (i : Item) → body_item s k ≡ done i → tells s (body_reply s k) ≡ tells (bytes_in s i) (read_header (bytes_in s i))
reply_is_header s k i h =
    ap (tells s) (then_done _ _ i h) ∙ in_item s i (read_header (bytes_in s i)) refl (inside s k i h)

-- two bodies that agree on an item agree on what its reply says, whatever else they hold and wherever the item stands
pub reply_alone : (s t : List ℕ) (k l : ℕ) (i j : Item) → body_item s k ≡ done i → body_item t l ≡ done j → bytes_in s i ≡ bytes_in t j
    → tells s (body_reply s k) ≡ tells t (body_reply t l)
reply_alone s t k l i j p q e =
    reply_is_header s k i p ∙ ap (λ (b : List ℕ). tells b (read_header b)) e ∙ sym (reply_is_header t l j q)

-- of items that were written, each is read alone: its own header, whatever the others hold
pub reply_of_written : (xs : List (List ℕ)) (k : ℕ) → Filled xs → length (body_of xs) ≤ max_record → k < length xs
    → tells (body_of xs) (body_reply (body_of xs) k) ≡ tells (get_or xs k []) (read_header (get_or xs k []))
reply_of_written xs k full small l =
    let w : Handed (body_of xs) k (get_or xs k []) = item_of_written xs k full small l in
    reply_is_header (body_of xs) k w.item w.found ∙ ap (λ (b : List ℕ). tells b (read_header b)) w.is

-- ---- a walk: with the count that the reader gave, an item and a reply are those by index
pub walk_is_item : (s : List ℕ) (n k : ℕ) → read_body s ≡ done n → walk_item s n k ≡ body_item s k
unfolding body_item
walk_is_item s n k h = walk_same s n (accepted s n h) k ∙ rw h refl

pub walk_is_reply : (s : List ℕ) (n k : ℕ) → read_body s ≡ done n → walk_reply s n k ≡ body_reply s k
walk_is_reply s n k h = ap (λ (x : Answer Item). and_then x (reply_in s)) (walk_is_item s n k h)
