-- What was written reads back: the body of a list of items is accepted, has so many items, and item k is the k-th of them; so no two lists have one
-- body. Assumes nothing.
use Prim.Native.Nat.{ℕ, zero, suc, ◌+◌, ◌*◌, ◌-◌, ◌≤◌, ◌<◌}
use mathlib.Core.Path.{◌≡◌, refl, sym, ap, ◌∙◌, subst}
use mathlib.Core.List.{List, [], ◌∷◌, ◌++◌, map, append_assoc}
use native.Mathlib.Nat.{zero-add}
use native.Mathlib.Numerals.{add-one}
use native.Mathlib.Omega.{arith}
use lib.ListN.{length, get_or, drop, length-append, length-drop}
use lib.Seq.{drop-cons, drop_at, length-take-le}
use Rattle.wire.specs.Numbers.{value_of, low_first}
use Rattle.wire.specs.Parts.{part}
use Rattle.wire.specs.Folds.{joined}
use Rattle.wire.specs.Answers.{done}
use Rattle.wire.proofs.Rules.{all_keep, all_were, then_were}
use Rattle.wire.proofs.Answers.{Parts, plus_parts}
use Rattle.wire.proofs.Numbers.{value_low, low_length}
use Rattle.wire.proofs.Stores.{past_part, part_front}
use Rattle.connection.specs.Limits.{max_record}
use Rattle.body_sizes.specs.Bodies.{table_end, starts, two_bytes, flat, body_of, cut, sum_of, items_size, body_size}
use Rattle.body_sizes.proofs.BodyLaws.{length_body, length_table, length_flat, cut_length, cut_lengths}
use Rattle.body_sizes.proofs.SizeLaws.{BodySized, body_sized}
use Rattle.body_read.specs.Reads.{count_at, offset_at, read_body}
use Rattle.body_read.proofs.Accepts.{Accepted, accepted, accepts}
use Rattle.body_items.specs.declared.Item.{Item}
use Rattle.body_items.specs.Items.{stop_at, item_at, body_item, bytes_in, items_from, items_of}
use Rattle.body_items.proofs.ItemLaws.{stop_next, stop_last}

-- each item has a byte
abbrev pub Filled : List (List ℕ) → Type 0
Filled [] = Unit {0}
Filled (x ∷ xs) = (0 < length x) × Filled xs

-- ---- where the items ys stand: their offsets from offset k on, their bytes from `at` to the end
record Rest (s : List ℕ) (k at : ℕ) (ys : List (List ℕ)) : Type 0 where
  behind : List ℕ
  table : drop (2 + 2 * k) s ≡ joined two_bytes (starts at (map length ys)) ++ behind
  held : drop at s ≡ flat ys
  whole : length s ≡ at + length (flat ys)

record Next (s : List ℕ) (k at : ℕ) (y : List ℕ) (ys : List (List ℕ)) : Type 0 where
  start : offset_at s k ≡ at
  item : part s at (length y) ≡ y
  after : Rest s (k + 1) (at + length y) ys

next : (s : List ℕ) (k at : ℕ) (y : List ℕ) (ys : List (List ℕ)) → length s ≤ max_record → Rest s k at (y ∷ ys) → Next s k at y ys
next s k at y ys small r =
    let t : List ℕ = joined two_bytes (starts (at + length y) (map length ys)) ++ r.behind in
    let o : drop (2 + 2 * k) s ≡ low_first 2 at ++ t
    = r.table ∙ append_assoc (low_first 2 at) (joined two_bytes (starts (at + length y) (map length ys))) r.behind in
    let e : 2 + 2 * (k + 1) ≡ 2 + 2 * k + length (low_first 2 at) = omega (arith, low_length 2 at) in
    record {
      start = ap (value_of 2) o ∙ value_low 2 at t (omega (arith, r.whole));
      item = part_front s y (flat ys) at r.held;
      after = record {
        behind = r.behind;
        table = ap (λ (i : ℕ). drop i s) e ∙ past_part s (low_first 2 at) t (2 + 2 * k) o;
        held = past_part s y (flat ys) at r.held;
        whole = omega (arith, r.whole, length-append y (flat ys));
      };
    }

-- the items read from there on
from_there : (ys : List (List ℕ)) (s : List ℕ) (n k at : ℕ) → length s ≤ max_record → Rest s k at ys → length ys + k ≡ n → items_from (length ys) s n k ≡ ys
from_there [] s n k at small r c = refl
from_there (y ∷ ys) s n k at small r c =
    let x : Next s k at y ys = next s k at y ys small r in
    let p : stop_at s n k ≡ at + length y = stops ys x.after c in
    let q : stop_at s n k - offset_at s k ≡ length y = omega (arith, x.start) in
    rw (q, x.start, x.item) (ap (λ (l : List (List ℕ)). y ∷ l) (from_there ys s n (k + 1) (at + length y) small x.after (omega arith)))
  where
    stops : (zs : List (List ℕ)) → Rest s (k + 1) (at + length y) zs → suc (length zs) + k ≡ n → stop_at s n k ≡ at + length y
    stops [] r c = stop_last s n k (omega arith) ∙ omega (arith, r.whole)
    stops (z ∷ zs) r c = stop_next s n k (omega arith) ∙ (next s (k + 1) (at + length y) z zs small r).start

-- ---- the body of a list of items
module _ (xs : List (List ℕ)) (full : Filled xs) (small : length (body_of xs) ≤ max_record) where
  few : length xs < 65536
  few = omega (arith, length_body xs)

  at_first : Rest (body_of xs) 0 (table_end (length xs)) xs
  unfolding body_of
  at_first = record {
    behind = flat xs;
    table =
        ap (λ (l : List ℕ). drop 2 l) (append_assoc (low_first 2 (length xs)) (joined two_bytes (starts (table_end (length xs)) (map length xs))) (flat xs))
        ∙ drop_at (low_first 2 (length xs)) (joined two_bytes (starts (table_end (length xs)) (map length xs)) ++ flat xs) 2 (low_length 2 (length xs));
    held = drop_at (joined two_bytes (length xs ∷ starts (table_end (length xs)) (map length xs))) (flat xs) (table_end (length xs)) (length_table xs);
    whole = length_body xs;
  }

  count_is : count_at (body_of xs) ≡ length xs
  unfolding body_of
  count_is =
      ap (value_of 2) (append_assoc (low_first 2 (length xs)) (joined two_bytes (starts (table_end (length xs)) (map length xs))) (flat xs))
      ∙ value_low 2 (length xs) (joined two_bytes (starts (table_end (length xs)) (map length xs)) ++ flat xs) few

  -- where item j stands
  record At (j : ℕ) : Type 0 where
    place : ℕ
    rest : Rest (body_of xs) j place (drop j xs)
    left : Filled (drop j xs)

  here : (j at : ℕ) → j < length xs → Rest (body_of xs) j at (drop j xs) → Next (body_of xs) j at (get_or xs j []) (drop (suc j) xs)
  here j at h r = next (body_of xs) j at (get_or xs j []) (drop (suc j) xs) small (rw (drop-cons xs j [] h) at r)

  at_item : (j : ℕ) → j ≤ length xs → At j
  at_item zero h = record { place = table_end (length xs); rest = at_first; left = full }
  at_item (suc j) h =
      let w : At j = at_item j (omega arith) in
      let f : Filled (get_or xs j [] ∷ drop (suc j) xs) = rw (drop-cons xs j [] h) at w.left in
      record { place = w.place + length (get_or xs j []); rest = rw (add-one j) at (here j w.place h w.rest).after; left = f.1 }

  pub record Stands (j : ℕ) : Type 0 where
    pub place : ℕ
    pub start : offset_at (body_of xs) j ≡ place
    pub some : 0 < length (get_or xs j [])
    pub ends : place + length (get_or xs j []) ≤ length (body_of xs)
    pub after : j + 1 < length xs → offset_at (body_of xs) (j + 1) ≡ place + length (get_or xs j [])

  pub stands : (j : ℕ) → j < length xs → Stands j
  stands j h =
      let w : At j = at_item j (omega arith) in
      let x = here j w.place h w.rest in
      let f : Filled (get_or xs j [] ∷ drop (suc j) xs) = rw (drop-cons xs j [] h) at w.left in
      record {
        place = w.place;
        start = x.start;
        some = f.0;
        ends = omega (arith, x.after.whole);
        after = λ l. rw (add-one j) (here (suc j) (w.place + length (get_or xs j [])) (omega arith) (rw (add-one j) at x.after)).start;
      }

  accepted_body : Accepted (body_of xs) (length xs)
  accepted_body = record {
    count = count_is;
    small = small;
    table = omega (arith, length_body xs);
    none = λ z. none xs z;
    first = λ p. (here 0 (table_end (length xs)) p at_first).start;
    rises = λ k l. let w : Stands k = stands k (omega arith) in omega (arith, w.start, w.some, w.after l);
    inside = λ k l. let w : Stands k = stands k l in omega (arith, w.start, w.some, w.ends);
  }
    where
      none : (zs : List (List ℕ)) → length zs ≡ 0 → length (body_of zs) ≡ 2
      none [] z = length_body []
      none (x ∷ zs) z = absurd (omega arith)

  -- ---- so the reader gives the number of items, and the items

  pub read_of_written : read_body (body_of xs) ≡ done (length xs)
  read_of_written = accepts (body_of xs) (length xs) accepted_body

  pub items_of_body : items_of (body_of xs) ≡ xs
  unfolding items_of
  items_of_body = rw count_is (from_there xs (body_of xs) (length xs) 0 (table_end (length xs)) small at_first (omega arith))

-- ---- the items of a body by index, and as a list
pub item_in_list : (m : ℕ) (s : List ℕ) (n k j : ℕ) → j < m → get_or (items_from m s n k) j [] ≡ bytes_in s (item_at s n (k + j))
item_in_list zero s n k j h = absurd (omega arith)
item_in_list (suc m) s n k zero h = let e : k ≡ k + 0 = omega arith in ap (λ (i : ℕ). bytes_in s (item_at s n i)) e
item_in_list (suc m) s n k (suc j) h =
    let e : k + 1 + j ≡ k + suc j = omega arith in
    item_in_list m s n (k + 1) j (omega arith) ∙ ap (λ (i : ℕ). bytes_in s (item_at s n i)) e

-- item k of an accepted body is one that the reader hands out, and its bytes are the k-th item's
pub record Handed (s : List ℕ) (k : ℕ) (x : List ℕ) : Type 0 where
  pub item : Item
  pub found : body_item s k ≡ done item
  pub is : bytes_in s item ≡ x

pub handed : (s : List ℕ) (n k : ℕ) → read_body s ≡ done n → k < n → Handed s k (get_or (items_of s) k [])
unfolding items_of body_item
handed s n k h l =
    let a : Accepted s n = accepted s n h in
    let c : count_at s ≡ n = a.count in
    let g : k + 1 ≤ n = omega arith in
    record {
      item = item_at s n k;
      found = rw h (all_keep _ _ (g, tt));
      is = rw c (sym (item_in_list n s n 0 k l ∙ ap (λ (i : ℕ). bytes_in s (item_at s n i)) (zero-add k)));
    }

-- item k of a body is the k-th item that was written
pub item_of_written : (xs : List (List ℕ)) (k : ℕ) → Filled xs → length (body_of xs) ≤ max_record → k < length xs → Handed (body_of xs) k (get_or xs k [])
item_of_written xs k full small l =
    subst (λ (ys : List (List ℕ)). Handed (body_of xs) k (get_or ys k [])) (items_of_body xs full small)
    (handed (body_of xs) (length xs) k (read_of_written xs full small) l)

-- no two lists of items have one body
pub body_of_one : (xs ys : List (List ℕ)) → Filled xs → Filled ys → length (body_of xs) ≤ max_record → body_of xs ≡ body_of ys → xs ≡ ys
body_of_one xs ys fx fy small e =
    sym (items_of_body xs fx small) ∙ ap items_of e ∙ items_of_body ys fy (omega (arith, ap length e))

-- ---- what the writer wrote: items that were accepted are filled, and read back
pub cut_filled : (lent : ℕ) (ns s : List ℕ) (n : ℕ) → lent ≡ length s → items_size lent ns ≡ done n → Filled (cut ns s)
unfolding items_size
cut_filled lent [] s n e h = tt
cut_filled lent (m ∷ ns) s n e h =
    let w = all_were _ _ n h in
    let l : m ≤ lent = w.0.0 in
    let o : 1 ≤ m = w.0.1.0 in
    let p : Parts (done m) (items_size (lent - m) ns) n = plus_parts (done m) (items_size (lent - m) ns) n w.1 in
    let d : lent - m ≡ length (drop m s) = ap (λ (k : ℕ). k - m) e ∙ sym (length-drop m s) in
    (omega (arith, length-take-le m s (omega arith)), cut_filled (lent - m) ns (drop m s) p.second d p.second_is)

pub record Back (s ns : List ℕ) : Type 0 where
  pub count : read_body (body_of (cut ns s)) ≡ done (length ns)
  pub items : items_of (body_of (cut ns s)) ≡ cut ns s

pub written_reads_back : (s ns : List ℕ) (size : ℕ) → body_size (length s) ns ≡ done size → Back s ns
unfolding body_size
written_reads_back s ns size h =
    let t = then_were _ _ size h in
    let b : BodySized (length s) ns size = body_sized (length s) ns size h in
    let f : Filled (cut ns s) = cut_filled (length s) ns s t.found refl t.is in
    let c : map length (cut ns s) ≡ ns = cut_lengths ns s b.inside in
    let l : length (body_of (cut ns s)) ≤ max_record
    = omega (arith, b.is, b.small, length_body (cut ns s), cut_length ns s, length_flat (cut ns s), ap sum_of c) in
    record {
      count = read_of_written (cut ns s) f l ∙ ap done (cut_length ns s);
      items = items_of_body (cut ns s) f l;
    }
