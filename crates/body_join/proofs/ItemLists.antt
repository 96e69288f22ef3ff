-- The items of an accepted body, as lists: where they start is its table, and end to end they are what is behind it. Assumes nothing.
use Prim.Native.Nat.{ℕ, zero, suc, ◌+◌, ◌-◌, ◌<◌}
use mathlib.Core.Path.{◌≡◌, refl, sym, ap, ◌∙◌}
use mathlib.Core.List.{List, [], ◌∷◌, ◌++◌, map, append-nil}
use native.Mathlib.Nat.{add_assoc}
use native.Mathlib.Omega.{arith}
use lib.ListN.{length, drop, length-drop, drop_of_length-le}
use Rattle.wire.proofs.Stores.{part_split, part_last}
use Rattle.body_sizes.specs.Bodies.{table_end, starts, sum_of, flat}
use Rattle.body_read.specs.Reads.{count_at, offset_at}
use Rattle.body_read.proofs.Accepts.{Accepted}
use Rattle.body_items.specs.Items.{stop_at, item_at, bytes_in, items_from, items_of}
use Rattle.body_items.proofs.ItemLaws.{stop_next, stop_last, Span, span, item_length_lem}
use Rattle.body_join.specs.Joins.{offsets_from, raised}

-- ---- places

-- where items start, the first further on
pub starts_raised : (at by : ℕ) (ns : List ℕ) → starts (at + by) ns ≡ raised by (starts at ns)
starts_raised at by [] = refl
starts_raised at by (n ∷ ns) =
    let e : at + by + n ≡ at + n + by = omega arith in
    ap (λ (k : ℕ). (at + by) ∷ starts k ns) e ∙ ap (λ (l : List ℕ). (at + by) ∷ l) (starts_raised (at + n) by ns)

pub starts_append : (at : ℕ) (ms ns : List ℕ) → starts at (ms ++ ns) ≡ starts at ms ++ starts (at + sum_of ms) ns
starts_append at [] ns = let e : at ≡ at + 0 = omega arith in ap (λ (k : ℕ). starts k ns) e
starts_append at (m ∷ ms) ns =
    ap (λ (l : List ℕ). at ∷ l) (starts_append (at + m) ms ns)
    ∙ ap (λ (k : ℕ). at ∷ (starts (at + m) ms ++ starts k ns)) (add_assoc at m (sum_of ms))

-- ---- the items of an accepted body
pub items_length : (m : ℕ) (s : List ℕ) (n k : ℕ) → length (items_from m s n k) ≡ m
items_length zero s n k = refl
items_length (suc m) s n k = ap suc (items_length m s n (k + 1))

module _ (s : List ℕ) (n : ℕ) (a : Accepted s n) where
  pub table_starts : (m k at : ℕ) → m + k ≡ n → (0 < m → at ≡ offset_at s k) → starts at (map length (items_from m s n k)) ≡ offsets_from m s k
  table_starts zero k at e f = refl
  table_starts (suc m) k at e f =
      let w : Span s n a k = span s n a k (omega arith) in
      let here : at ≡ offset_at s k = f (omega arith) in
      let l : length (bytes_in s (item_at s n k)) ≡ stop_at s n k - offset_at s k = item_length_lem s n a k (omega arith) in
      let next : 0 < m → at + length (bytes_in s (item_at s n k)) ≡ offset_at s (k + 1)
      = λ p. omega (arith, l, here, w.some, stop_next s n k (omega arith)) in
      ap (λ (v : ℕ). v ∷ starts (at + length (bytes_in s (item_at s n k))) (map length (items_from m s n (k + 1)))) here
      ∙ ap (λ (t : List ℕ). offset_at s k ∷ t) (table_starts m (k + 1) (at + length (bytes_in s (item_at s n k))) (omega arith) next)

  pub items_flat : (m k : ℕ) → suc m + k ≡ n → flat (items_from (suc m) s n k) ≡ drop (offset_at s k) s
  items_flat zero k e =
      let w : Span s n a k = span s n a k (omega arith) in
      let l : stop_at s n k ≡ length s = stop_last s n k (omega arith) in
      append-nil (bytes_in s (item_at s n k))
      ∙ part_last s (offset_at s k) (stop_at s n k - offset_at s k) (omega (arith, w.some))
  items_flat (suc m) k e =
      let w : Span s n a k = span s n a k (omega arith) in
      let l : stop_at s n k ≡ offset_at s (k + 1) = stop_next s n k (omega arith) in
      let j : offset_at s (k + 1) ≡ offset_at s k + (stop_at s n k - offset_at s k) = omega (arith, w.some) in
      ap (λ (t : List ℕ). bytes_in s (item_at s n k) ++ t) (items_flat m (k + 1) (omega arith) ∙ ap (λ (i : ℕ). drop i s) j)
      ∙ sym (part_split s (offset_at s k) (stop_at s n k - offset_at s k))

  -- ---- all of them
  pub count_items : length (items_of s) ≡ n
  unfolding items_of
  count_items = items_length (count_at s) s (count_at s) 0 ∙ a.count

  pub items_starts : starts (table_end n) (map length (items_of s)) ≡ offsets_from n s 0
  unfolding items_of
  items_starts = rw a.count (table_starts n 0 (table_end n) (omega arith) (λ p. sym (a.first p)))

  pub items_behind : flat (items_of s) ≡ drop (table_end n) s
  unfolding items_of
  items_behind = rw a.count (go n refl)
    where
      go : (m : ℕ) → m ≡ n → flat (items_from m s n 0) ≡ drop (table_end n) s
      go zero e = sym (drop_of_length-le s {i = table_end n} (omega (arith, a.none (sym e))))
      go (suc m) e = items_flat m 0 (omega arith) ∙ ap (λ (i : ℕ). drop i s) (a.first (omega arith))

  pub length_items : length (flat (items_of s)) ≡ length s - table_end n
  length_items = ap length items_behind ∙ length-drop (table_end n) s
