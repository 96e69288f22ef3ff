-- Each end of the functions that hand out an item, as a law with plain conditions; and a walk's answer is the body's own. Assumes nothing.
use Prim.Native.Nat.{ℕ, zero, suc, ◌+◌, ◌*◌, ◌-◌, ◌/◌, ◌≤◌, ◌<◌}
use mathlib.Core.Path.{◌≡◌, refl, sym, ap, ◌∙◌}
use mathlib.Core.List.{List, [], ◌∷◌}
use mathlib.Core.Logic.{⊎_elim}
use native.Mathlib.Omega.{arith}
use native.Mathlib.Numerals.{add-one}
use lib.ListN.{length, get_or}
use borrow.Author.Tests.{lt-ltb, le-ltb}
use Rattle.std.specs.Int.{from_le_bytes, w16}
use Rattle.wire.specs.Answers.{Answer, done, refused, under, judged}
use Rattle.wire.proofs.Rules.{rules, done_same, all_keep, all_were, then_stops, then_goes, Went, then_were}
use Rattle.wire.proofs.Numbers.{below_or, value_two}
use Rattle.wire.proofs.Stores.{part_length}
use Rattle.connection.specs.Limits.{max_record}
use Rattle.body_sizes.specs.Bodies.{table_end}
use Rattle.body_read.specs.Reads.{offset_at, read_body}
use Rattle.body_read.proofs.Accepts.{Accepted, accepted}
use Rattle.body_items.specs.declared.Item.{Item}
use Rattle.body_items.specs.Items.{stop_at, item_at, bytes_in, body_item, walk_item}

-- ---- where an item starts
pub offset_read : (s : List ℕ) (k r : ℕ) → r ≡ from_le_bytes w16 (get_or s (2 + 2 * k) 0 ∷ get_or s (2 + 2 * k + 1) 0 ∷ []) → r ≡ offset_at s k
offset_read s k r e = omega (arith, e, value_two s (2 + 2 * k) (get_or s (2 + 2 * k) 0) (get_or s (2 + 2 * k + 1) 0) refl refl)

pub ruleset offset_laws = (offset_read)

-- ---- where an item ends
module _ (s : List ℕ) (n k : ℕ) where
  pub stop_next : k + 1 < n → stop_at s n k ≡ offset_at s (k + 1)
  stop_next h = simp (lt-ltb (k + 1) n h) refl

  pub stop_last : n ≤ k + 1 → stop_at s n k ≡ length s
  stop_last h = simp (le-ltb (k + 1) n h) refl

  pub stop_there : (v : ℕ) → k + 1 < n → v ≡ offset_at s (k + 1) → v ≡ stop_at s n k
  stop_there v h e = e ∙ sym (stop_next h)

  pub stop_end : n ≤ k + 1 → length s ≡ stop_at s n k
  stop_end h = sym (stop_last h)

pub ruleset stop_laws = (stop_there, stop_end)

-- ---- one item of a walk
module _ (s : List ℕ) (n k : ℕ) where
  pub walk_limit : max_record < length s → refused 3 ≡ walk_item s n k
  unfolding walk_item
  walk_limit h = search rules

  module _ (small : length s ≤ max_record) where
    pub walk_short : length s / 2 ≤ n → refused 1 ≡ walk_item s n k
    unfolding walk_item
    walk_short h = let l : length s < table_end n = omega arith in search rules

    module _ (h : n < length s / 2) where
      pub table : table_end n ≤ length s
      table = omega arith

      pub walk_index : k < n → table_end (k + 1) ≤ length s
      walk_index l = let t = table in omega arith

      pub walk_outside : n ≤ k → refused 11 ≡ walk_item s n k
      unfolding walk_item
      walk_outside l = let g : n < k + 1 = omega arith in search (rules, table)

      module _ (l : k < n) (a b : ℕ) (starts : a ≡ offset_at s k) (stops : b ≡ stop_at s n k) where
        there : k + 1 ≤ n
        there = omega arith

        pub walk_early : a < 2 + 2 * n → refused 7 ≡ walk_item s n k
        unfolding walk_item
        walk_early f = let e : offset_at s k < table_end n = omega (arith, starts) in search (rules, table, there)

        module _ (f : 2 + 2 * n ≤ a) where
          late : table_end n ≤ offset_at s k
          late = omega (arith, starts)

          pub walk_empty : b ≤ a → refused 7 ≡ walk_item s n k
          unfolding walk_item
          walk_empty p = let q : stop_at s n k < offset_at s k + 1 = omega (arith, starts, stops) in search (rules, table, there, late)

          module _ (p : a < b) where
            some : offset_at s k + 1 ≤ stop_at s n k
            some = omega (arith, starts, stops)

            pub walk_past : length s < b → refused 7 ≡ walk_item s n k
            unfolding walk_item
            walk_past q = let j : length s < stop_at s n k = omega (arith, stops) in search (rules, table, there, late, some) depth 8

            pub walk_found : b ≤ length s → done (record { start = a; len = b - a }) ≡ walk_item s n k
            unfolding walk_item
            walk_found q =
                let j : stop_at s n k ≤ length s = omega (arith, stops) in
                rw (starts, stops) (sym (all_keep _ _ (small, (table, (there, (late, (some, (j, tt))))))))

pub ruleset walk_laws = (walk_limit, walk_short, table, walk_index, walk_outside, walk_early, walk_empty, walk_past, walk_found)

-- ---- in a body that was accepted every item lies behind the table, has a byte, and ends inside
module _ (s : List ℕ) (n : ℕ) (a : Accepted s n) where
  pub record Span (k : ℕ) : Type 0 where
    pub behind : table_end n ≤ offset_at s k
    pub some : offset_at s k < stop_at s n k
    pub ends : stop_at s n k ≤ length s

  behind : (k : ℕ) → k < n → table_end n ≤ offset_at s k
  behind zero h = omega (arith, a.first (omega arith))
  behind (suc k) h =
      let e : k + 1 ≡ suc k = add-one k in
      rw (← e) (omega (arith, behind k (omega arith), a.rises k (omega arith)))

  pub span : (k : ℕ) → k < n → Span k
  span k h = ⊎_elim (λ l. next l) (λ l. last l) (below_or (k + 1) n)
    where
      next : k + 1 < n → Span k
      next l = let e = stop_next s n k l in record { behind = behind k h; some = omega (arith, a.rises k l); ends = omega (arith, a.inside (k + 1) l) }

      last : n ≤ k + 1 → Span k
      last l = let e = stop_last s n k l in record { behind = behind k h; some = omega (arith, a.inside k h); ends = omega arith }

  pub item_length_lem : (k : ℕ) → k < n → length (bytes_in s (item_at s n k)) ≡ stop_at s n k - offset_at s k
  item_length_lem k h =
      let w : Span k = span k h in
      part_length s (offset_at s k) (stop_at s n k - offset_at s k) (omega (arith, w.some, w.ends))

  -- so a walk's answer is the body's own
  pub walk_same : (k : ℕ) → walk_item s n k ≡ judged (under n (k + 1) 11 ∷ []) (done (item_at s n k))
  unfolding walk_item
  walk_same k = ⊎_elim (λ l. in_it l) (λ l. past l) (below_or k n)
    where
      past : n ≤ k → walk_item s n k ≡ judged (under n (k + 1) 11 ∷ []) (done (item_at s n k))
      past l =
          let small = a.small in
          let t = a.table in
          let g : n < k + 1 = omega arith in
          let p : refused 11 ≡ walk_item s n k = search rules in
          let q : refused 11 ≡ judged (under n (k + 1) 11 ∷ []) (done (item_at s n k)) = search rules in
          sym p ∙ q

      in_it : k < n → walk_item s n k ≡ judged (under n (k + 1) 11 ∷ []) (done (item_at s n k))
      in_it l =
          let i : Span k = span k l in
          let g : k + 1 ≤ n = omega arith in
          all_keep _ _ (a.small, (a.table, (g, (i.behind, (omega (arith, i.some), (i.ends, tt))))))
          ∙ sym (all_keep _ _ (g, tt))

-- ---- an item of a body
pub item_refused : (s : List ℕ) (k e : ℕ) → refused e ≡ read_body s → refused e ≡ body_item s k
unfolding body_item
item_refused s k e h = then_stops _ _ e (sym h)

pub item_found : (s : List ℕ) (k n : ℕ) (x : Answer Item) → done n ≡ read_body s → x ≡ walk_item s n k → x ≡ body_item s k
unfolding body_item
item_found s k n x h e = then_goes _ _ n x (sym h) (e ∙ walk_same s n (accepted s n (sym h)) k)

pub ruleset item_laws = (item_refused, item_found)

-- ---- what is found starts inside a body of at most the limit
pub walk_inside : (s : List ℕ) (n k : ℕ) (i : Item) → walk_item s n k ≡ done i → i.start ≤ max_record
unfolding walk_item
walk_inside s n k i h =
    let w = all_were _ _ i h in
    let e : item_at s n k ≡ i = done_same w.1 in
    omega (arith, w.0.0, w.0.1.1.1.1.0, w.0.1.1.1.1.1.0, ap (λ (x : Item). x.start) e)

-- an item that was found: the body was accepted, and this is its item
pub record ItemOf (s : List ℕ) (k : ℕ) (i : Item) : Type 0 where
  pub n : ℕ
  pub accepted : Accepted s n
  pub there : k < n
  pub is : item_at s n k ≡ i

pub item_was : (s : List ℕ) (k : ℕ) (i : Item) → body_item s k ≡ done i → ItemOf s k i
unfolding body_item
item_was s k i h =
    let t : Went (read_body s) (λ n. judged (under n (k + 1) 11 ∷ []) (done (item_at s n k))) i = then_were _ _ i h in
    let n : ℕ = t.found in
    let w = all_were _ _ i t.then in
    let l : k + 1 ≤ n = w.0.0 in
    let d : done (item_at s n k) ≡ done i = w.1 in
    record { n = n; accepted = accepted s n t.is; there = omega arith; is = cc }

pub item_inside : (s : List ℕ) (k : ℕ) (i : Item) → body_item s k ≡ done i → i.start ≤ max_record
item_inside s k i h =
    let w : ItemOf s k i = item_was s k i h in
    omega (arith, w.accepted.small, w.accepted.inside k w.there, ap (λ (x : Item). x.start) w.is)
