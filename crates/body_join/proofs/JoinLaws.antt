-- Each end of a join, a turn of its loop, and what its stores come to, as laws with plain conditions. Assumes nothing.
use Prim.Native.Nat.{ℕ, zero, suc, ◌+◌, ◌*◌, ◌-◌, ◌≤◌, ◌<◌}
use mathlib.Core.Path.{◌≡◌, refl, sym, ap, ◌∙◌}
use mathlib.Core.List.{List, ◌∷◌, ◌++◌, map, map-append, append_assoc}
use native.Mathlib.Omega.{arith}
use lib.ListN.{length, drop, length-append, length-drop, length-map}
use lib.Seq.{sets, length-sets}
use mir.Val.{Fits}
use mir.Syntax.{w16, w64}
use Rattle.wire.specs.Numbers.{value_of, low_first}
use Rattle.wire.specs.Parts.{part}
use Rattle.wire.specs.Folds.{joined}
use Rattle.wire.specs.Answers.{Answer, done, refused, and_then, within_limit}
use Rattle.wire.proofs.Rules.{rules, then_stops, then_goes, Went, then_were, within_was}
use Rattle.wire.proofs.Numbers.{low_length}
use Rattle.wire.proofs.Stores.{sets_onto, part_last}
use Rattle.wire.proofs.Folds.{joined_append}
use Rattle.connection.specs.Limits.{max_record}
use Rattle.body_sizes.specs.Bodies.{table_end, starts, two_bytes, flat, body_of, sum_of}
use Rattle.body_sizes.proofs.BodyLaws.{length_two, length_body, length_flat}
use Rattle.body_read.specs.Reads.{count_at, read_body}
use Rattle.body_read.proofs.Accepts.{Accepted, accepted}
use Rattle.body_items.specs.Items.{items_of}
use Rattle.body_join.specs.Joins.{join_of, join_size, offsets_from, raised, table_of, Raisable, Joinable}
use Rattle.body_join.proofs.ItemLists.{starts_raised, starts_append, count_items, items_starts, items_behind, length_items}

-- ---- the joined length
module _ (a b : List ℕ) (m n : ℕ) (p : Accepted a m) (q : Accepted b n) where
  pub join_count : length (items_of a ++ items_of b) ≡ m + n
  join_count = length-append (items_of a) (items_of b) ∙ rw (count_items a m p, count_items b n q)

  pub join_flat : flat (items_of a ++ items_of b) ≡ drop (table_end m) a ++ drop (table_end n) b
  join_flat = joined_append (λ (x : List ℕ). x) (items_of a) (items_of b) ∙ rw (items_behind a m p, items_behind b n q)

  pub join_length : length (join_of a b) ≡ length a + length b - 2
  unfolding join_of
  join_length =
      length_body (items_of a ++ items_of b)
      ∙ omega (
        arith,
        join_count,
        ap length join_flat ∙ length-append (drop (table_end m) a) (drop (table_end n) b),
        length-drop (table_end m) a,
        length-drop (table_end n) b,
        p.table,
        q.table,
      )

-- ---- the ends of the sizer
module _ (a b : List ℕ) where
  abbrev rest : Answer ℕ
  rest = and_then (read_body b) (λ n. within_limit max_record (length (join_of a b)))

  pub size_first : (e : ℕ) → refused e ≡ read_body a → refused e ≡ join_size a b
  unfolding join_size
  size_first e h = then_stops _ _ e (sym h)

  module _ (m : ℕ) (first : done m ≡ read_body a) where
    pub size_second : (e : ℕ) → refused e ≡ read_body b → refused e ≡ join_size a b
    unfolding join_size
    size_second e h = then_goes _ _ m (refused e) (sym first) (then_stops _ _ e (sym h))

    module _ (n : ℕ) (second : done n ≡ read_body b) where
      pub size_counts : 2 ≤ length a + length b
      size_counts = omega (arith, (accepted a m (sym first)).table)

      goes : (z : Answer ℕ) → z ≡ within_limit max_record (length a + length b - 2) → z ≡ join_size a b
      unfolding join_size
      goes z e =
          then_goes _ _ m z (sym first)
          (then_goes _ _ n z (sym second)
          (e ∙ ap (within_limit max_record) (sym (join_length a b m n (accepted a m (sym first)) (accepted b n (sym second))))))

      pub size_over : max_record < length a + length b - 2 → refused 3 ≡ join_size a b
      size_over l = goes (refused 3) (search rules)

      pub size_found : length a + length b - 2 ≤ max_record → done (length a + length b - 2) ≡ join_size a b
      size_found l = goes (done (length a + length b - 2)) (search rules)

pub ruleset size_laws = (size_first, size_second, size_counts, size_over, size_found)

-- ---- what a size says: both were accepted, and the sum is small
module _ (a b : List ℕ) (size : ℕ) where
  pub record Joined : Type 0 where
    pub both : Joinable a b
    pub is : size ≡ length (join_of a b)

  pub join_was : join_size a b ≡ done size → Joined
  unfolding join_size
  join_was h =
      let r : Answer ℕ = and_then (read_body b) (λ n. within_limit max_record (length (join_of a b))) in
      let t : Went (read_body a) (λ m. r) size = then_were _ _ size h in
      let u : Went (read_body b) (λ n. within_limit max_record (length (join_of a b))) size
      = then_were _ _ size t.then in
      let w = within_was max_record (length (join_of a b)) size u.then in
      let p : Accepted a t.found = accepted a t.found t.is in
      let q : Accepted b u.found = accepted b u.found u.is in
      let l : length (join_of a b) ≡ length a + length b - 2 = join_length a b t.found u.found p q in
      record {
        both = record { first = t.is ∙ ap done (sym p.count); second = u.is ∙ ap done (sym q.count); small = omega (arith, w.0, l) };
        is = sym w.1;
      }

-- ---- the loop that moves offsets on
module _ (s : List ℕ) (n by : ℕ) (old : List ℕ) (at : ℕ) where
  pub record Raising (out : List ℕ) (i : ℕ) : Type 0 where
    pub most : i ≤ n
    pub rest : sets out (at + 2 * i) (joined two_bytes (raised by (offsets_from (n - i) s i))) ≡ sets old at (joined two_bytes (raised by (offsets_from n s 0)))
    pub same : length out ≡ length old

  pub raising_first : Raising old 0
  raising_first =
      let e : at + 2 * 0 ≡ at = omega arith in
      let f : n - 0 ≡ n = omega arith in
      record { most = omega arith; rest = rw (e, f) refl; same = refl }

  module _ (out : List ℕ) (i : ℕ) (m : Raising out i) where
    pub raising_ends : n ≤ i → out ≡ sets old at (joined two_bytes (raised by (offsets_from n s 0)))
    raising_ends h =
        let e : 0 ≡ n - i = omega arith in
        ap (λ (k : ℕ). sets out (at + 2 * i) (joined two_bytes (raised by (offsets_from k s i)))) e ∙ m.rest

    module _ (u : Raisable s n by at) (h : i < n) where
      module _ (v : ℕ) (is : v ≡ value_of 2 (drop (2 + 2 * i) s)) where
        sum : v + by ≤ max_record
        sum = omega (arith, is, u.each i h)

        pub raising_sum : Fits w64 (v + by)
        raising_sum = record { fits = omega (arith, sum) }

        pub raising_two : Fits w16 (v + by)
        raising_two = record { fits = omega (arith, sum) }

        pub raising_more : (new : List ℕ) → new ≡ sets out (at + 2 * i) (low_first 2 (v + by)) → Raising new (i + 1)
        raising_more new e =
            let t : List ℕ = joined two_bytes (raised by (offsets_from (n - (i + 1)) s (i + 1))) in
            let p : at + 2 * (i + 1) ≡ at + 2 * i + length (low_first 2 (v + by)) = omega (arith, low_length 2 (v + by)) in
            let l : n - i ≡ suc (n - (i + 1)) = omega arith in
            let j : low_first 2 (v + by) ++ t ≡ joined two_bytes (raised by (offsets_from (n - i) s i))
            = ap (λ (k : ℕ). low_first 2 (k + by) ++ t) is ∙ ap (λ (k : ℕ). joined two_bytes (raised by (offsets_from k s i))) (sym l) in
            record {
              most = omega arith;
              rest =
                  sets_onto out new (sets new (at + 2 * (i + 1)) t) (low_first 2 (v + by)) t (at + 2 * i) (at + 2 * (i + 1)) e p refl
                  ∙ ap (λ (d : List ℕ). sets out (at + 2 * i) d) j
                  ∙ m.rest;
              same = ap length e ∙ length-sets out (at + 2 * i) (low_first 2 (v + by)) ∙ m.same;
            }

pub ruleset raising_laws = (raising_first, raising_ends, raising_sum, raising_two, raising_more)

-- ---- the stores of a join
length_offsets : (m : ℕ) (s : List ℕ) (k : ℕ) → length (offsets_from m s k) ≡ m
length_offsets zero s k = refl
length_offsets (suc m) s k = ap suc (length_offsets m s (k + 1))

length_moved : (m : ℕ) (s : List ℕ) (by : ℕ) → length (joined two_bytes (raised by (offsets_from m s 0))) ≡ 2 * m
length_moved m s by =
    length_two (raised by (offsets_from m s 0)) ∙ ap (λ (k : ℕ). 2 * k) (length-map (offsets_from m s 0) (λ (v : ℕ). v + by) ∙ length_offsets m s 0)

module _ (a b : List ℕ) (u : Joinable a b) where
  one : Accepted a (count_at a)
  one = accepted a (count_at a) u.first

  two : Accepted b (count_at b)
  two = accepted b (count_at b) u.second

  -- where the items of both start: each list's own places, moved on
  abbrev moved : List ℕ
  moved = raised (2 * count_at b) (offsets_from (count_at a) a 0)

  abbrev after : List ℕ
  after = raised (length a - 2) (offsets_from (count_at b) b 0)

  first_starts : starts (table_end (count_at a + count_at b)) (map length (items_of a)) ≡ moved
  first_starts =
      let e : table_end (count_at a + count_at b) ≡ table_end (count_at a) + 2 * count_at b = omega arith in
      ap (λ (k : ℕ). starts k (map length (items_of a))) e
      ∙ starts_raised (table_end (count_at a)) (2 * count_at b) (map length (items_of a))
      ∙ ap (raised (2 * count_at b)) (items_starts a (count_at a) one)

  second_starts : starts (table_end (count_at a + count_at b) + sum_of (map length (items_of a))) (map length (items_of b)) ≡ after
  second_starts =
      let e : table_end (count_at a + count_at b) + sum_of (map length (items_of a)) ≡ table_end (count_at b) + (length a - 2)
      = omega (arith, length_flat (items_of a), length_items a (count_at a) one, one.table) in
      ap (λ (k : ℕ). starts k (map length (items_of b))) e
      ∙ starts_raised (table_end (count_at b)) (length a - 2) (map length (items_of b))
      ∙ ap (raised (length a - 2)) (items_starts b (count_at b) two)

  join_table : length (items_of a ++ items_of b) ∷ starts (table_end (length (items_of a ++ items_of b))) (map length (items_of a ++ items_of b)) ≡ table_of a b
  join_table =
      ap (λ (k : ℕ). k ∷ starts (table_end k) (map length (items_of a ++ items_of b))) (join_count a b (count_at a) (count_at b) one two)
      ∙ ap (λ (l : List ℕ). (count_at a + count_at b) ∷ starts (table_end (count_at a + count_at b)) l) (map-append length (items_of a) (items_of b))
      ∙ ap (λ (l : List ℕ). (count_at a + count_at b) ∷ l) (starts_append (table_end (count_at a + count_at b)) (map length (items_of a)) (map length (items_of b)))
      ∙ rw (first_starts, second_starts) refl

  length_joined : length (joined two_bytes (table_of a b)) ≡ 2 + 2 * (count_at a + count_at b)
  length_joined =
      length_two (table_of a b)
      ∙ omega (
        arith,
        length-append moved after,
        length-map (offsets_from (count_at a) a 0) (λ (v : ℕ). v + 2 * count_at b),
        length-map (offsets_from (count_at b) b 0) (λ (v : ℕ). v + (length a - 2)),
        length_offsets (count_at a) a 0,
        length_offsets (count_at b) b 0,
      )

  join_bytes : join_of a b ≡ (joined two_bytes (table_of a b) ++ drop (table_end (count_at a)) a) ++ drop (table_end (count_at b)) b
  unfolding join_of body_of
  join_bytes =
      ap (λ (l : List ℕ). joined two_bytes l ++ flat (items_of a ++ items_of b)) join_table
      ∙ ap (λ (l : List ℕ). joined two_bytes (table_of a b) ++ l) (join_flat a b (count_at a) (count_at b) one two)
      ∙ sym (append_assoc (joined two_bytes (table_of a b)) (drop (table_end (count_at a)) a) (drop (table_end (count_at b)) b))

  -- ---- the code's counts
  module _ (m n : ℕ) (first : m ≡ value_of 2 (drop 0 a)) (second : n ≡ value_of 2 (drop 0 b)) where
    near : (m + n ≤ max_record) × (2 + 2 * m ≤ length a)
    near = (omega (arith, first, second, one.table, two.table, u.small), omega (arith, first, one.table))

    pub join_two : Fits w16 (m + n)
    join_two = record { fits = omega (arith, near.0) }

    pub join_some : 2 ≤ length a
    join_some = omega (arith, near.1)

    pub join_first : Raisable a m (2 * n) 2
    join_first = record {
      few = omega (arith, near.0);
      near = omega arith;
      each = λ k h. omega (arith, one.inside k (omega (arith, first)), second, two.table, u.small);
    }

    pub join_second : Raisable b n (length a - 2) (2 + 2 * m)
    join_second = record {
      few = omega (arith, near.0);
      near = omega (arith, near.1, one.small);
      each = λ k h. omega (arith, two.inside k (omega (arith, second)), one.table, u.small);
    }

    pub table_put : (old o1 o2 o3 : List ℕ) → o1 ≡ sets old 0 (low_first 2 (m + n)) → o2 ≡ sets o1 2 (joined two_bytes (raised (2 * n) (offsets_from m a 0)))
        → o3 ≡ sets o2 (2 + 2 * m) (joined two_bytes (raised (length a - 2) (offsets_from n b 0))) → o3 ≡ sets old 0 (joined two_bytes (table_of a b))
    table_put old o1 o2 o3 e1 e2 e3 =
        let c : List ℕ = low_first 2 (m + n) in
        let t1 : List ℕ = raised (2 * n) (offsets_from m a 0) in
        let t2 : List ℕ = raised (length a - 2) (offsets_from n b 0) in
        let l1 : length c ≡ 2 = low_length 2 (m + n) in
        let l2 : length (c ++ joined two_bytes t1) ≡ 2 + 2 * m = length-append c (joined two_bytes t1) ∙ omega (arith, length_moved m a (2 * n)) in
        let s2 : o2 ≡ sets old 0 (c ++ joined two_bytes t1) = sets_onto old o1 o2 c (joined two_bytes t1) 0 2 e1 (omega (arith, l1)) e2 in
        let s3 : o3 ≡ sets old 0 ((c ++ joined two_bytes t1) ++ joined two_bytes t2) = sets_onto old o2 o3 (c ++ joined two_bytes t1) (joined two_bytes t2) 0 (2 + 2 * m) s2 (omega (arith, l2)) e3 in
        let j : (c ++ joined two_bytes t1) ++ joined two_bytes t2 ≡ joined two_bytes ((m + n) ∷ (t1 ++ t2))
        = append_assoc c (joined two_bytes t1) (joined two_bytes t2) ∙ ap (λ (l : List ℕ). c ++ l) (sym (joined_append two_bytes t1 t2)) in
        s3
        ∙ ap (λ (l : List ℕ). sets old 0 l) j
        ∙ ap (λ (k : ℕ). sets old 0 (joined two_bytes ((k + n) ∷ (raised (2 * n) (offsets_from k a 0) ++ t2)))) first
        ∙ ap (λ (k : ℕ). sets old 0 (joined two_bytes ((count_at a + k) ∷ (raised (2 * k) (offsets_from (count_at a) a 0) ++ raised (length a - 2) (offsets_from k b 0))))) second

    pub join_put : (old o1 o2 o3 p q : List ℕ) → o1 ≡ sets old 0 (joined two_bytes (table_of a b))
        → p ≡ part a (2 + 2 * m) (length a) → o2 ≡ sets o1 (2 + 2 * (m + n)) p
        → q ≡ part b (2 + 2 * n) (length b) → o3 ≡ sets o2 (2 * n + length a) q → o3 ≡ sets old 0 (join_of a b)
    join_put old o1 o2 o3 p q e1 ep e2 eq e3 =
        let t : List ℕ = joined two_bytes (table_of a b) in
        let fa : p ≡ drop (table_end (count_at a)) a = ep ∙ part_last a (2 + 2 * m) (length a) (omega arith) ∙ ap (λ (k : ℕ). drop (table_end k) a) first in
        let fb : q ≡ drop (table_end (count_at b)) b = eq ∙ part_last b (2 + 2 * n) (length b) (omega arith) ∙ ap (λ (k : ℕ). drop (table_end k) b) second in
        let l2 : 2 + 2 * (m + n) ≡ length t = omega (arith, first, second, length_joined) in
        let l3 : 2 * n + length a ≡ length (t ++ drop (table_end (count_at a)) a)
        = sym (length-append t (drop (table_end (count_at a)) a) ∙ omega (arith, first, second, l2, length-drop (table_end (count_at a)) a, one.table)) in
        let s2 : o2 ≡ sets old 0 (t ++ drop (table_end (count_at a)) a)
        = sets_onto old o1 o2 t (drop (table_end (count_at a)) a) 0 (2 + 2 * (m + n)) e1 (omega (arith, l2)) (e2 ∙ ap (λ (d : List ℕ). sets o1 (2 + 2 * (m + n)) d) fa) in
        let s3 : o3 ≡ sets old 0 ((t ++ drop (table_end (count_at a)) a) ++ drop (table_end (count_at b)) b)
        = sets_onto old o2 o3 (t ++ drop (table_end (count_at a)) a) (drop (table_end (count_at b)) b) 0 (2 * n + length a) s2 (omega (arith, l3)) (e3 ∙ ap (λ (d : List ℕ). sets o2 (2 * n + length a) d) fb) in
        s3 ∙ ap (λ (d : List ℕ). sets old 0 d) (sym join_bytes)

pub ruleset put_laws = (
  join_two,
  join_some,
  join_first,
  join_second,
  table_put,
  join_put,
)

-- ---- the writer's own ends
module _ (a b : List ℕ) (size : ℕ) (is : done size ≡ join_size a b) where
  pub join_ready : Joinable a b
  join_ready = (join_was a b size (sym is)).both

  pub join_sized : size ≡ length (join_of a b)
  join_sized = (join_was a b size (sym is)).is

pub ruleset join_laws = (join_ready, join_sized)
