-- Each end of the body's writer, and a turn of its loop, as a law with plain conditions. Assumes nothing.
use Prim.Native.Nat.{ℕ, ◌+◌, ◌*◌, ◌-◌, ◌≤◌, ◌<◌}
use mathlib.Core.Path.{◌≡◌, refl, sym, ap, ◌∙◌}
use mathlib.Core.List.{List, ◌∷◌, ◌++◌, map}
use native.Mathlib.Omega.{arith}
use lib.ListN.{length, get_or, take, drop, drop_of_length-le}
use lib.Seq.{sets, length-sets}
use mir.Val.{Fits}
use mir.Syntax.{w16, w64}
use Rattle.wire.specs.Numbers.{low_first}
use Rattle.wire.specs.Parts.{part}
use Rattle.wire.specs.Folds.{joined}
use Rattle.wire.specs.Answers.{done}
use Rattle.wire.proofs.Numbers.{low_length}
use Rattle.wire.proofs.Stores.{sets_onto}
use Rattle.connection.specs.Limits.{max_record}
use Rattle.body_sizes.specs.Bodies.{table_end, starts, two_bytes, flat, body_of, cut, sum_of, body_size}
use Rattle.body_sizes.proofs.BodyLaws.{length_two, length_starts, length_body, length_flat, cut_length, cut_flat, cut_lengths}
use Rattle.body_sizes.proofs.SizeLaws.{next, BodySized, body_sized}

-- ---- the loop that stores offsets
module _ (ns old : List ℕ) where
  pub record Placing (out : List ℕ) (at i : ℕ) : Type 0 where
    pub most : i ≤ length ns
    pub sum : at + sum_of (drop i ns) ≡ table_end (length ns) + sum_of ns
    pub rest : sets out (2 + 2 * i) (joined two_bytes (starts at (drop i ns))) ≡ sets old 2 (joined two_bytes (starts (table_end (length ns)) ns))
    pub same : length out ≡ length old

  pub placing_first : Placing old (2 + 2 * length ns) 0
  placing_first = record { most = omega arith; sum = refl; rest = refl; same = refl }

  module _ (out : List ℕ) (at i : ℕ) (m : Placing out at i) (small : table_end (length ns) + sum_of ns ≤ max_record) where
    pub placing_place : Fits w16 at
    placing_place = record { fits = omega (arith, m.sum) }

    pub placing_ends : length ns ≤ i → out ≡ sets old 2 (joined two_bytes (starts (table_end (length ns)) ns))
    placing_ends h = ap (λ (l : List ℕ). sets out (2 + 2 * i) (joined two_bytes (starts at l))) (sym (drop_of_length-le ns h)) ∙ m.rest

    module _ (n : ℕ) (is : n ≡ get_or ns i 0) (h : i < length ns) where
      left : at + (n + sum_of (drop (i + 1) ns)) ≡ table_end (length ns) + sum_of ns
      left = ap (λ (l : List ℕ). at + sum_of l) (sym (next ns i n is h)) ∙ m.sum

      pub placing_sum : Fits w64 (at + n)
      placing_sum = record { fits = omega (arith, left) }

      pub placing_more : (new : List ℕ) → new ≡ sets out (2 + 2 * i) (low_first 2 at) → Placing new (at + n) (i + 1)
      placing_more new e =
          let t : List ℕ = joined two_bytes (starts (at + n) (drop (i + 1) ns)) in
          let p : 2 + 2 * (i + 1) ≡ 2 + 2 * i + length (low_first 2 at) = omega (arith, low_length 2 at) in
          record {
            most = omega arith;
            sum = omega (arith, left);
            rest =
                sets_onto out new (sets new (2 + 2 * (i + 1)) t) (low_first 2 at) t (2 + 2 * i) (2 + 2 * (i + 1)) e p refl
                ∙ ap (λ (l : List ℕ). sets out (2 + 2 * i) (joined two_bytes (starts at l))) (sym (next ns i n is h))
                ∙ m.rest;
            same = ap length e ∙ length-sets out (2 + 2 * i) (low_first 2 at) ∙ m.same;
          }

pub ruleset placing_laws = (placing_first, placing_place, placing_ends, placing_sum, placing_more)

-- ---- the writer's own ends
module _ (s ns : List ℕ) (size : ℕ) (is : done size ≡ body_size (length s) ns) where
  whole : BodySized (length s) ns size
  whole = body_sized (length s) ns size (sym is)

  pub body_small : table_end (length ns) + sum_of ns ≤ max_record
  body_small = omega (arith, whole.is, whole.small)

  pub body_count : Fits w16 (length ns)
  body_count = record { fits = omega (arith, body_small) }

  pub body_under : 2 + 2 * length ns ≤ size
  body_under = omega (arith, whole.is)

  pub body_length : size ≡ length (body_of (cut ns s))
  body_length =
      let c : map length (cut ns s) ≡ ns = cut_lengths ns s whole.inside in
      omega (arith, whole.is, length_body (cut ns s), cut_length ns s, length_flat (cut ns s), ap sum_of c)

  pub body_put : (old a b c p : List ℕ) → a ≡ sets old 0 (low_first 2 (length ns)) → b ≡ sets a 2 (joined two_bytes (starts (table_end (length ns)) ns))
      → p ≡ part s 0 (size - (2 + 2 * length ns)) → c ≡ sets b (2 + 2 * length ns) p → c ≡ sets old 0 (body_of (cut ns s))
  unfolding body_of
  body_put old a b c p e f g q =
      let n : ℕ = length ns in
      let t : List ℕ = joined two_bytes (starts (table_end n) ns) in
      let k : size - (2 + 2 * n) ≡ sum_of ns = omega (arith, whole.is) in
      let items : p ≡ flat (cut ns s) = g ∙ ap (λ (j : ℕ). take j s) k ∙ sym (cut_flat ns s) in
      let l : length (low_first 2 n ++ t) ≡ 2 + 2 * n = length_two (n ∷ starts (table_end n) ns) ∙ omega (arith, length_starts (table_end n) ns) in
      let two : b ≡ sets old 0 (low_first 2 n ++ t) = sets_onto old a b (low_first 2 n) t 0 2 e (omega (arith, low_length 2 n)) f in
      sets_onto old b c (low_first 2 n ++ t) (flat (cut ns s)) 0 (2 + 2 * n) two (omega (arith, l)) (q ∙ ap (λ (d : List ℕ). sets b (2 + 2 * n) d) items)
      ∙ rw (cut_length ns s, cut_lengths ns s whole.inside)

pub ruleset body_laws = (body_small, body_count, body_under, body_length, body_put)
