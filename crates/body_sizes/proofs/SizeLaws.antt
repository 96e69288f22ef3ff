-- Each end of the body's sizer, a turn of its loop, and what a size says, as laws with plain conditions. Assumes nothing.
use Prim.Native.Nat.{ℕ, suc, ◌+◌, ◌*◌, ◌-◌, ◌≤◌, ◌<◌}
use mathlib.Core.Path.{◌≡◌, sym, ap, ◌∙◌}
use mathlib.Core.List.{List, [], ◌∷◌}
use native.Mathlib.Numerals.{add-one}
use native.Mathlib.Omega.{arith}
use lib.ListN.{length, get_or, drop, drop_of_length-le}
use lib.Seq.{drop-cons}
use mir.Val.{Fits}
use mir.Syntax.{w64}
use Rattle.wire.specs.Answers.{Answer, done, refused, under, over, judged, plus, within_limit}
use Rattle.wire.proofs.Rules.{rules, done_same, all_keep, all_were, then_stops, then_goes, Went, then_were, within_was}
use Rattle.wire.proofs.Answers.{Parts, plus_parts, plus_none, plus_assoc}
use Rattle.connection.specs.Limits.{max_record}
use Rattle.body_sizes.specs.Bodies.{table_end, sum_of, items_size, body_size}

-- the list from i on is what stands at i, and the list from i + 1 on
pub next : (ns : List ℕ) (i n : ℕ) → n ≡ get_or ns i 0 → i < length ns → drop i ns ≡ n ∷ drop (i + 1) ns
next ns i n e h =
    drop-cons ns i 0 h
    ∙ ap (λ (k : ℕ). k ∷ drop (suc i) ns) (sym e)
    ∙ ap (λ (k : ℕ). n ∷ drop k ns) (sym (add-one i))

-- ---- the loop that judges lengths: so many lent bytes are left
module _ (lent : ℕ) (ns : List ℕ) where
  pub record Judging (left i : ℕ) : Type 0 where
    pub inside : left ≤ lent
    pub rest : plus (done (lent - left)) (items_size left (drop i ns)) ≡ items_size lent ns

  pub judging_first : Judging lent 0
  judging_first =
      let e : lent - lent ≡ 0 = omega arith in
      record { inside = omega arith; rest = rw e (plus_none (items_size lent ns)) }

  module _ (left i : ℕ) (m : Judging left i) where
    module _ (n : ℕ) (is : n ≡ get_or ns i 0) (h : i < length ns) where
      turn : (y : Answer ℕ) → y ≡ judged (over n left 11 ∷ under n 1 7 ∷ []) (plus (done n) (items_size (left - n) (drop (i + 1) ns)))
          → plus (done (lent - left)) y ≡ items_size lent ns
      unfolding items_size
      turn y e =
          ap (plus (done (lent - left))) e
          ∙ ap (λ (l : List ℕ). plus (done (lent - left)) (items_size left l)) (sym (next ns i n is h))
          ∙ m.rest

      pub judging_outside : left < n → refused 11 ≡ items_size lent ns
      judging_outside l = turn (refused 11) (search rules)

      pub judging_empty : n ≤ left → n ≡ 0 → refused 7 ≡ items_size lent ns
      judging_empty l z = let k : n < 1 = omega arith in turn (refused 7) (search rules)

      pub judging_more : n ≤ left → (n ≡ 0 → ⊥) → Judging (left - n) (i + 1)
      judging_more l z =
          let p : n ≤ lent = omega (arith, m.inside) in
          let some : 1 ≤ n = omega arith in
          let e : lent - (left - n) ≡ (lent - left) + n = omega (arith, m.inside) in
          let t : List ℕ = drop (i + 1) ns in
          let g : plus (done n) (items_size (left - n) t) ≡ judged (over n left 11 ∷ under n 1 7 ∷ []) (plus (done n) (items_size (left - n) t))
          = sym (all_keep _ _ (l, (some, tt))) in
          record {
            inside = omega (arith, m.inside);
            rest =
                ap (λ (k : ℕ). plus (done k) (items_size (left - n) t)) e
                ∙ plus_assoc (done (lent - left)) (done n) (items_size (left - n) t)
                ∙ turn (plus (done n) (items_size (left - n) t)) g;
          }

    pub judging_ends : length ns ≤ i → done (lent - left) ≡ items_size lent ns
    unfolding items_size
    judging_ends h =
        let e : lent - left ≡ lent - left + 0 = omega arith in
        ap done e ∙ ap (λ (l : List ℕ). plus (done (lent - left)) (items_size left l)) (sym (drop_of_length-le ns h)) ∙ m.rest

pub ruleset judging_laws = (judging_first, judging_outside, judging_empty, judging_more, judging_ends)

-- ---- what a size says of the lengths
pub record Sized (lent : ℕ) (ns : List ℕ) (n : ℕ) : Type 0 where
  pub sum : n ≡ sum_of ns
  pub inside : n ≤ lent
  pub many : length ns ≤ n

pub sized : (lent : ℕ) (ns : List ℕ) (n : ℕ) → items_size lent ns ≡ done n → Sized lent ns n
unfolding items_size
sized lent [] n h = let e : 0 ≡ n = cc in record { sum = sym e; inside = omega arith; many = omega arith }
sized lent (m ∷ ns) n h =
    let w = all_were _ _ n h in
    let l : m ≤ lent = w.0.0 in
    let s : 1 ≤ m = w.0.1.0 in
    let p : Parts (done m) (items_size (lent - m) ns) n = plus_parts (done m) (items_size (lent - m) ns) n w.1 in
    let e : m ≡ p.first = done_same p.first_is in
    let r : Sized (lent - m) ns p.second = sized (lent - m) ns p.second p.second_is in
    record { sum = omega (arith, p.sum, r.sum); inside = omega (arith, p.sum, r.inside); many = omega (arith, p.sum, r.many) }

-- ---- the ends of the sizer
module _ (lent : ℕ) (ns : List ℕ) where
  pub size_refused : (k : ℕ) → refused k ≡ items_size lent ns → refused k ≡ body_size lent ns
  unfolding body_size
  size_refused k h = then_stops _ _ k (sym h)

  module _ (n : ℕ) (found : done n ≡ items_size lent ns) where
    goes : (z : Answer ℕ) → z ≡ within_limit max_record (table_end (length ns) + n) → z ≡ body_size lent ns
    unfolding body_size
    goes z e = then_goes _ _ n z (sym found) e

    pub size_over : max_record < n → refused 3 ≡ body_size lent ns
    size_over l = let k : max_record < table_end (length ns) + n = omega arith in goes (refused 3) (search rules)

    pub size_limit_lem : max_record < 2 + 2 * length ns + n → refused 3 ≡ body_size lent ns
    size_limit_lem l = goes (refused 3) (search rules)

    pub size_found : 2 + 2 * length ns + n ≤ max_record → done (2 + 2 * length ns + n) ≡ body_size lent ns
    size_found l = goes (done (2 + 2 * length ns + n)) (search rules)

    module _ (l : n ≤ max_record) where
      few : length ns ≤ max_record
      few = omega (arith, (sized lent ns n (sym found)).many)

      pub size_fits : Fits w64 (2 + 2 * length ns + n)
      size_fits = record { fits = omega (arith, few) }

pub ruleset size_laws = (size_refused, size_over, size_limit_lem, size_found, size_fits)

-- ---- what a body's size says
pub record BodySized (lent : ℕ) (ns : List ℕ) (size : ℕ) : Type 0 where
  pub is : size ≡ table_end (length ns) + sum_of ns
  pub small : size ≤ max_record
  pub inside : sum_of ns ≤ lent

pub body_sized : (lent : ℕ) (ns : List ℕ) (size : ℕ) → body_size lent ns ≡ done size → BodySized lent ns size
unfolding body_size
body_sized lent ns size h =
    let t : Went (items_size lent ns) (λ n. within_limit max_record (table_end (length ns) + n)) size = then_were _ _ size h in
    let n : ℕ = t.found in
    let r : Sized lent ns n = sized lent ns n t.is in
    let w = within_was max_record (table_end (length ns) + n) size t.then in
    let l : table_end (length ns) + n ≤ max_record = w.0 in
    let e : table_end (length ns) + n ≡ size = w.1 in
    record { is = omega (arith, e, r.sum); small = omega (arith, e, l); inside = omega (arith, r.sum, r.inside) }
