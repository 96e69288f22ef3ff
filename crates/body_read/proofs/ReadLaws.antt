-- Each end of the body's reader, and a turn of its loop, as a law with plain conditions. Assumes nothing.
use Prim.Native.Nat.{ℕ, zero, suc, ◌+◌, ◌*◌, ◌-◌, ◌≤◌, ◌<◌}
use mathlib.Core.Path.{◌≡◌, refl, sym, ap, ◌∙◌}
use mathlib.Core.List.{List, [], ◌∷◌}
use native.Mathlib.Omega.{arith}
use lib.ListN.{length, drop}
use Rattle.std.specs.Prelude.{Result}
use Rattle.wire.specs.declared.Refusal.{Refusal}
use Rattle.wire.specs.Numbers.{value_of}
use Rattle.wire.specs.Answers.{Answer, done, refused, paper, Rule, under, over, other, judged}
use Rattle.wire.proofs.Rules.{rules, all_keep}
use Rattle.connection.specs.Limits.{max_record}
use Rattle.body_sizes.specs.Bodies.{table_end}
use Rattle.body_read.specs.Reads.{count_at, offset_at, later_rules, table_rules, FirstAt, read_body}

-- the rules of a table of at least one offset, and of what is left of it
pub table_some : (s : List ℕ) (n : ℕ) → 1 ≤ n
    → table_rules n s ≡ under (length s) 4 1 ∷ other (offset_at s 0) (table_end n) 7 ∷ under (length s) (offset_at s 0 + 1) 7 ∷ later_rules (n - 1) s 0
table_some s zero h = absurd (omega arith)
table_some s (suc m) h = let e : suc m - 1 ≡ m = omega arith in rw e

pub later_some : (s : List ℕ) (n k : ℕ) → k + 1 < n
    → later_rules (n - (k + 1)) s k
    ≡ under (length s) (6 + 2 * k) 1
    ∷ under (offset_at s (k + 1)) (offset_at s k + 1) 7
    ∷ under (length s) (offset_at s (k + 1) + 1) 7
    ∷ later_rules (n - (k + 1 + 1)) s (k + 1)
later_some s n k h = let e : n - (k + 1) ≡ suc (n - (k + 1 + 1)) = omega arith in ap (λ (m : ℕ). later_rules m s k) e

-- offset k + 1 where the code reads it
pub offset_next : (s : List ℕ) (k : ℕ) → offset_at s (k + 1) ≡ value_of 2 (drop (4 + 2 * k) s)
offset_next s k = let e : 2 + 2 * (k + 1) ≡ 4 + 2 * k = omega arith in ap (λ (at : ℕ). value_of 2 (drop at s)) e

-- ---- the first offset
module _ (s : List ℕ) (n : ℕ) (some : 1 ≤ n) where
  table : (z : Answer ℕ)
      → z ≡ judged (under (length s) 4 1 ∷ other (offset_at s 0) (table_end n) 7 ∷ under (length s) (offset_at s 0 + 1) 7 ∷ later_rules (n - 1) s 0) (done n)
      → z ≡ judged (table_rules n s) (done n)
  table z e = e ∙ ap (λ (rs : List Rule). judged rs (done n)) (sym (table_some s n some))

  pub table_short : length s < 4 → refused 1 ≡ judged (table_rules n s) (done n)
  table_short h = table (refused 1) (search rules)

  module _ (h : 4 ≤ length s) (first : ℕ) (is : first ≡ value_of 2 (drop 2 s)) where
    pub table_first : (first ≡ 2 + 2 * n → ⊥) → refused 7 ≡ judged (table_rules n s) (done n)
    table_first f = let g : offset_at s 0 ≡ table_end n → ⊥ = λ e. f (is ∙ e) in table (refused 7) (search rules)

    pub table_ready : n ≤ max_record → FirstAt s n first
    table_ready l = record { some = some; few = l; is = is }

    module _ (e : first ≡ 2 + 2 * n) where
      here : offset_at s 0 ≡ table_end n
      here = sym is ∙ e

      pub table_outside : length s ≤ first → refused 7 ≡ judged (table_rules n s) (done n)
      table_outside l = let k : length s < offset_at s 0 + 1 = omega (arith, is) in table (refused 7) (search (rules, here))

      pub table_goes : first < length s → (r : Result ℕ Refusal) → paper r ≡ judged (later_rules (n - 1) s 0) (done n)
          → paper r ≡ judged (table_rules n s) (done n)
      table_goes l r f = let k : offset_at s 0 + 1 ≤ length s = omega (arith, is) in table (paper r) (search (rules, here))

pub ruleset table_laws = (table_short, table_first, table_ready, table_outside, table_goes)

-- ---- the others
module _ (s : List ℕ) (n : ℕ) where
  pub record Reading (last k : ℕ) : Type 0 where
    pub more : k + 1 ≤ n
    pub few : n ≤ max_record
    pub is : last ≡ offset_at s k
    pub rest : judged (later_rules (n - (k + 1)) s k) (done n) ≡ judged (later_rules (n - 1) s 0) (done n)

  pub reading_first : (first : ℕ) → FirstAt s n first → Reading first 0
  reading_first first u = record { more = u.some; few = u.few; is = u.is; rest = refl }

  module _ (last k : ℕ) (m : Reading last k) where
    module _ (l : k + 1 < n) where
      turn : (z : Answer ℕ)
          → z ≡ judged (under (length s) (6 + 2 * k) 1 ∷ under (offset_at s (k + 1)) (offset_at s k + 1) 7 ∷ under (length s) (offset_at s (k + 1) + 1) 7 ∷ later_rules (n - (k + 1 + 1)) s (k + 1)) (done n)
          → z ≡ judged (later_rules (n - 1) s 0) (done n)
      turn z e = e ∙ ap (λ (rs : List Rule). judged rs (done n)) (sym (later_some s n k l)) ∙ m.rest

      pub reading_short : length s < 4 + 2 * k + 2 → refused 1 ≡ judged (later_rules (n - 1) s 0) (done n)
      reading_short h = let g : length s < 6 + 2 * k = omega arith in turn (refused 1) (search rules)

      module _ (h : 4 + 2 * k + 2 ≤ length s) (v : ℕ) (is : v ≡ value_of 2 (drop (4 + 2 * k) s)) where
        there : 6 + 2 * k ≤ length s
        there = omega arith

        same : v ≡ offset_at s (k + 1)
        same = is ∙ sym (offset_next s k)

        pub reading_low : v ≤ last → refused 7 ≡ judged (later_rules (n - 1) s 0) (done n)
        reading_low f = let j : offset_at s (k + 1) < offset_at s k + 1 = omega (arith, same, m.is) in turn (refused 7) (search (rules, there))

        module _ (f : last < v) where
          higher : offset_at s k + 1 ≤ offset_at s (k + 1)
          higher = omega (arith, same, m.is)

          pub reading_outside : length s ≤ v → refused 7 ≡ judged (later_rules (n - 1) s 0) (done n)
          reading_outside o =
              let j : length s < offset_at s (k + 1) + 1 = omega (arith, same) in
              turn (refused 7) (search (rules, there, higher))

          pub reading_more : v < length s → Reading v (k + 1)
          reading_more o =
              let j : offset_at s (k + 1) + 1 ≤ length s = omega (arith, same) in
              let left : Answer ℕ = judged (later_rules (n - (k + 1 + 1)) s (k + 1)) (done n) in
              record { more = omega arith; few = m.few; is = same; rest = turn left (search (rules, there, higher)) }

    pub reading_ends : n ≤ k + 1 → done n ≡ judged (later_rules (n - 1) s 0) (done n)
    reading_ends h =
        let e : 0 ≡ n - (k + 1) = omega arith in
        let z : done n ≡ judged [] (done n) = search rules in
        z ∙ ap (λ (j : ℕ). judged (later_rules j s k) (done n)) e ∙ m.rest

pub ruleset reading_laws = (reading_first, reading_short, reading_low, reading_outside, reading_more, reading_ends)

-- ---- the whole
module _ (s : List ℕ) where
  pub read_limit : max_record < length s → refused 3 ≡ read_body s
  unfolding read_body
  read_limit h = search rules

  module _ (small : length s ≤ max_record) where
    pub read_short : length s < 2 → refused 1 ≡ read_body s
    unfolding read_body
    read_short h = search rules

    module _ (h : 2 ≤ length s) where
      front : (z : Answer ℕ) → z ≡ judged (table_rules (count_at s) s) (done (count_at s)) → z ≡ read_body s
      unfolding read_body
      front z e = e ∙ sym (all_keep _ _ (small, (h, tt)))

      counted : (n : ℕ) → n ≡ value_of 2 (drop 0 s) → (z : Answer ℕ) → z ≡ judged (table_rules n s) (done n) → z ≡ read_body s
      counted n is z e = front z (e ∙ ap (λ (k : ℕ). judged (table_rules k s) (done k)) is)

      module _ (n : ℕ) (is : n ≡ value_of 2 (drop 0 s)) where
        module _ (none : n ≡ 0) where
          empty : (z : Answer ℕ) → z ≡ judged (over (length s) 2 8 ∷ []) (done 0) → z ≡ read_body s
          empty z e = counted 0 (sym none ∙ is) z e

          pub read_left : 2 < length s → refused 8 ≡ read_body s
          read_left l = empty (refused 8) (search rules)

          pub read_none : length s ≤ 2 → done 0 ≡ read_body s
          read_none l = empty (done 0) (search rules)

        pub read_table : (r : Result ℕ Refusal) → paper r ≡ judged (table_rules n s) (done n) → paper r ≡ read_body s
        read_table r e = counted n is (paper r) e

pub ruleset read_laws = (read_limit, read_short, read_left, read_none, read_table)
