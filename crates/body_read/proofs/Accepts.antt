-- A body is accepted exactly where document 01's rule holds of it, offset by offset. Assumes nothing.
use Prim.Native.Nat.{ℕ, zero, suc, ◌+◌, ◌*◌, ◌≤◌, ◌<◌}
use mathlib.Core.Path.{◌≡◌, refl, ap, ◌∙◌}
use mathlib.Core.List.{List}
use mathlib.Core.Logic.{⊎_elim}
use native.Mathlib.Omega.{arith}
use native.Mathlib.Nat.{eq-or-lt_of_le}
use native.Mathlib.Numerals.{add-one}
use lib.ListN.{length}
use Rattle.wire.specs.Answers.{done, judged, KeepsAll}
use Rattle.wire.proofs.Rules.{done_same, all_keep, all_were}
use Rattle.connection.specs.Limits.{max_record}
use Rattle.body_sizes.specs.Bodies.{table_end}
use Rattle.body_read.specs.Reads.{count_at, offset_at, later_rules, table_rules, read_body}

pub record Accepted (s : List ℕ) (n : ℕ) : Type 0 where
  pub count : count_at s ≡ n
  pub small : length s ≤ max_record
  pub table : table_end n ≤ length s
  pub none : n ≡ 0 → length s ≡ 2
  pub first : 0 < n → offset_at s 0 ≡ table_end n
  pub rises : (k : ℕ) → k + 1 < n → offset_at s k < offset_at s (k + 1)
  pub inside : (k : ℕ) → k < n → offset_at s k < length s

-- ---- the m offsets after offset k
record Later (s : List ℕ) (m k : ℕ) : Type 0 where
  up : (j : ℕ) → k ≤ j → j < k + m → offset_at s j < offset_at s (j + 1)
  within : (j : ℕ) → k ≤ j → j < k + m → offset_at s (j + 1) < length s

later_were : (m : ℕ) (s : List ℕ) (k : ℕ) → KeepsAll (later_rules m s k) → Later s m k
later_were zero s k h = record { up = λ j a b. absurd (omega arith); within = λ j a b. absurd (omega arith) }
later_were (suc m) s k h =
    let r : Later s m (k + 1) = later_were m s (k + 1) h.1.1.1 in
    let more : offset_at s k + 1 ≤ offset_at s (k + 1) = h.1.0 in
    let less : offset_at s (k + 1) + 1 ≤ length s = h.1.1.0 in
    record {
      up = λ j a b. ⊎_elim (λ q. rw (← q) (omega (arith, more))) (λ q. r.up j (omega arith) (omega arith)) (eq-or-lt_of_le a);
      within = λ j a b. ⊎_elim (λ q. rw (← q) (omega (arith, less))) (λ q. r.within j (omega arith) (omega arith)) (eq-or-lt_of_le a);
    }

later_keep : (m : ℕ) (s : List ℕ) (k : ℕ) → 2 + 2 * (k + 1 + m) ≤ length s → Later s m k → KeepsAll (later_rules m s k)
later_keep zero s k h l = tt
later_keep (suc m) s k h l = (
  omega arith,
  (
    omega (arith, l.up k (omega arith) (omega arith)),
    (
      omega (arith, l.within k (omega arith) (omega arith)),
      later_keep m s (k + 1) (omega arith) (record { up = λ j a b. l.up j (omega arith) (omega arith); within = λ j a b. l.within j (omega arith) (omega arith) }),
    ),
  ),
)

-- ---- the whole table
table_were : (n : ℕ) (s : List ℕ) → count_at s ≡ n → length s ≤ max_record → 2 ≤ length s → KeepsAll (table_rules n s) → Accepted s n
table_were zero s c l h t =
    let two : length s ≤ 2 = t.0 in
    record {
      count = c;
      small = l;
      table = h;
      none = λ z. omega arith;
      first = λ z. absurd (omega arith);
      rises = λ k z. absurd (omega arith);
      inside = λ k z. absurd (omega arith);
    }
table_were (suc m) s c l h t =
    let e : offset_at s 0 ≡ table_end (suc m) = t.1.0 in
    let o : offset_at s 0 + 1 ≤ length s = t.1.1.0 in
    let r : Later s m 0 = later_were m s 0 t.1.1.1 in
    record {
      count = c;
      small = l;
      table = omega arith;
      none = λ z. absurd (omega arith);
      first = λ z. e;
      rises = λ k z. r.up k (omega arith) (omega arith);
      inside = λ k z. held o r k z;
    }
  where
    held : offset_at s 0 + 1 ≤ length s → Later s m 0 → (k : ℕ) → k < suc m → offset_at s k < length s
    held o r zero z = omega arith
    held o r (suc k) z = rw (← add-one k) (r.within k (omega arith) (omega arith))

table_keep : (n : ℕ) (s : List ℕ) → Accepted s n → KeepsAll (table_rules n s)
table_keep zero s a = (omega (arith, a.none refl), tt)
table_keep (suc m) s a = (
  omega (arith, a.table),
  (
    a.first (omega arith),
    (
      omega (arith, a.inside 0 (omega arith)),
      later_keep m s 0 (omega (arith, a.table)) (record { up = λ j p q. a.rises j (omega arith); within = λ j p q. a.inside (j + 1) (omega arith) }),
    ),
  ),
)

pub accepted : (s : List ℕ) (n : ℕ) → read_body s ≡ done n → Accepted s n
unfolding read_body
accepted s n h =
    let w = all_were _ _ n h in
    let t = all_were _ _ n w.1 in
    let e : count_at s ≡ n = done_same t.1 in
    table_were n s e w.0.0 w.0.1.0 (rw e at t.0)

pub accepts : (s : List ℕ) (n : ℕ) → Accepted s n → read_body s ≡ done n
unfolding read_body
accepts s n a =
    all_keep _ _ (a.small, (omega (arith, a.table), tt))
    ∙ ap (λ (k : ℕ). judged (table_rules k s) (done k)) a.count
    ∙ all_keep _ _ (table_keep n s a)
