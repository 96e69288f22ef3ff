-- Rows: a row is four stores. What a walk with no place to store leaves. Assumes nothing.
use Prim.Native.Nat.{ℕ, suc, ◌+◌, ◌*◌, ◌≤◌}
use mathlib.Core.Path.{◌≡◌, refl}
use mathlib.Core.List.{List, [], ◌∷◌, ◌++◌}
use native.Mathlib.Omega.{arith}
use lib.ListN.{length, set}
use lib.Seq.{sets}
use Rattle.wire.specs.Folds.{joined}
use Rattle.wire.specs.Answers.{Answer, done}
use Rattle.wire.proofs.Rules.{all_keep}
use Rattle.wire.proofs.Stores.{store_past}
use Rattle.nested.specs.Nested.{Row, row_size, row_values, counted}

pub four_stores : (l a b c e : List ℕ) (n i w x y z : ℕ) → i ≡ row_size * n → a ≡ set l i w → b ≡ set a (i + 1) x → c ≡ set b (i + 2) y → e ≡ set c (i + 3) z
    → e ≡ sets l (row_size * n) (w ∷ x ∷ y ∷ z ∷ [])
four_stores l a b c e n i w x y z is p q r t =
    let e1 : i + 1 ≡ suc i = omega arith in
    let e2 : i + 2 ≡ suc (suc i) = omega arith in
    let e3 : i + 3 ≡ suc (suc (suc i)) = omega arith in
    rw (← is, t, r, q, p, e1, e2, e3)

pub joined_length : (rs : List Row) → length (joined row_values rs) ≡ row_size * length rs
joined_length [] = refl
joined_length (r ∷ rs) = omega (arith, joined_length rs)

-- where there is room for each number, all rows are counted
pub counted_fits : (w : Answer (List Row)) (rs : List Row) (room : ℕ) → w ≡ done rs → row_size * length rs ≤ room → counted w room ≡ done (length rs)
unfolding counted
counted_fits w rs room e h = rw e (all_keep _ _ (h, tt))

-- `&mut l[0..0]`, no place to store, comes back as nothing before the rest
pub lent_none : (l out : List ℕ) → length l ≡ 0 → l ++ out ≡ out
lent_none [] out h = refl
lent_none (x ∷ l) out h = absurd (omega arith)

pub ruleset row_laws = (store_past, four_stores)
