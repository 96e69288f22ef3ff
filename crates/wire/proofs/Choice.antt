-- A choice by tests for equality, row by row: here, or further on; and what the test of two lists says. Assumes nothing.
use Prim.Native.Nat.{ℕ}
use mathlib.Core.Path.{◌≡◌, refl, sym}
use mathlib.Core.List.{List, [], ◌∷◌}
use mathlib.Core.Bool.{Bool, true, false, true≢false}
use lib.Dec.{eqb}
use borrow.Author.Tests.{eq-eqb, ne_eqb, eqb-true}
use Rattle.wire.specs.Choice.{pick, same_bytes}

module _ {A : Type 0} (n a : ℕ) (x y z : A) where
  pub pick_here : n ≡ a → z ≡ x → z ≡ pick (eqb n a) x y
  pick_here h e = simp (eq-eqb n a h) e

  pub pick_past : (n ≡ a → ⊥) → z ≡ y → z ≡ pick (eqb n a) x y
  pick_past h e = simp (ne_eqb n a h) e

-- ---- two lists that are the same

pub same_true : (a b : List ℕ) → same_bytes a b ≡ true → a ≡ b
unfolding same_bytes
same_true [] [] h = refl
same_true [] (y ∷ b) h = absurd (true≢false (sym h))
same_true (x ∷ a) [] h = absurd (true≢false (sym h))
same_true (x ∷ a) (y ∷ b) h = go (eqb x y) refl (λ g. same_true a b g) h
  where
    go : (t : Bool) → eqb x y ≡ t → (same_bytes a b ≡ true → a ≡ b) → pick t (same_bytes a b) false ≡ true → (x ∷ a) ≡ (y ∷ b)
    go true e f g = let p : x ≡ y = eqb-true x y e in let q : a ≡ b = f g in rw (p, q)
    go false e f g = absurd (true≢false (sym g))

same_self : (l : List ℕ) → true ≡ same_bytes l l
unfolding same_bytes
same_self [] = refl
same_self (x ∷ l) = simp (eq-eqb x x refl) (same_self l)

pub same_is : (a b : List ℕ) → a ≡ b → true ≡ same_bytes a b
same_is a b h = rw (← h) (same_self a)

pub same_not : (a b : List ℕ) → (a ≡ b → ⊥) → false ≡ same_bytes a b
same_not a b n = go (same_bytes a b) refl
  where
    go : (t : Bool) → same_bytes a b ≡ t → false ≡ t
    go true e = absurd (n (same_true a b e))
    go false e = refl
