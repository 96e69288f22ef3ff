-- The definition has teeth. These contracts are not exact: one that says nothing, one that gives a bound, one that leaves out the lent buffer,
-- one that asks something of its argument, and one that speaks of the lent buffer at one answer only.
-- Assumes nothing.
use Prim.Native.Nat.{ℕ}
use mathlib.Core.Path.{◌≡◌, refl, sym, ap}
use mathlib.Core.List.{List, [], ◌∷◌}
use mathlib.Core.Logic.{∥∥₁_elim}
use mathlib.Core.HLevel.{⊥_prop}
use native.Mathlib.Omega.{arith}
use seplogic.Ra.Ura.{mem-one-op}
use borrow.Fn.World.{w₀}
use lib.ListN.{length}
use Rattle.exact.specs.Exact.{Exact, Allows}
use Rattle.loose.specs.contracts.silent
use Rattle.loose.specs.contracts.bound
use Rattle.loose.specs.contracts.unsaid
use Rattle.loose.specs.contracts.asks
use Rattle.loose.specs.contracts.partly

differ : ◌≡◌ {A = ℕ} 0 1 → ⊥
differ e = omega (arith, e)

pub silent_loose : Exact silent.ended (λ _ _. silent.clauses) → ⊥
silent_loose x = ∥∥₁_elim (x.unique w₀ tt (0, tt) 0 1 (tt, tt) (tt, tt) (tt, w₀.𝓤.one, tt) (tt, w₀.𝓤.one, tt)) ⊥_prop (λ e. differ e.0)

pub bound_loose : Exact bound.ended (λ _ _. bound.clauses) → ⊥
bound_loose x = ∥∥₁_elim (x.unique w₀ tt (1, tt) 0 1 (tt, tt) (tt, tt) (tt, w₀.𝓤.one, ∣ (omega arith, tt) ∣₁) (tt, w₀.𝓤.one, ∣ (omega arith, tt) ∣₁)) ⊥_prop (λ e. differ e.0)

pub unsaid_loose : Exact unsaid.ended (λ _ _. unsaid.clauses) → ⊥
unsaid_loose x =
    ∥∥₁_elim (x.unique w₀ ([], tt) (record { ref_ptr = (0, 0); ghost_name = 0; now = [] }, tt) 7 7 ([], tt) (1 ∷ [], tt) (tt, w₀.𝓤.one, ∣ (refl, tt) ∣₁) (tt, w₀.𝓤.one, ∣ (refl, tt) ∣₁)) ⊥_prop
    (λ e. differ (ap (λ (l : List ℕ × Unit {0}). length l.0) e.1))

pub asks_loose : Exact asks.ended (λ _ _. asks.clauses) → ⊥
asks_loose x = ∥∥₁_elim ((x.total w₀ tt (201, tt)).1 w₀.𝓤.one) ⊥_prop (λ h. omega (arith, h.0))

-- to 1 it answers 1, and of that answer the clause on `out` says nothing: any content is allowed
partly_allows : (l : List ℕ) → Allows partly.ended (λ _ _. partly.clauses) w₀ ([], tt) (1, (record { ref_ptr = (0, 0); ghost_name = 0; now = [] }, tt)) 1 (tt, (l, tt))
partly_allows l = let one = w₀.𝓤.one in (tt, one, ∣ (one, one, mem-one-op w₀.𝓤 one, ∣ (refl, tt) ∣₁, ∣ (λ e. absurd (differ (sym e)), tt) ∣₁) ∣₁)

pub partly_loose : Exact partly.ended (λ _ _. partly.clauses) → ⊥
partly_loose x =
    ∥∥₁_elim (x.unique w₀ ([], tt) (1, (record { ref_ptr = (0, 0); ghost_name = 0; now = [] }, tt)) 1 1 (tt, ([], tt)) (tt, (1 ∷ [], tt)) (partly_allows []) (partly_allows (1 ∷ []))) ⊥_prop
    (λ e. differ (ap (λ (l : Unit {0} × (List ℕ × Unit {0})). length l.1.0) e.1))
