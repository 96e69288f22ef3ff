-- Two loops over any element: one adds sizes, one stores bytes. A path's segments, a body's items and a list of lengths are instances.
-- As a turn begins, what is left of the list gives what the whole list gives. Assumes nothing.
use mathlib.Core.Path.{◌≡◌, refl, sym, ap, ◌∙◌}
use mathlib.Core.List.{List, [], ◌∷◌, ◌++◌, append_assoc}
use Prim.Native.Nat.{ℕ, ◌+◌, ◌*◌, ◌-◌, ◌≤◌}
use native.Mathlib.Nat.{add-zero}
use native.Mathlib.Omega.{arith}
use lib.ListN.{length, length-append, take, drop, drop_of_length-le}
use lib.Seq.{sets, length-sets}
use Rattle.wire.specs.Answers.{Answer, done, refused, plus, Put}
use Rattle.wire.specs.Folds.{sizes, joined}
use Rattle.wire.proofs.Answers.{plus_none, plus_assoc, Parts, plus_parts}
use Rattle.wire.proofs.Stores.{sets_append, sets_lent}

-- ---- adding sizes, each at most `most`
module _ {A : Type 0} (size : A → Answer ℕ) where
  pub sizes_append : (a b : List A) → sizes size (a ++ b) ≡ plus (sizes size a) (sizes size b)
  sizes_append [] b = sym (plus_none (sizes size b))
  sizes_append (x ∷ a) b = ap (plus (size x)) (sizes_append a b) ∙ sym (plus_assoc (size x) (sizes size a) (sizes size b))

  module _ (most : ℕ) (bound : (x : A) (n : ℕ) → size x ≡ done n → n ≤ most) (xs : List A) where
    pub record Adding (total i : ℕ) : Type 0 where
      pub small : total ≤ most * i
      pub rest : plus (done total) (sizes size (drop i xs)) ≡ sizes size xs

    pub adding_first : Adding 0 0
    adding_first = record { small = omega arith; rest = plus_none (sizes size xs) }

    module _ {total i : ℕ} {x : A} (m : Adding total i) (here : drop i xs ≡ x ∷ drop (i + 1) xs) where
      turn : (y : Answer ℕ) → size x ≡ y → plus (done total) (plus y (sizes size (drop (i + 1) xs))) ≡ sizes size xs
      turn y e =
          ap (λ (q : Answer ℕ). plus (done total) (plus q (sizes size (drop (i + 1) xs)))) (sym e)
          ∙ ap (λ (l : List A). plus (done total) (sizes size l)) (sym here)
          ∙ m.rest

      pub adding_more : (n : ℕ) → size x ≡ done n → Adding (total + n) (i + 1)
      adding_more n e =
          record {
            small = omega (arith, m.small, bound x n e);
            rest = plus_assoc (done total) (done n) (sizes size (drop (i + 1) xs)) ∙ turn (done n) e;
          }

      pub adding_stops : (k : ℕ) → size x ≡ refused k → refused k ≡ sizes size xs
      adding_stops k e = turn (refused k) e

    pub adding_ends : {total i : ℕ} → Adding total i → length xs ≤ i → done total ≡ sizes size xs
    adding_ends {total} {i} m h = ap done (sym (add-zero total)) ∙ ap (λ (l : List A). plus (done total) (sizes size l)) (sym (drop_of_length-le xs h)) ∙ m.rest

-- ---- storing bytes
module _ {A : Type 0} (bytes : A → List ℕ) where
  pub joined_append : (a b : List A) → joined bytes (a ++ b) ≡ joined bytes a ++ joined bytes b
  joined_append [] b = refl
  joined_append (x ∷ a) b = ap (λ (l : List ℕ). bytes x ++ l) (joined_append a b) ∙ sym (append_assoc (bytes x) (joined bytes a) (joined bytes b))

  module _ (xs : List A) where
    pub record Storing (old out : List ℕ) (at i : ℕ) : Type 0 where
      pub room : at + length (joined bytes (drop i xs)) ≤ length out
      pub same : length out ≡ length old
      pub rest : sets out at (joined bytes (drop i xs)) ≡ sets old 0 (joined bytes xs)

    pub storing_first : (out : List ℕ) → length (joined bytes xs) ≤ length out → Storing out out 0 0
    storing_first out r = record { room = omega (arith, r); same = refl; rest = refl }

    module _ {old out : List ℕ} {at i : ℕ} {x : A} (p : Storing old out at i) (here : drop i xs ≡ x ∷ drop (i + 1) xs) where
      split : joined bytes (drop i xs) ≡ bytes x ++ joined bytes (drop (i + 1) xs)
      split = ap (joined bytes) here

      pub storing_fits : at + (length (bytes x) + length (joined bytes (drop (i + 1) xs))) ≤ length out
      storing_fits = omega (arith, p.room, ap length split ∙ length-append (bytes x) (joined bytes (drop (i + 1) xs)))

      -- x was stored in the part of `out` from `at` on
      pub storing_more : {n : ℕ} {new : List ℕ} → Put (bytes x) (take (length out - at) (drop at out)) n new
          → Storing old (take at out ++ (new ++ drop (length out - at) (drop at out))) (at + n) (i + 1)
      storing_more {n} {new} t =
          let e : take at out ++ (new ++ drop (length out - at) (drop at out)) ≡ sets out at (bytes x)
          = ap (λ (l : List ℕ). take at out ++ (l ++ drop (length out - at) (drop at out))) t.stored ∙ sets_lent out (bytes x) at in
          let long : length (take at out ++ (new ++ drop (length out - at) (drop at out))) ≡ length out = ap length e ∙ length-sets out at (bytes x) in
          record {
            room = omega (arith, long, t.size, storing_fits);
            same = long ∙ p.same;
            rest =
                ap (λ (l : List ℕ). sets l (at + n) (joined bytes (drop (i + 1) xs))) e
                ∙ ap (λ (k : ℕ). sets (sets out at (bytes x)) (at + k) (joined bytes (drop (i + 1) xs))) t.size
                ∙ sets_append out (bytes x) (joined bytes (drop (i + 1) xs)) at
                ∙ ap (λ (l : List ℕ). sets out at l) (sym split)
                ∙ p.rest;
          }

    pub storing_ends : {old out : List ℕ} {at i : ℕ} → Storing old out at i → length xs ≤ i → out ≡ sets old 0 (joined bytes xs)
    storing_ends {out = out} {at = at} p h = ap (λ (l : List A). sets out at (joined bytes l)) (sym (drop_of_length-le xs h)) ∙ p.rest

-- sizes that are those of the bytes add up to the size of all of them
pub sizes_joined : {A : Type 0} (size : A → Answer ℕ) (bytes : A → List ℕ) → ((x : A) (n : ℕ) → size x ≡ done n → n ≡ length (bytes x))
    → (xs : List A) (n : ℕ) → sizes size xs ≡ done n → n ≡ length (joined bytes xs)
sizes_joined size bytes is [] n h = cc
sizes_joined size bytes is (x ∷ xs) n h =
    let p : Parts (size x) (sizes size xs) n = plus_parts (size x) (sizes size xs) n h in
    omega (arith, p.sum, is x p.first p.first_is, sizes_joined size bytes is xs p.second p.second_is, length-append (bytes x) (joined bytes xs))
