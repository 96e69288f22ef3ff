-- Lengths and places in a body. Assumes nothing.
use Prim.Native.Nat.{ℕ, suc, ◌+◌, ◌*◌, ◌≤◌}
use mathlib.Core.Path.{◌≡◌, refl, sym, ap, ◌∙◌}
use mathlib.Core.List.{List, [], ◌∷◌, ◌++◌, map}
use native.Mathlib.Omega.{arith}
use lib.ListN.{length-map, length, take, drop, length-append, length-drop}
use lib.Seq.{length-take-le, take-add}
use Rattle.wire.specs.Folds.{joined}
use Rattle.wire.proofs.Numbers.{low_length}
use Rattle.body_sizes.specs.Bodies.{table_end, starts, two_bytes, flat, body_of, cut, sum_of}

pub length_two : (vs : List ℕ) → length (joined two_bytes vs) ≡ 2 * length vs
length_two [] = refl
length_two (v ∷ vs) = length-append (two_bytes v) (joined two_bytes vs) ∙ omega (arith, low_length 2 v, length_two vs)

pub length_starts : (at : ℕ) (ns : List ℕ) → length (starts at ns) ≡ length ns
length_starts at [] = refl
length_starts at (n ∷ ns) = ap suc (length_starts (at + n) ns)

pub length_flat : (xs : List (List ℕ)) → length (flat xs) ≡ sum_of (map length xs)
length_flat [] = refl
length_flat (x ∷ xs) = length-append x (flat xs) ∙ ap (λ (k : ℕ). length x + k) (length_flat xs)

-- a body is its table and then its items
pub length_table : (xs : List (List ℕ)) → length (joined two_bytes (length xs ∷ starts (table_end (length xs)) (map length xs))) ≡ table_end (length xs)
length_table xs =
    length_two (length xs ∷ starts (table_end (length xs)) (map length xs))
    ∙ omega (arith, length_starts (table_end (length xs)) (map length xs), length-map xs length)

pub length_body : (xs : List (List ℕ)) → length (body_of xs) ≡ table_end (length xs) + length (flat xs)
unfolding body_of
length_body xs =
    length-append (joined two_bytes (length xs ∷ starts (table_end (length xs)) (map length xs))) (flat xs)
    ∙ ap (λ (k : ℕ). k + length (flat xs)) (length_table xs)

-- ---- items that were lent end to end

pub cut_length : (ns s : List ℕ) → length (cut ns s) ≡ length ns
cut_length [] s = refl
cut_length (n ∷ ns) s = ap suc (cut_length ns (drop n s))

pub cut_flat : (ns s : List ℕ) → flat (cut ns s) ≡ take (sum_of ns) s
cut_flat [] s = refl
cut_flat (n ∷ ns) s = ap (λ (l : List ℕ). take n s ++ l) (cut_flat ns (drop n s)) ∙ sym (take-add n (sum_of ns) s)

pub cut_lengths : (ns s : List ℕ) → sum_of ns ≤ length s → map length (cut ns s) ≡ ns
cut_lengths [] s h = refl
cut_lengths (n ∷ ns) s h =
    rw (length-take-le n s (omega arith), cut_lengths ns (drop n s) (simp length-drop (omega arith)))
