-- Laws of numbers in bytes, once over the width. Assumes nothing.
use Prim.Native.Nat.{ℕ, zero, suc, ◌+◌, ◌*◌, ◌/◌, ◌%◌, ◌^◌, ◌≤◌, ◌<◌}
use mathlib.Core.Path.{◌≡◌, refl, sym, ap, ◌∙◌}
use mathlib.Core.List.{List, [], ◌∷◌, ◌++◌}
use mathlib.Core.Bool.{Bool, true, false}
use mathlib.Core.Logic.{◌⊎◌, inl, inr}
use lib.Dec.{ltb}
use borrow.Author.Tests.{ltb-true, ltb-false}
use native.Mathlib.Nat.{add-zero, pow-suc}
use native.Mathlib.Omega.{arith}
use lib.ListN.{length, get_or, take, drop, get_or-eq_default, drop_of_length-le}
use lib.Seq.{get_or-drop, drop-drop}
use Rattle.wire.specs.Numbers.{value_of, low_first, Bytes}
use Rattle.wire.specs.Parts.{part}

-- ---- a number at a place

pub byte_here : (s : List ℕ) (at : ℕ) → get_or (drop at s) 0 0 ≡ get_or s at 0
byte_here s at = get_or-drop at s 0 0 ∙ rw (add-zero at)

pub byte_past : (s : List ℕ) (at : ℕ) → length s ≤ at → 0 ≡ get_or s at 0
byte_past s at h = sym (get_or-eq_default s 0 h)

-- past the end every byte is 0
value_none : (k : ℕ) → 0 ≡ value_of k []
unfolding value_of
value_none zero = refl
value_none (suc k) = omega (arith, value_none k)

pub value_past : (k : ℕ) (s : List ℕ) (at : ℕ) → length s ≤ at → 0 ≡ value_of k (drop at s)
value_past k s at h = rw (drop_of_length-le s h) (value_none k)

-- two bytes, and two numbers of two bytes
pub value_two : (s : List ℕ) (at a b : ℕ) → a ≡ get_or s at 0 → b ≡ get_or s (at + 1) 0 → a + 256 * b ≡ value_of 2 (drop at s)
unfolding value_of
value_two s at a b p q =
    omega (arith, byte_here s at, ap (λ (l : List ℕ). get_or l 0 0) (drop-drop 1 at s) ∙ byte_here s (at + 1))

pub value_four : (s : List ℕ) (at a b : ℕ) → a ≡ value_of 2 (drop at s) → b ≡ value_of 2 (drop (at + 2) s) → a + 65536 * b ≡ value_of 4 (drop at s)
unfolding value_of
value_four s at a b p q =
    let f : drop (at + 2) s ≡ drop 1 (drop 1 (drop at s)) = sym (drop-drop 1 1 (drop at s) ∙ drop-drop 2 at s) in
    let g : b ≡ value_of 2 (drop 1 (drop 1 (drop at s))) = q ∙ ap (value_of 2) f in
    omega arith

pub ruleset number_laws = (byte_past, value_past, value_two, value_four)

-- ---- from a number to its bytes and back

pub value_low : (k v : ℕ) (r : List ℕ) → v < 256 ^ k → value_of k (low_first k v ++ r) ≡ v
unfolding value_of
value_low zero v r h = omega arith
value_low (suc k) v r h =
    let b : v / 256 < 256 ^ k = omega (arith, pow-suc 256 k) in
    rw (value_low k (v / 256) r b) (omega arith)

pub low_value : (k : ℕ) (s : List ℕ) → Bytes s → k ≤ length s → low_first k (value_of k s) ≡ take k s
unfolding value_of
low_value zero s b h = refl
low_value (suc k) [] b h = absurd (omega arith)
low_value (suc k) (x ∷ s) b h =
    let a : x < 256 = b 0 in
    let p : (x + 256 * value_of k s) % 256 ≡ x = omega arith in
    let q : (x + 256 * value_of k s) / 256 ≡ value_of k s = omega arith in
    rw (p, q, low_value k s (λ i. b (suc i)) (omega arith))

pub low_length : (k v : ℕ) → length (low_first k v) ≡ k
low_length zero v = refl
low_length (suc k) v = ap suc (low_length k (v / 256))

-- the bytes of a number are bytes
pub low_bytes : (k v : ℕ) → Bytes (low_first k v)
low_bytes zero v i = omega arith
low_bytes (suc k) v zero = omega arith
low_bytes (suc k) v (suc i) = low_bytes k (v / 256) i

-- what k bytes hold is below 256 ^ k
pub value_small : (k : ℕ) (s : List ℕ) → Bytes s → value_of k s < 256 ^ k
unfolding value_of
value_small zero s b = omega arith
value_small (suc k) s b =
    omega (arith, b 0, pow-suc 256 k, value_small k (drop 1 s) (λ i. rw (get_or-drop 1 s i 0) (b (1 + i))))

pub bytes_drop : (s : List ℕ) (at : ℕ) → Bytes s → Bytes (drop at s)
bytes_drop s at b k = rw (get_or-drop at s k 0) (b (at + k))

bytes_take : (n : ℕ) (l : List ℕ) → Bytes l → Bytes (take n l)
bytes_take zero l b k = omega arith
bytes_take (suc n) [] b k = omega arith
bytes_take (suc n) (x ∷ l) b zero = b 0
bytes_take (suc n) (x ∷ l) b (suc k) = bytes_take n l (λ i. b (suc i)) k

pub bytes_part : (s : List ℕ) (at len : ℕ) → Bytes s → Bytes (part s at len)
bytes_part s at len b = bytes_take len (drop at s) (bytes_drop s at b)

-- bytes, as few as they are, hold 0
pub some_power : (k : ℕ) → 0 < 256 ^ k
some_power k = omega (arith, value_small k [] (λ i. omega arith))

-- ---- one of two orders holds
pub below_or : (a b : ℕ) → (a < b) ⊎ (b ≤ a)
below_or a b = go (ltb a b) refl
  where
    go : (t : Bool) → ltb a b ≡ t → (a < b) ⊎ (b ≤ a)
    go true e = inl (ltb-true a b e)
    go false e = inr (ltb-false a b e)

-- ---- the first bytes of what is there
pub first_one : (t : List ℕ) → 1 ≤ length t → take 1 t ≡ get_or t 0 0 ∷ []
first_one [] h = absurd (omega arith)
first_one (a ∷ t) h = refl

pub first_two : (t : List ℕ) → 2 ≤ length t → take 2 t ≡ get_or t 0 0 ∷ get_or t 1 0 ∷ []
first_two [] h = absurd (omega arith)
first_two (a ∷ []) h = absurd (omega arith)
first_two (a ∷ b ∷ t) h = refl
