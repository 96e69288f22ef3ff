-- Numbers as text: each store as a law, and how long a word is. Assumes nothing.
use Prim.Native.Nat.{ℕ, zero, suc, ◌+◌, ◌*◌, ◌/◌, ◌%◌, ◌≤◌, ◌<◌}
use mathlib.Core.Path.{◌≡◌, refl, sym, ap, ◌∙◌}
use mathlib.Core.List.{List, [], ◌∷◌, ◌++◌}
use mathlib.Core.Logic.{⊎_elim}
use native.Mathlib.Nat.{mod-mod}
use native.Mathlib.Omega.{arith}
use mir.Val.{Fits}
use mir.Syntax.{w16, w64}
use lib.ListN.{length, set, length-append}
use borrow.Author.Tests.{lt-ltb, le-ltb}
use Rattle.wire.specs.Answers.{PutAt}
use Rattle.wire.proofs.Numbers.{below_or}
use Rattle.wire.proofs.Stores.{sets_onto}
use Rattle.hex_digits.specs.Hex.{hex_digit}
use Rattle.nested.specs.Nested.{Row}
use Rattle.dump_text.specs.Text.{space, newline, decimal_by, decimal, word, hex_word, line, max_line, roomy}

-- ---- one behind another
module _ (a b l m n : List ℕ) (at p q : ℕ) where
  pub placed_then : PutAt at a l p m → PutAt p b m q n → PutAt at (a ++ b) l q n
  placed_then x y = record {
    ends = omega (arith, x.ends, y.ends, length-append a b);
    stored = sets_onto l m n a b at p x.stored x.ends y.stored;
  }

placed_one : (a l m n : List ℕ) (at p c : ℕ) → PutAt at a l p m → n ≡ set m p c → PutAt at (a ++ (c ∷ [])) l (p + 1) n
placed_one a l m n at p c x e = placed_then a (c ∷ []) l m n at p (p + 1) x (record { ends = refl; stored = e })

-- ---- decimal

-- the first number that wants another digit
abbrev full : ℕ → ℕ
full zero = 10
full (suc k) = 10 * full k

-- a place more than a number needs changes nothing
enough : (k v : ℕ) → v < full k → decimal_by (suc k) v ≡ decimal_by k v
unfolding decimal_by
enough zero v h = simp (lt-ltb v 10 h) (ap (λ (n : ℕ). (48 + n) ∷ []) (omega arith))
enough (suc k) v h =
    ⊎_elim (λ l. simp (lt-ltb v 10 l) refl)
    (λ l. simp (le-ltb v 10 l) (ap (λ (x : List ℕ). x ++ ((48 + v % 10) ∷ [])) (enough k (v / 10) (omega arith))))
    (below_or v 10)

low_digit : (v : ℕ) → v < 10 → decimal v ≡ (48 + v) ∷ []
unfolding decimal_by
low_digit v h = simp (lt-ltb v 10 h) refl

more_digits : (v : ℕ) → 10 ≤ v → v < 65536 → decimal v ≡ decimal (v / 10) ++ ((48 + v % 10) ∷ [])
unfolding decimal_by
more_digits v h g = simp (le-ltb v 10 h) (ap (λ (x : List ℕ). x ++ ((48 + v % 10) ∷ [])) (sym (enough 3 (v / 10) (omega arith))))

decimal_most : (k v : ℕ) → length (decimal_by k v) ≤ suc k
unfolding decimal_by
decimal_most zero v = omega arith
decimal_most (suc k) v =
    ⊎_elim (λ l. simp (lt-ltb v 10 l) (omega arith))
    (λ l. simp (le-ltb v 10 l) (omega (arith, length-append (decimal_by k (v / 10)) ((48 + v % 10) ∷ []), decimal_most k (v / 10))))
    (below_or v 10)

module _ (old new : List ℕ) (at v : ℕ) where
  pub decimal_low : v < 10 → new ≡ set old at (48 + v) → PutAt at (decimal v) old (at + 1) new
  decimal_low h e = rw (low_digit v h) (record { ends = refl; stored = e })

  pub decimal_more : (mid : List ℕ) (last : ℕ) → 10 ≤ v → Fits w16 v → PutAt at (decimal (v / 10)) old last mid → new ≡ set mid last (48 + v % 10)
      → PutAt at (decimal v) old (last + 1) new
  decimal_more mid last h f p e = rw (more_digits v h (omega (arith, f.fits))) (placed_one (decimal (v / 10)) old mid new at last (48 + v % 10) p e)

  pub word_placed : (mid : List ℕ) (last end : ℕ) → PutAt at (decimal v) old last mid → new ≡ set mid last end → PutAt at (word v end) old (last + 1) new
  word_placed mid last end p e = placed_one (decimal v) old mid new at last end p e

  pub decimal_fits : (last : ℕ) → at ≤ roomy → PutAt at (decimal v) old last new → Fits w64 (last + 1)
  decimal_fits last h p = record { fits = omega (arith, p.ends, decimal_most 4 v) }

pub ruleset word_laws = (decimal_low, decimal_more, word_placed, decimal_fits)

-- ---- hex
hex_low : (w : ℕ) → hex_digit (w % 16) ≡ hex_digit w
unfolding hex_digit
hex_low w = rw (mod-mod w 16)

pub hex_placed : (old a b new : List ℕ) (at v x y : ℕ) → x ≡ hex_digit (v / 16 % 16) → y ≡ hex_digit (v % 16) → a ≡ set old at x → b ≡ set a (at + 1) y
    → new ≡ set b (at + 2) space → PutAt at (hex_word v) old (at + 3) new
hex_placed old a b new at v x y p q e f g =
    let one : at + 1 ≡ suc at = omega arith in
    let two : at + 2 ≡ suc (suc at) = omega arith in
    let i : hex_digit (v / 16) ≡ x = sym (p ∙ hex_low (v / 16)) in
    let j : hex_digit v ≡ y = sym (q ∙ hex_low v) in
    record { ends = refl; stored = rw (g, f, e, one, two, i, j) }

-- ---- how long
pub word_most : (v end : ℕ) → length (word v end) ≤ 6
word_most v end = omega (arith, length-append (decimal v) (end ∷ []), decimal_most 4 v)

line_parts : (a h b c : List ℕ) → length a ≤ 6 → length h ≤ 3 → length b ≤ 6 → length c ≤ 6 → length (a ++ (h ++ (b ++ c))) ≤ max_line
line_parts a h b c p q r t = omega (arith, length-append a (h ++ (b ++ c)), length-append h (b ++ c), length-append b c)

pub line_most : (r : Row) → length (line r) ≤ max_line
line_most r =
    line_parts (word r.depth space) (hex_word r.service) (word r.path_len space) (word r.data_len newline)
    (word_most r.depth space)
    (omega arith)
    (word_most r.path_len space)
    (word_most r.data_len newline)
