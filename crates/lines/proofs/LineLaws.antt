-- Each end of the code, as a law with plain conditions. Assumes nothing.
use Prim.Native.Nat.{ℕ, ◌+◌, ◌/◌, ◌%◌, ◌-◌, ◌≤◌, ◌<◌}
use mathlib.Core.Path.{◌≡◌, refl, sym, ap, ◌∙◌}
use mathlib.Core.List.{List}
use native.Mathlib.Omega.{arith}
use lib.ListN.{set}
use mathlib.Core.Bool.{Bool, true, false}
use lib.Dec.{leb}
use borrow.Author.Tests.{le-leb, lt-leb, leb-true, leb-false, eq-eqb, ne_eqb}
use Rattle.std.specs.Prelude.{Some, None}
use Rattle.wire.specs.Choice.{pick}
use Rattle.lines.specs.Lines.{max_digits, no_digit, hex_value, digit_of, byte_of, next_digit, kept_digit, next_char, kept_char, next, kept, case_of, case_line}
use Rattle.lines.specs.declared.Line.{Line}
use Rattle.lines.specs.declared.Case.{Case}

-- ---- the value of a character
module _ (b : ℕ) where
  pub below_digits : b ≤ 47 → no_digit ≡ hex_value b
  unfolding hex_value
  below_digits h = simp (le-leb b 47 h)

  pub is_digit : 47 < b → b ≤ 57 → b - 48 ≡ hex_value b
  unfolding hex_value
  is_digit h l = simp (lt-leb b 47 h, le-leb b 57 l)

  pub below_capitals : 57 < b → b ≤ 64 → no_digit ≡ hex_value b
  unfolding hex_value
  below_capitals h l = simp (lt-leb b 47 (omega arith), lt-leb b 57 h, le-leb b 64 l)

  pub is_capital : 64 < b → b ≤ 70 → b - 55 ≡ hex_value b
  unfolding hex_value
  is_capital h l = simp (lt-leb b 47 (omega arith), lt-leb b 57 (omega arith), lt-leb b 64 h, le-leb b 70 l)

  pub below_small : 70 < b → b ≤ 96 → no_digit ≡ hex_value b
  unfolding hex_value
  below_small h l = simp (lt-leb b 47 (omega arith), lt-leb b 57 (omega arith), lt-leb b 64 (omega arith), lt-leb b 70 h, le-leb b 96 l)

  pub is_small : 96 < b → b ≤ 102 → b - 87 ≡ hex_value b
  unfolding hex_value
  is_small h l =
      simp (lt-leb b 47 (omega arith), lt-leb b 57 (omega arith), lt-leb b 64 (omega arith), lt-leb b 70 (omega arith), lt-leb b 96 h, le-leb b 102 l)

  pub past_digits : 102 < b → no_digit ≡ hex_value b
  unfolding hex_value
  past_digits h =
      simp
      (lt-leb b 47 (omega arith), lt-leb b 57 (omega arith), lt-leb b 64 (omega arith), lt-leb b 70 (omega arith), lt-leb b 96 (omega arith), lt-leb b 102 h)

-- ---- the same, where there is one
module _ (b : ℕ) where
  found : (v : ℕ) → v ≡ hex_value b → v < no_digit → Some v ≡ digit_of b
  unfolding digit_of
  found v e h = ap Some e ∙ simp (lt-leb no_digit (hex_value b) (omega (arith, e, h)))

  not_found : no_digit ≤ hex_value b → None ≡ digit_of b
  unfolding digit_of
  not_found h = simp (le-leb no_digit (hex_value b) h)

  pub some_digit : 47 < b → b ≤ 57 → Some (b - 48) ≡ digit_of b
  some_digit h l = found (b - 48) (is_digit b h l) (omega arith)

  pub some_capital : 64 < b → b ≤ 70 → Some (b - 65 + 10) ≡ digit_of b
  some_capital h l = found (b - 65 + 10) (omega (arith, is_capital b h l)) (omega arith)

  pub some_small : 96 < b → b ≤ 102 → Some (b - 97 + 10) ≡ digit_of b
  some_small h l = found (b - 97 + 10) (omega (arith, is_small b h l)) (omega arith)

  pub none_below : b ≤ 47 → None ≡ digit_of b
  none_below h = not_found (omega (arith, below_digits b h))

  pub none_capital : 57 < b → b ≤ 64 → None ≡ digit_of b
  none_capital h l = not_found (omega (arith, below_capitals b h l))

  pub none_small : 70 < b → b ≤ 96 → None ≡ digit_of b
  none_small h l = not_found (omega (arith, below_small b h l))

  pub none_past : 102 < b → None ≡ digit_of b
  none_past h = not_found (omega (arith, past_digits b h))

  -- backwards
  pub none_was : None ≡ digit_of b → no_digit ≤ hex_value b
  unfolding digit_of
  none_was e = go (leb no_digit (hex_value b)) refl e
    where
      go : (t : Bool) → leb no_digit (hex_value b) ≡ t → None ≡ pick t None (Some (hex_value b)) → no_digit ≤ hex_value b
      go true p f = leb-true no_digit (hex_value b) p
      go false p f = absurd cc

  pub some_was : (v : ℕ) → Some v ≡ digit_of b → (v ≡ hex_value b) × (v < no_digit)
  unfolding digit_of
  some_was v e = go (leb no_digit (hex_value b)) refl e
    where
      go : (t : Bool) → leb no_digit (hex_value b) ≡ t → Some v ≡ pick t None (Some (hex_value b)) → (v ≡ hex_value b) × (v < no_digit)
      go true p f = absurd cc
      go false p f = let g : v ≡ hex_value b = cc in (g, omega (arith, leb-false no_digit (hex_value b) p))

pub ruleset value_laws = (some_digit, some_capital, some_small, none_below, none_capital, none_small, none_past)

-- ---- one more digit
module _ (n high v : ℕ) (out : List ℕ) where
  pub too_many : max_digits ≤ n → Line.Bad ≡ next_digit n v
  unfolding next_digit
  too_many h = simp (le-leb max_digits n h)

  pub one_more : n < max_digits → Line.Digits (n + 1) v ≡ next_digit n v
  unfolding next_digit
  one_more h = simp (lt-leb max_digits n h)

  pub many_kept : max_digits ≤ n → out ≡ kept_digit n high v out
  unfolding kept_digit
  many_kept h = simp (le-leb max_digits n h)

  pub first_kept : n < max_digits → n % 2 ≡ 0 → out ≡ kept_digit n high v out
  unfolding kept_digit
  first_kept h e = simp (lt-leb max_digits n h, eq-eqb (n % 2) 0 e)

  pub second_kept : (s : List ℕ) (x : ℕ) → n < max_digits → (n % 2 ≡ 0 → ⊥) → x ≡ byte_of high v → s ≡ set out (n / 2) x → s ≡ kept_digit n high v out
  unfolding kept_digit
  second_kept s x h e g k = k ∙ ap (set out (n / 2)) g ∙ simp (lt-leb max_digits n h, ne_eqb (n % 2) 0 e)

pub ruleset take_laws = (too_many, one_more, many_kept, first_kept, second_kept)

-- ---- one more character
module _ (n high b : ℕ) (out : List ℕ) where
  pub blank_next : b ≡ 32 → Line.Digits n high ≡ next_char n high b
  unfolding next_char
  blank_next e = simp (eq-eqb b 32 e)

  pub tab_next : (b ≡ 32 → ⊥) → b ≡ 9 → Line.Digits n high ≡ next_char n high b
  unfolding next_char
  tab_next p e = simp (ne_eqb b 32 p, eq-eqb b 9 e)

  pub comment_next : (b ≡ 32 → ⊥) → (b ≡ 9 → ⊥) → b ≡ 35 → Line.Comment n ≡ next_char n high b
  unfolding next_char
  comment_next p q e = simp (ne_eqb b 32 p, ne_eqb b 9 q, eq-eqb b 35 e)

  no_digit_lem : no_digit ≤ hex_value b → out ≡ kept_char n high b out
  unfolding kept_char
  no_digit_lem h = simp (le-leb no_digit (hex_value b) h)

  -- a blank, a tab, a comment's mark: each stands below the digits
  pub low_kept : (c : ℕ) → b ≡ c → leb c 47 ≡ true → out ≡ kept_char n high b out
  low_kept c e h = no_digit_lem (omega (arith, below_digits b (omega (arith, e, leb-true c 47 h))))

  module _ (v : ℕ) (is : v ≡ hex_value b) where
    pub digit_kept : (s : List ℕ) → v < no_digit → s ≡ kept_digit n high v out → s ≡ kept_char n high b out
    unfolding kept_char
    digit_kept s h e = e ∙ ap (λ (x : ℕ). kept_digit n high x out) is ∙ simp (lt-leb no_digit (hex_value b) (omega (arith, is, h)))

    module _ (p : b ≡ 32 → ⊥) (q : b ≡ 9 → ⊥) (r : b ≡ 35 → ⊥) where
      pub other_next : no_digit ≤ v → Line.Bad ≡ next_char n high b
      unfolding next_char
      other_next h = simp (ne_eqb b 32 p, ne_eqb b 9 q, ne_eqb b 35 r, le-leb no_digit (hex_value b) (omega (arith, is, h)))

      pub digit_next : (l : Line) → v < no_digit → l ≡ next_digit n v → l ≡ next_char n high b
      unfolding next_char
      digit_next l h e =
          e ∙ ap (next_digit n) is
          ∙ simp (ne_eqb b 32 p, ne_eqb b 9 q, ne_eqb b 35 r, lt-leb no_digit (hex_value b) (omega (arith, is, h)))

  -- what digit_value says of it
  pub none_kept : None ≡ digit_of b → out ≡ kept_char n high b out
  none_kept e = no_digit_lem (none_was b e)

  pub some_kept : (v : ℕ) → Some v ≡ digit_of b → kept_digit n high v out ≡ kept_char n high b out
  some_kept v e = let w = some_was b v e in digit_kept v w.0 (kept_digit n high v out) w.1 refl

  module _ (p : b ≡ 32 → ⊥) (q : b ≡ 9 → ⊥) (r : b ≡ 35 → ⊥) where
    pub none_next : None ≡ digit_of b → Line.Bad ≡ next_char n high b
    none_next e = other_next (hex_value b) refl p q r (none_was b e)

    pub some_next : (v : ℕ) (l : Line) → Some v ≡ digit_of b → l ≡ next_digit n v → l ≡ next_char n high b
    some_next v l e = let w = some_was b v e in digit_next v w.0 p q r l w.1

pub ruleset char_laws = (blank_next, tab_next, comment_next, low_kept, none_kept, some_kept, none_next, some_next)

-- ---- the end of a line
module _ (n : ℕ) where
  pub case_nothing : n ≡ 0 → Case.Nothing ≡ case_of n
  unfolding case_of
  case_nothing e = simp (eq-eqb n 0 e)

  pub case_bytes : (n ≡ 0 → ⊥) → n % 2 ≡ 0 → Case.Bytes (n / 2) ≡ case_of n
  unfolding case_of
  case_bytes p e = simp (ne_eqb n 0 p, eq-eqb (n % 2) 0 e)

  pub case_bad : (n ≡ 0 → ⊥) → (n % 2 ≡ 0 → ⊥) → Case.Bad ≡ case_of n
  unfolding case_of
  case_bad p q = simp (ne_eqb n 0 p, ne_eqb (n % 2) 0 q)

pub ruleset case_laws = (case_nothing, case_bytes, case_bad)
