-- The text of bytes, two capital digits each, is read back as those bytes; blanks count for nothing. Assumes nothing.
use Prim.Native.Nat.{ℕ, suc, ◌+◌, ◌*◌, ◌/◌, ◌%◌, ◌≤◌, ◌<◌}
use mathlib.Core.Path.{◌≡◌, refl, sym, ap, ◌∙◌}
use mathlib.Core.List.{List, [], ◌∷◌}
use mathlib.Core.Logic.{◌⊎◌, ⊎_elim}
use native.Mathlib.Omega.{arith}
use lib.ListN.{length, set}
use lib.Seq.{sets}
use Rattle.wire.specs.Numbers.{Bytes}
use Rattle.wire.proofs.Numbers.{below_or}
use Rattle.hex_digits.specs.Hex.{hex_digit, hex_text}
use Rattle.hex_digits.proofs.HexLaws.{ten_digit, letter_digit}
use Rattle.lines.specs.Lines.{max_digits, no_digit, hex_value, byte_of, start, next, kept, taken, taken_bytes, case_of, case_line}
use Rattle.lines.specs.declared.Line.{Line}
use Rattle.lines.specs.declared.Case.{Case}
use Rattle.lines.proofs.LineLaws.{is_digit, is_capital, one_more, first_kept, second_kept, digit_next, digit_kept, blank_next, tab_next, low_kept, case_bytes}

-- ---- a digit says its value

digit_form : (v : ℕ) → (48 ≤ hex_digit v) × (hex_value (hex_digit v) ≡ v % 16)
digit_form v = ⊎_elim
    (λ (h : 9 < v % 16).
    let e : 55 + v % 16 ≡ hex_digit v = letter_digit v h in
    let m : v % 16 < 16 = omega arith in
    (omega (arith, e, h), sym (is_capital (hex_digit v) (omega (arith, e, h)) (omega (arith, e, m))) ∙ omega (arith, e)))
    (λ (h : v % 16 ≤ 9).
    let e : 48 + v % 16 ≡ hex_digit v = ten_digit v h in
    (omega (arith, e), sym (is_digit (hex_digit v) (omega (arith, e)) (omega (arith, e, h))) ∙ omega (arith, e)))
    (below_or 9 (v % 16))

pub value_digit : (v : ℕ) → hex_value (hex_digit v) ≡ v % 16
value_digit v = (digit_form v).1

-- ---- one digit more

module _ (n high v : ℕ) (room : n < max_digits) where
  no_blank : (c : ℕ) → c < 48 → hex_digit v ≡ c → ⊥
  no_blank c h e = omega (arith, (digit_form v).0, e, h)

  small : hex_value (hex_digit v) < no_digit
  small = let m : v % 16 < 16 = omega arith in omega (arith, value_digit v, m)

  digit_taken : next (Line.Digits n high) (hex_digit v) ≡ Line.Digits (n + 1) (v % 16)
  digit_taken =
      sym
      (digit_next n high (hex_digit v) [] (hex_value (hex_digit v)) refl (no_blank 32 (omega arith)) (no_blank 9 (omega arith)) (no_blank 35 (omega arith)) _ small (one_more n high (hex_value (hex_digit v)) [] room))
      ∙ ap (Line.Digits (n + 1)) (value_digit v)

  module _ (out : List ℕ) where
    first_digit : n % 2 ≡ 0 → kept (Line.Digits n high) (hex_digit v) out ≡ out
    first_digit e = sym (digit_kept n high (hex_digit v) out _ refl out small (first_kept n high _ out room e))

    second_digit : (n % 2 ≡ 0 → ⊥) → kept (Line.Digits n high) (hex_digit v) out ≡ set out (n / 2) (byte_of high (v % 16))
    second_digit e =
        sym (digit_kept n high (hex_digit v) out _ refl _ small (second_kept n high _ out _ _ room e refl refl))
        ∙ ap (λ (x : ℕ). set out (n / 2) (byte_of high x)) (value_digit v)

-- ---- the two digits of a byte, and all of them

module _ (k high b : ℕ) (out : List ℕ) (byte : b < 256) (room : 2 * k + 2 ≤ max_digits) where
  pair_taken : next (next (Line.Digits (2 * k) high) (hex_digit (b / 16))) (hex_digit b) ≡ Line.Digits (2 * (k + 1)) (b % 16)
  pair_taken =
      ap (λ (l : Line). next l (hex_digit b)) (digit_taken (2 * k) high (b / 16) (omega (arith, room)))
      ∙ digit_taken (2 * k + 1) (b / 16 % 16) b (omega (arith, room))
      ∙ ap (λ (n : ℕ). Line.Digits n (b % 16)) (omega arith)

  pair_kept : kept (next (Line.Digits (2 * k) high) (hex_digit (b / 16))) (hex_digit b) (kept (Line.Digits (2 * k) high) (hex_digit (b / 16)) out) ≡ set out k b
  pair_kept =
      ap (λ (l : Line). kept l (hex_digit b) (kept (Line.Digits (2 * k) high) (hex_digit (b / 16)) out)) (digit_taken (2 * k) high (b / 16) (omega (arith, room)))
      ∙ ap (kept (Line.Digits (2 * k + 1) (b / 16 % 16)) (hex_digit b)) (first_digit (2 * k) high (b / 16) (omega (arith, room)) out (omega arith))
      ∙ second_digit (2 * k + 1) (b / 16 % 16) b (omega (arith, room)) out (λ e. omega (arith, e))
      ∙ ap (λ (i : ℕ). set out i (byte_of (b / 16 % 16) (b % 16))) (omega arith)
      ∙ ap (set out k) (omega (arith, byte))

text_taken : (bs : List ℕ) (k high : ℕ) (out : List ℕ) → Bytes bs → 2 * (k + length bs) ≤ max_digits
    → (case_line (taken (Line.Digits (2 * k) high) (hex_text bs)) ≡ case_of (2 * (k + length bs))) × (taken_bytes (Line.Digits (2 * k) high) (hex_text bs) out ≡ sets out k bs)
text_taken [] k high out all room = (ap (λ (n : ℕ). case_of (2 * n)) (omega arith), refl)
text_taken (b ∷ bs) k high out all room =
    let byte : b < 256 = all 0 in
    let less : 2 * k + 2 ≤ max_digits = omega (arith, room) in
    let rest = text_taken bs (k + 1) (b % 16) (set out k b) (λ i. all (suc i)) (omega (arith, room)) in
    let one : Line = next (Line.Digits (2 * k) high) (hex_digit (b / 16)) in (
      ap (λ (l : Line). case_line (taken l (hex_text bs))) (pair_taken k high b out byte less)
          ∙ rest.0
          ∙ ap (λ (n : ℕ). case_of (2 * n)) (omega arith),
      ap (λ (l : Line). taken_bytes l (hex_text bs) (kept one (hex_digit b) (kept (Line.Digits (2 * k) high) (hex_digit (b / 16)) out))) (pair_taken k high b out byte less)
          ∙ ap (taken_bytes (Line.Digits (2 * (k + 1)) (b % 16)) (hex_text bs)) (pair_kept k high b out byte less)
          ∙ rest.1
          ∙ ap (λ (n : ℕ). sets (set out k b) n bs) (omega arith),
    )

-- the text of bytes that fit a line is a case of so many bytes, and they are what is lent afterwards, from its front on
pub text_read_back : (bs out : List ℕ) → Bytes bs → 1 ≤ length bs → 2 * length bs ≤ max_digits
    → (case_line (taken start (hex_text bs)) ≡ Case.Bytes (length bs)) × (taken_bytes start (hex_text bs) out ≡ sets out 0 bs)
text_read_back bs out all some room =
    let both = text_taken bs 0 0 out all (omega (arith, room)) in (
      both.0
          ∙ sym (case_bytes (2 * (0 + length bs)) (λ e. omega (arith, e, some)) (omega arith))
          ∙ ap Case.Bytes (omega arith),
      both.1,
    )

-- ---- blanks and tabs

-- neither changes the line or the bytes
pub blanks_pass : (c : ℕ) → (c ≡ 32) ⊎ (c ≡ 9) → (l : Line) (out : List ℕ) → (next l c ≡ l) × (kept l c out ≡ out)
blanks_pass c is (Line.Digits n high) out = ⊎_elim
    (λ (e : c ≡ 32). (sym (blank_next n high c out e), sym (low_kept n high c out 32 e refl)))
    (λ (e : c ≡ 9). (sym (tab_next n high c out (λ f. omega (arith, e, f)) e), sym (low_kept n high c out 9 e refl)))
    is
blanks_pass c is (Line.Comment n) out = (refl, refl)
blanks_pass c is Line.Bad out = (refl, refl)
