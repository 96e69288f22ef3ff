-- Lines, and the text of what was read: each end as a law with plain conditions, and how long a text is. Assumes nothing.
use Prim.Native.Nat.{ℕ, suc, ◌+◌, ◌*◌, ◌-◌, ◌≤◌, ◌<◌}
use mathlib.Core.Path.{◌≡◌, refl, sym, ap, ◌∙◌}
use mathlib.Core.List.{List, [], ◌∷◌, ◌++◌}
use native.Mathlib.Nat.{add-zero, zero-add}
use native.Mathlib.Omega.{arith}
use lib.ListN.{length, get_or, drop, length-append}
use lib.Seq.{sets, length-sets, get_or-drop}
use Rattle.std.specs.Prelude.{Result, Ok, Err}
use Rattle.wire.specs.Refusals.{number}
use Rattle.wire.specs.Parts.{overlay}
use Rattle.wire.specs.Folds.{joined}
use Rattle.wire.specs.Answers.{Answer, done, refused, paper, written, Put, PutAt, or_zero}
use Rattle.wire.specs.declared.Refusal.{Refusal}
use Rattle.wire.proofs.Rules.{rules}
use Rattle.wire.proofs.Stores.{sets_append, sets_onto, sets_overlay, past_part}
use Rattle.nested.specs.Nested.{max_rows, row_size, Row, row_values, nested, counted, stored_rows}
use Rattle.nested.proofs.Few.{most_rows}
use Rattle.nested.proofs.RowLaws.{counted_fits, lent_none}
use Rattle.dump_text.specs.Text.{space, newline, word, hex_word, line, refused_word, refused_line, text_of, dump_text, text_answer, text_over, max_line, max_text, row_at, lines_from, text_in, roomy}
use Rattle.dump_text.proofs.WordLaws.{placed_then, word_most, line_most}

-- ---- a line
module _ (old a : List ℕ) (at p d : ℕ) (w : PutAt at (word d space) old p a) where
  pub line_hex : at ≤ max_text → p ≤ roomy
  line_hex h = omega (arith, w.ends, word_most d space)

  module _ (b : List ℕ) (q s : ℕ) (x : PutAt p (hex_word s) a q b) where
    pub line_path : at ≤ max_text → q ≤ roomy
    line_path h = omega (arith, w.ends, x.ends, word_most d space)

    module _ (c : List ℕ) (r n : ℕ) (y : PutAt q (word n space) b r c) where
      pub line_data : at ≤ max_text → r ≤ roomy
      line_data h = omega (arith, w.ends, x.ends, y.ends, word_most d space, word_most n space)

      pub line_placed : (new l : List ℕ) (e k m : ℕ) → PutAt r (word m newline) c e new → d ≡ get_or l (row_size * k) 0 → s ≡ get_or l (row_size * k + 1) 0 → n ≡ get_or l (row_size * k + 2) 0
          → m ≡ get_or l (row_size * k + 3) 0 → PutAt at (line (row_at l k)) old e new
      line_placed new l e k m z i j f g =
          rw (← i, ← j, ← f, ← g)
          (placed_then (word d space) _ old a new at p e w
          (placed_then (hex_word s) _ a b new p q e x (placed_then (word n space) _ b c new q r e y z)))

pub ruleset line_laws = (line_hex, line_path, line_data, line_placed)

-- ---- lines

-- what holds before row k of n: what is left to store gives what the whole gives
pub record Lines (l : List ℕ) (n k at : ℕ) (old out : List ℕ) : Type 0 where
  pub most : k ≤ n
  pub small : at ≤ max_line * k
  pub size : at + length (lines_from (n - k) l k) ≡ length (lines_from n l 0)
  pub left : sets out at (lines_from (n - k) l k) ≡ sets old 0 (lines_from n l 0)
  pub same : length out ≡ length old

pub lines_first : (l : List ℕ) (n : ℕ) (old : List ℕ) → Lines l n 0 0 old old
lines_first l n old =
    let z : n - 0 ≡ n = omega arith in
    record { most = omega arith; small = omega arith; size = rw z (zero-add _); left = rw z; same = refl }

module _ (l : List ℕ) (n k at : ℕ) (old out : List ℕ) (h : Lines l n k at old out) where
  pub lines_end : n ≤ k → Put (lines_from n l 0) old at out
  unfolding lines_from
  lines_end g =
      let z : n - k ≡ 0 = omega arith in
      record { size = sym (add-zero at) ∙ rw z at h.size; stored = rw z at h.left }

  module _ (g : k < n) (few : n ≤ max_rows) where
    pub lines_row : k ≤ max_rows
    lines_row = omega arith

    pub lines_place : at ≤ max_text
    lines_place = omega (arith, h.small, h.most)

    split : lines_from (n - k) l k ≡ line (row_at l k) ++ lines_from (n - (k + 1)) l (k + 1)
    unfolding lines_from
    split = let e : n - k ≡ suc (n - (k + 1)) = omega arith in ap (λ (j : ℕ). lines_from j l k) e

    pub lines_more : (new : List ℕ) (r : ℕ) → PutAt at (line (row_at l k)) out r new → Lines l n (k + 1) r old new
    lines_more new r p =
        let a : List ℕ = line (row_at l k) in
        let b : List ℕ = lines_from (n - (k + 1)) l (k + 1) in
        record {
          most = omega arith;
          small = omega (arith, p.ends, h.small, line_most (row_at l k));
          size = omega (arith, p.ends, h.size, ap length split, length-append (line (row_at l k)) (lines_from (n - (k + 1)) l (k + 1)));
          left =
              ap (λ (x : List ℕ). sets x r b) p.stored
              ∙ ap (λ (j : ℕ). sets (sets out at a) j b) p.ends
              ∙ sets_append out a b at
              ∙ ap (λ (x : List ℕ). sets out at x) (sym split)
              ∙ h.left;
          same = ap length p.stored ∙ length-sets out at a ∙ h.same;
        }

pub ruleset lines_laws = (lines_first, lines_end, lines_row, lines_place, lines_more)

-- ---- a refusal, and a text
pub refused_put : (old mid new : List ℕ) (v k r : ℕ) → v ≡ k → mid ≡ sets old 0 refused_word → PutAt 8 (word v newline) mid r new
    → Put (refused_line k) old r new
refused_put old mid new v k r i e p = rw (← i) (record {
  size = p.ends ∙ omega arith;
  stored = sets_onto old mid new refused_word (word v newline) 0 8 e refl p.stored;
})

module _ (c : Result ℕ Refusal) (l : List ℕ) (old new : List ℕ) (r : ℕ) where
  pub text_lines : (n : ℕ) → c ≡ Ok n → Put (lines_from n l 0) old r new → Put (text_in (paper c) l) old r new
  text_lines n h p = rw h p

  pub text_refused : (e : Refusal) → c ≡ Err e → Put (refused_line (number e)) old r new → Put (text_in (paper c) l) old r new
  text_refused e h p = rw h p

pub text_few : (c : Result ℕ Refusal) (n : ℕ) → c ≡ Ok n → or_zero (paper c) ≤ max_rows → n ≤ max_rows
text_few c n h b = rw h at b

pub ruleset text_laws = (text_lines, text_refused, text_few)

-- ---- rows in a run of numbers, as lines
rows_lines : (rs : List Row) (l t : List ℕ) (k : ℕ) → drop (row_size * k) l ≡ joined row_values rs ++ t → lines_from (length rs) l k ≡ joined line rs
unfolding lines_from
rows_lines [] l t k e = refl
rows_lines (r ∷ rs) l t k e =
    let at : (i : ℕ) → get_or l (row_size * k + i) 0 ≡ get_or (joined row_values (r ∷ rs) ++ t) i 0 = λ i. sym (get_or-drop (row_size * k) l i 0) ∙ ap (λ (x : List ℕ). get_or x i 0) e in
    let a0 : get_or l (row_size * k) 0 ≡ r.depth = ap (λ (j : ℕ). get_or l j 0) (sym (add-zero (row_size * k))) ∙ at 0 in
    let a1 : get_or l (row_size * k + 1) 0 ≡ r.service = at 1 in
    let a2 : get_or l (row_size * k + 2) 0 ≡ r.path_len = at 2 in
    let a3 : get_or l (row_size * k + 3) 0 ≡ r.data_len = at 3 in
    let z : row_size * k + row_size ≡ row_size * (k + 1) = omega arith in
    let f : drop (row_size * (k + 1)) l ≡ joined row_values rs ++ t = ap (λ (j : ℕ). drop j l) (sym z) ∙ past_part l (row_values r) (joined row_values rs ++ t) (row_size * k) e in
    rw (a0, a1, a2, a3) (ap (λ (x : List ℕ). line r ++ x) (rows_lines rs l t (k + 1) f))

module _ (s l : List ℕ) (room : length l ≡ row_size * max_rows) where
  -- there is room for the rows of every message
  has_room : (rs : List Row) → nested s ≡ done rs → counted (done rs) (length l) ≡ done (length rs)
  has_room rs e = counted_fits (done rs) rs (length l) refl (omega (arith, room, most_rows s rs e))

  text_is : text_in (counted (nested s) (length l)) (stored_rows (nested s) l) ≡ dump_text s
  unfolding dump_text overlay stored_rows counted
  text_is = go (nested s) refl
    where
      front : (rs : List Row) → lines_from (length rs) (overlay (joined row_values rs) l) 0 ≡ joined line rs
      front rs = rows_lines rs (overlay (joined row_values rs) l) (drop (length (joined row_values rs)) l) 0 refl

      go : (w : Answer (List Row)) → nested s ≡ w → text_in (counted w (length l)) (stored_rows w l) ≡ text_of w
      go (refused k) e = refl
      go (done rs) e =
          let q : counted (done rs) (length l) ≡ done (length rs) = has_room rs e in
          ap (λ (a : Answer ℕ). text_in a (written a (joined row_values rs) l)) q ∙ front rs

  pub dump_few : (c : Result ℕ Refusal) → paper c ≡ counted (nested s) (length l) → or_zero (paper c) ≤ max_rows
  unfolding counted
  dump_few c e = rw e (go (nested s) refl)
    where
      go : (w : Answer (List Row)) → nested s ≡ w → or_zero (counted w (length l)) ≤ max_rows
      go (refused k) e = omega arith
      go (done rs) e = rw (has_room rs e) (most_rows s rs e)

-- ---- the text of a message, first stored nowhere
module _ (s l0 l old : List ℕ) (room : length l0 ≡ row_size * max_rows) (c : Result ℕ Refusal) (ce : paper c ≡ counted (nested s) (length l0)) (le : l ≡ stored_rows (nested s) l0) where
  same_text : text_in (paper c) l ≡ dump_text s
  same_text = rw (ce, le) (text_is s l0 room)

  module _ (n : ℕ) (l' : List ℕ) (p : Put (text_in (paper c) l) [] n l') (z : length l' ≡ 0) where
    long : n ≡ length (dump_text s)
    long = p.size ∙ ap length same_text

    pub dump_small : length (l' ++ old) < n → refused 2 ≡ text_answer s (length old)
    dump_small h = let k : length old < length (dump_text s) = omega (arith, long, ap length (lent_none l' old z)) in search rules

    pub dump_small_bytes : (m : List ℕ) → length (l' ++ old) < n → m ≡ l' ++ old → m ≡ text_over s old
    dump_small_bytes m h g = g ∙ lent_none l' old z ∙ ap (λ (a : Answer ℕ). written a (dump_text s) old) (dump_small h)

    module _ (h : n ≤ length (l' ++ old)) where
      fits : length (dump_text s) ≤ length old
      fits = omega (arith, long, ap length (lent_none l' old z))

      enough : done (length (dump_text s)) ≡ text_answer s (length old)
      enough = let k = fits in search rules

      pub dump_done : done n ≡ text_answer s (length old)
      dump_done = ap done long ∙ enough

      pub dump_done_bytes : (m : ℕ) (new : List ℕ) → Put (text_in (paper c) l) (l' ++ old) m new → new ≡ text_over s old
      dump_done_bytes m new q =
          q.stored
          ∙ ap (λ (x : List ℕ). sets x 0 (text_in (paper c) l)) (lent_none l' old z)
          ∙ ap (λ (x : List ℕ). sets old 0 x) same_text
          ∙ sets_overlay old (dump_text s) fits
          ∙ ap (λ (a : Answer ℕ). written a (dump_text s) old) enough

pub ruleset dump_laws = (dump_few, dump_small, dump_small_bytes, dump_done, dump_done_bytes)

-- ---- no text is longer than the room that the dump program has
lines_most : (rs : List Row) → length (joined line rs) ≤ max_line * length rs
lines_most [] = omega arith
lines_most (r ∷ rs) = omega (arith, length-append (line r) (joined line rs), line_most r, lines_most rs)

pub dump_most : (s : List ℕ) → length (dump_text s) ≤ max_text
unfolding dump_text
dump_most s = go (nested s) refl
  where
    go : (w : Answer (List Row)) → nested s ≡ w → length (text_of w) ≤ max_text
    go (refused k) e = omega (arith, word_most k newline)
    go (done rs) e = omega (arith, lines_most rs, most_rows s rs e)
