-- Rows of replies: a row is seven stores, a turn of the loop is a row, and the ends of the walk. Assumes nothing.
use Prim.Native.Nat.{ℕ, zero, suc, ◌+◌, ◌*◌, ◌-◌, ◌/◌, ◌≤◌, ◌<◌}
use mathlib.Core.Path.{◌≡◌, refl, sym, ap, ◌∙◌}
use mathlib.Core.List.{List, [], ◌∷◌}
use native.Mathlib.Omega.{arith}
use lib.ListN.{length, length-append, get_or, set, drop, drop_of_length-le}
use lib.Seq.{sets, drop-cons, length-sets}
use Rattle.std.specs.Prelude.{Result}
use Rattle.wire.specs.Answers.{Answer, done, refused, paper, under, judged, written}
use Rattle.wire.specs.declared.Refusal.{Refusal}
use Rattle.wire.proofs.Rules.{rules, then_stops, then_goes}
use Rattle.wire.proofs.Stores.{sets_append, sets_overlay}
use Rattle.reply_header.specs.declared.MessageReply.{MessageReply}
use Rattle.body_read.specs.Reads.{read_body}
use Rattle.body_replies.specs.Replies.{walk_reply}
use Rattle.c_reply_walk.specs.Rows.{reply_row_size, reply_row, rows_from, rows_answer, rows_in, reply_rows}

-- ---- a row

-- seven numbers, one by one
seven_are : (l : List ℕ) → length l ≡ 7 → get_or l 0 0 ∷ get_or l 1 0 ∷ get_or l 2 0 ∷ get_or l 3 0 ∷ get_or l 4 0 ∷ get_or l 5 0 ∷ get_or l 6 0 ∷ [] ≡ l
seven_are l h =
    let from : (i : ℕ) → i < 7 → get_or l i 0 ∷ drop (suc i) l ≡ drop i l = λ i k. sym (drop-cons l i 0 (omega arith)) in
    let none : drop 7 l ≡ [] = drop_of_length-le l {i = 7} (omega arith) in
    rw (← none, from 6 (omega arith), from 5 (omega arith), from 4 (omega arith), from 3 (omega arith), from 2 (omega arith), from 1 (omega arith), from 0 (omega arith))

pub seven_stores : (l row : List ℕ) (at : ℕ) → length row ≡ reply_row_size
    → set (set (set (set (set (set (set l at (get_or row 0 0)) (at + 1) (get_or row 1 0)) (at + 2) (get_or row 2 0)) (at + 3) (get_or row 3 0)) (at + 4) (get_or row 4 0)) (at + 5) (get_or row 5 0)) (at + 6) (get_or row 6 0)
    ≡ sets l at row
seven_stores l row at h =
    let e1 : at + 1 ≡ suc at = omega arith in
    let e2 : at + 2 ≡ suc (suc at) = omega arith in
    let e3 : at + 3 ≡ suc (suc (suc at)) = omega arith in
    let e4 : at + 4 ≡ suc (suc (suc (suc at))) = omega arith in
    let e5 : at + 5 ≡ suc (suc (suc (suc (suc at)))) = omega arith in
    let e6 : at + 6 ≡ suc (suc (suc (suc (suc (suc at))))) = omega arith in
    let x : sets l at (get_or row 0 0 ∷ get_or row 1 0 ∷ get_or row 2 0 ∷ get_or row 3 0 ∷ get_or row 4 0 ∷ get_or row 5 0 ∷ get_or row 6 0 ∷ []) ≡ sets l at row
    = ap (λ (t : List ℕ). sets l at t) (seven_are row h) in
    rw (e1, e2, e3, e4, e5, e6) x

pub ruleset row_laws = (seven_stores)

-- ---- the loop: what is stored, and then what is left, is all rows

pub row_length : (a : Answer MessageReply) → length (reply_row a) ≡ reply_row_size
row_length (done m) = refl
row_length (refused k) = refl

pub rows_length : (m : ℕ) (s : List ℕ) (n k : ℕ) → length (rows_from m s n k) ≡ reply_row_size * m
rows_length zero s n k = refl
rows_length (suc m) s n k =
    length-append (reply_row (walk_reply s n k)) (rows_from m s n (k + 1)) ∙ omega (arith, row_length (walk_reply s n k), rows_length m s n (k + 1))

module _ (s : List ℕ) (n : ℕ) (old : List ℕ) where
  pub record Turn (rows : List ℕ) (k : ℕ) : Type 0 where
    pub most : k ≤ n
    pub same : length rows ≡ length old
    pub rest : sets rows (reply_row_size * k) (rows_from (n - k) s n k) ≡ sets old 0 (rows_from n s n 0)

  pub turn_first : Turn old 0
  turn_first = let e : n - 0 ≡ n = omega arith in record { most = omega arith; same = refl; rest = rw e }

  module _ (rows : List ℕ) (k : ℕ) (t : Turn rows k) where
    pub turn_place : reply_row_size * n ≤ length old → k < n → reply_row_size * k + reply_row_size ≤ length rows
    turn_place h l = omega (arith, t.same)

    pub turn_goes : (w : Result MessageReply Refusal) (new : List ℕ) → k < n → paper w ≡ walk_reply s n k → new ≡ sets rows (reply_row_size * k) (reply_row (paper w)) → Turn new (k + 1)
    turn_goes w new l is e =
        let a : List ℕ = reply_row (walk_reply s n k) in
        let b : List ℕ = rows_from (n - (k + 1)) s n (k + 1) in
        let f : new ≡ sets rows (reply_row_size * k) a = e ∙ ap (λ (x : Answer MessageReply). sets rows (reply_row_size * k) (reply_row x)) is in
        let p : reply_row_size * (k + 1) ≡ reply_row_size * k + length a = omega (arith, row_length (walk_reply s n k)) in
        let q : suc (n - (k + 1)) ≡ n - k = omega arith in
        record {
          most = omega arith;
          same = ap length f ∙ length-sets rows (reply_row_size * k) a ∙ t.same;
          rest =
              ap (λ (i : ℕ). sets new i b) p
              ∙ ap (λ (x : List ℕ). sets x (reply_row_size * k + length a) b) f
              ∙ sets_append rows a b (reply_row_size * k)
              ∙ ap (λ (m : ℕ). sets rows (reply_row_size * k) (rows_from m s n k)) q
              ∙ t.rest;
        }

    pub turn_ends : n ≤ k → rows ≡ sets old 0 (rows_from n s n 0)
    turn_ends h =
        let z : 0 ≡ n - k = omega arith in
        ap (λ (m : ℕ). sets rows (reply_row_size * k) (rows_from m s n k)) z ∙ t.rest

pub ruleset turn_laws = (turn_first, turn_place, turn_goes, turn_ends)

-- ---- the ends
module _ (s old : List ℕ) where
  pub no_body : (k : ℕ) → refused k ≡ read_body s → refused k ≡ rows_answer s (length old)
  unfolding rows_answer
  no_body k h = then_stops (read_body s) (λ n. judged (under (length old) (reply_row_size * n) 2 ∷ []) (done n)) k (sym h)

  pub no_body_rows : (k : ℕ) → refused k ≡ read_body s → old ≡ written (rows_answer s (length old)) (reply_rows s) old
  no_body_rows k h = ap (λ (x : Answer ℕ). written x (reply_rows s) old) (no_body k h)

  module _ (n : ℕ) (body : done n ≡ read_body s) where
    goes : (z : Answer ℕ) → z ≡ judged (under (length old) (reply_row_size * n) 2 ∷ []) (done n) → z ≡ rows_answer s (length old)
    unfolding rows_answer
    goes z e = then_goes (read_body s) (λ n. judged (under (length old) (reply_row_size * n) 2 ∷ []) (done n)) n z (sym body) e

    module _ (l : length old / reply_row_size < n) where
      pub full : refused 2 ≡ rows_answer s (length old)
      full = let k : length old < reply_row_size * n = omega arith in goes (refused 2) (search rules)

      pub full_rows : old ≡ written (rows_answer s (length old)) (reply_rows s) old
      full_rows = ap (λ (x : Answer ℕ). written x (reply_rows s) old) full

    module _ (l : n ≤ length old / reply_row_size) where
      pub rows_fit : reply_row_size * n ≤ length old
      rows_fit = omega arith

      pub enough : done n ≡ rows_answer s (length old)
      enough = let k : reply_row_size * n ≤ length old = rows_fit in goes (done n) (search rules)

      pub all_rows : (new : List ℕ) → new ≡ sets old 0 (rows_from n s n 0) → new ≡ written (rows_answer s (length old)) (reply_rows s) old
      unfolding reply_rows
      all_rows new f =
          f
          ∙ sets_overlay old (rows_from n s n 0) (omega (arith, rows_fit, rows_length n s n 0))
          ∙ ap (λ (x : Answer ℕ). written x (rows_from n s n 0) old) enough
          ∙ ap (λ (x : Answer ℕ). written (rows_answer s (length old)) (rows_in x s) old) body

pub ruleset end_laws = (no_body, no_body_rows, full, full_rows, rows_fit, enough, all_rows)
