-- Row k is the reply in item k, as it is asked for by itself. Assumes nothing.
use Prim.Native.Nat.{ℕ, zero, suc, ◌+◌, ◌*◌, ◌-◌, ◌≤◌, ◌<◌}
use mathlib.Core.Path.{◌≡◌, sym, ap, ◌∙◌}
use mathlib.Core.List.{List, ◌++◌}
use native.Mathlib.Omega.{arith}
use lib.ListN.{length, drop}
use Rattle.wire.specs.Parts.{part}
use Rattle.wire.specs.Answers.{Answer, done}
use Rattle.wire.proofs.Stores.{past_part, part_front}
use Rattle.body_read.specs.Reads.{read_body}
use Rattle.body_replies.specs.Replies.{walk_reply, body_reply}
use Rattle.body_theorems.proofs.Replies.{walk_is_reply}
use Rattle.c_reply_walk.specs.Rows.{reply_row_size, reply_row, rows_from, rows_in, reply_rows}
use Rattle.c_reply_walk.proofs.Laws.{row_length}

-- what is left, its first row apart
first : (m : ℕ) (s : List ℕ) (n k : ℕ) → 0 < m → rows_from m s n k ≡ reply_row (walk_reply s n k) ++ rows_from (m - 1) s n (k + 1)
first m s n k h = let e : m ≡ suc (m - 1) = omega arith in ap (λ (i : ℕ). rows_from i s n k) e

-- behind k rows stand the others
behind : (m : ℕ) (s : List ℕ) (n k : ℕ) → k ≤ m → drop (reply_row_size * k) (rows_from m s n 0) ≡ rows_from (m - k) s n k
behind m s n zero h = let e : m ≡ m - 0 = omega arith in ap (λ (i : ℕ). rows_from i s n 0) e
behind m s n (suc k) h =
    let row : List ℕ = reply_row (walk_reply s n k) in
    let split : drop (reply_row_size * k) (rows_from m s n 0) ≡ row ++ rows_from (m - k - 1) s n (k + 1) = behind m s n k (omega arith) ∙ first (m - k) s n k (omega arith) in
    let p : reply_row_size * suc k ≡ reply_row_size * k + length row = omega (arith, row_length (walk_reply s n k)) in
    let q : m - k - 1 ≡ m - suc k = omega arith in
    let r : k + 1 ≡ suc k = omega arith in
    ap (λ (i : ℕ). drop i (rows_from m s n 0)) p
    ∙ past_part (rows_from m s n 0) row (rows_from (m - k - 1) s n (k + 1)) (reply_row_size * k) split
    ∙ ap (λ (i : ℕ). rows_from i s n (k + 1)) q
    ∙ ap (λ (i : ℕ). rows_from (m - suc k) s n i) r

pub row_each : (s : List ℕ) (n k : ℕ) → read_body s ≡ done n → k < n → part (reply_rows s) (reply_row_size * k) reply_row_size ≡ reply_row (body_reply s k)
unfolding reply_rows
row_each s n k h l =
    let row : List ℕ = reply_row (walk_reply s n k) in
    let split : drop (reply_row_size * k) (rows_from n s n 0) ≡ row ++ rows_from (n - k - 1) s n (k + 1) = behind n s n k (omega arith) ∙ first (n - k) s n k (omega arith) in
    ap (λ (x : Answer ℕ). part (rows_in x s) (reply_row_size * k) reply_row_size) h
    ∙ ap (λ (i : ℕ). part (rows_from n s n 0) (reply_row_size * k) i) (sym (row_length (walk_reply s n k)))
    ∙ part_front (rows_from n s n 0) row (rows_from (n - k - 1) s n (k + 1)) (reply_row_size * k) split
    ∙ ap reply_row (walk_is_reply s n k h)
