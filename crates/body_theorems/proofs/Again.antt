-- What was read is written again: an accepted body is the body of its items, and the writer makes it of them. Assumes nothing.
use Prim.Native.Nat.{ℕ, zero, suc, ◌+◌, ◌*◌, ◌-◌, ◌≤◌}
use mathlib.Core.Path.{◌≡◌, refl, sym, ap, ◌∙◌}
use mathlib.Core.List.{List, [], ◌∷◌, ◌++◌, map}
use native.Mathlib.Omega.{arith}
use lib.ListN.{length, take, drop, length-drop, length-map, take-append-drop}
use lib.Seq.{drop-drop, take-add, take-append_seam, drop-append_seam}
use Rattle.connection.specs.Limits.{max_record}
use Rattle.wire.specs.Numbers.{Bytes, value_of, low_first}
use Rattle.wire.specs.Folds.{joined}
use Rattle.wire.specs.Answers.{done}
use Rattle.wire.proofs.Rules.{all_keep, within_is}
use Rattle.wire.proofs.Numbers.{low_value, bytes_drop}
use Rattle.body_sizes.specs.Bodies.{table_end, starts, two_bytes, flat, body_of, cut, sum_of, items_size, body_size}
use Rattle.body_sizes.proofs.BodyLaws.{length_flat}
use Rattle.body_read.specs.Reads.{offset_at, read_body}
use Rattle.body_read.proofs.Accepts.{Accepted, accepted}
use Rattle.body_items.specs.Items.{items_from, items_of}
use Rattle.body_items.proofs.ItemLaws.{Span, span, item_length_lem}
use Rattle.body_join.specs.Joins.{offsets_from}
use Rattle.body_join.proofs.ItemLists.{count_items, items_starts, items_behind, length_items}
use Rattle.body_theorems.proofs.Written.{Filled}

-- ---- an accepted body's items have a byte each
filled_from : (m : ℕ) (s : List ℕ) (n k : ℕ) → Accepted s n → m + k ≡ n → Filled (items_from m s n k)
filled_from zero s n k a e = tt
filled_from (suc m) s n k a e =
    let w : Span s n a k = span s n a k (omega arith) in
    (omega (arith, item_length_lem s n a k (omega arith), w.some), filled_from m s n (k + 1) a (omega arith))

pub items_filled : (s : List ℕ) (n : ℕ) → read_body s ≡ done n → Filled (items_of s)
unfolding items_of
items_filled s n h = let a : Accepted s n = accepted s n h in rw a.count (filled_from n s n 0 a (omega arith))

-- ---- the bytes of a number where it was read, and of a table
two_again : (s : List ℕ) (at : ℕ) → Bytes s → at + 2 ≤ length s → low_first 2 (value_of 2 (drop at s)) ≡ take 2 (drop at s)
two_again s at b h = low_value 2 (drop at s) (bytes_drop s at b) (simp length-drop (omega arith))

table_again : (m : ℕ) (s : List ℕ) (k : ℕ) → Bytes s → 2 + 2 * (k + m) ≤ length s → joined two_bytes (offsets_from m s k) ≡ take (2 * m) (drop (2 + 2 * k) s)
table_again zero s k b h = refl
table_again (suc m) s k b h =
    let e : 2 + 2 * (k + 1) ≡ 2 + 2 * k + 2 = omega arith in
    let f : 2 * suc m ≡ 2 + 2 * m = omega arith in
    let r : joined two_bytes (offsets_from m s (k + 1)) ≡ take (2 * m) (drop 2 (drop (2 + 2 * k) s))
    = table_again m s (k + 1) b (omega arith) ∙ ap (λ (i : ℕ). take (2 * m) (drop i s)) e ∙ ap (take (2 * m)) (sym (drop-drop 2 (2 + 2 * k) s)) in
    ap (λ (l : List ℕ). low_first 2 (offset_at s k) ++ l) r
    ∙ ap (λ (l : List ℕ). l ++ take (2 * m) (drop 2 (drop (2 + 2 * k) s))) (two_again s (2 + 2 * k) b (omega arith))
    ∙ sym (take-add 2 (2 * m) (drop (2 + 2 * k) s))
    ∙ ap (λ (i : ℕ). take i (drop (2 + 2 * k) s)) (sym f)

-- ---- an accepted body is the body of its items
pub written_of_read : (s : List ℕ) (n : ℕ) → Bytes s → read_body s ≡ done n → body_of (items_of s) ≡ s
unfolding body_of
written_of_read s n b h =
    let a : Accepted s n = accepted s n h in
    let c : low_first 2 n ≡ take 2 s = ap (low_first 2) (sym a.count) ∙ two_again s 0 b (omega (arith, a.table)) in
    let t : joined two_bytes (n ∷ offsets_from n s 0) ≡ take (2 + 2 * n) s
    = ap (λ (l : List ℕ). l ++ joined two_bytes (offsets_from n s 0)) c
    ∙ ap (λ (l : List ℕ). take 2 s ++ l) (table_again n s 0 b (omega (arith, a.table)))
    ∙ sym (take-add 2 (2 * n) s) in
    ap (λ (k : ℕ). joined two_bytes (k ∷ starts (table_end k) (map length (items_of s))) ++ flat (items_of s)) (count_items s n a)
    ∙ ap (λ (l : List ℕ). joined two_bytes (n ∷ l) ++ flat (items_of s)) (items_starts s n a)
    ∙ ap (λ (l : List ℕ). l ++ flat (items_of s)) t
    ∙ ap (λ (l : List ℕ). take (2 + 2 * n) s ++ l) (items_behind s n a)
    ∙ take-append-drop (2 + 2 * n) s

-- ---- and the writer, lent those items end to end and their lengths, takes them and makes that body

cut_again : (xs : List (List ℕ)) → cut (map length xs) (flat xs) ≡ xs
cut_again [] = refl
cut_again (x ∷ xs) = rw (take-append_seam x (flat xs), drop-append_seam x (flat xs), cut_again xs)

sizes_again : (xs : List (List ℕ)) (lent : ℕ) → Filled xs → sum_of (map length xs) ≤ lent → items_size lent (map length xs) ≡ done (sum_of (map length xs))
unfolding items_size
sizes_again [] lent f h = refl
sizes_again (x ∷ xs) lent f h =
    all_keep _ _ (omega arith, (omega (arith, f.0), tt))
    ∙ rw (sizes_again xs (lent - length x) f.1 (omega arith)) refl

pub record Again (s : List ℕ) (n : ℕ) : Type 0 where
  pub size : body_size (length (drop (table_end n) s)) (map length (items_of s)) ≡ done (length s)
  pub bytes : body_of (cut (map length (items_of s)) (drop (table_end n) s)) ≡ s

pub write_what_was_read : (s : List ℕ) (n : ℕ) → Bytes s → read_body s ≡ done n → Again s n
unfolding body_size
write_what_was_read s n b h =
    let a : Accepted s n = accepted s n h in
    let d : flat (items_of s) ≡ drop (table_end n) s = items_behind s n a in
    let t : sum_of (map length (items_of s)) ≡ length s - table_end n = sym (length_flat (items_of s)) ∙ length_items s n a in
    let l : length (drop (table_end n) s) ≡ length s - table_end n = length-drop (table_end n) s in
    let z : items_size (length (drop (table_end n) s)) (map length (items_of s)) ≡ done (sum_of (map length (items_of s)))
    = sizes_again (items_of s) (length (drop (table_end n) s)) (items_filled s n h) (omega arith) in
    let whole : table_end (length (map length (items_of s))) + sum_of (map length (items_of s)) ≡ length s
    = omega (arith, length-map (items_of s) length, count_items s n a, a.table) in
    record {
      size =
          rw z
          (within_is max_record (table_end (length (map length (items_of s))) + sum_of (map length (items_of s))) (omega (arith, whole, a.small))
          ∙ ap done whole);
      bytes = ap (λ (f : List ℕ). body_of (cut (map length (items_of s)) f)) (sym d) ∙ ap body_of (cut_again (items_of s)) ∙ written_of_read s n b h;
    }
