-- Joining is exact: the join of two lists' bodies is the body of the lists end to end; grouping makes no difference, and the empty body none on
-- either side. Assumes nothing.
use Prim.Native.Nat.{ℕ, ◌+◌, ◌-◌, ◌≤◌, ◌<◌}
use mathlib.Core.Path.{◌≡◌, refl, sym, ap, ◌∙◌}
use mathlib.Core.List.{List, [], ◌∷◌, ◌++◌, append_assoc, append-nil}
use mathlib.Core.Logic.{⊎_elim}
use native.Mathlib.Omega.{arith}
use lib.ListN.{length}
use Rattle.wire.specs.Numbers.{Bytes}
use Rattle.wire.specs.Answers.{Answer, done, refused, and_then, within_limit}
use Rattle.wire.proofs.Rules.{rules, then_done, within_is}
use Rattle.wire.proofs.Numbers.{below_or}
use Rattle.connection.specs.Limits.{max_record}
use Rattle.body_sizes.specs.Bodies.{body_of}
use Rattle.body_sizes.proofs.BodyLaws.{length_body}
use Rattle.body_read.specs.Reads.{read_body}
use Rattle.body_read.proofs.Accepts.{accepted}
use Rattle.body_items.specs.Items.{items_of}
use Rattle.body_join.specs.Joins.{join_of, join_size}
use Rattle.body_join.proofs.JoinLaws.{join_length}
use Rattle.body_theorems.proofs.Written.{Filled, read_of_written, items_of_body}
use Rattle.body_theorems.proofs.Again.{items_filled, written_of_read}

-- what a join gives where there is room: its bytes, or its refusal
abbrev pub join : List ℕ → List ℕ → Answer (List ℕ)
join a b = and_then (join_size a b) (λ n. done (join_of a b))

filled_append : (xs ys : List (List ℕ)) → Filled xs → Filled ys → Filled (xs ++ ys)
filled_append [] ys f g = g
filled_append (x ∷ xs) ys f g = (f.0, filled_append xs ys f.1 g)

-- ---- of two accepted bodies, by the sum of their lengths
module _ (a b : List ℕ) (m n : ℕ) (first : read_body a ≡ done m) (second : read_body b ≡ done n) where
  size_is : join_size a b ≡ within_limit max_record (length (join_of a b))
  unfolding join_size
  size_is = rw (first, second) refl

  long : length (join_of a b) ≡ length a + length b - 2
  long = join_length a b m n (accepted a m first) (accepted b n second)

  pub join_size_is : length a + length b ≤ max_record + 2 → join_size a b ≡ done (length (join_of a b))
  join_size_is l = size_is ∙ within_is max_record (length (join_of a b)) (omega (arith, long))

  pub join_is : length a + length b ≤ max_record + 2 → join a b ≡ done (join_of a b)
  join_is l = rw (join_size_is l) refl

  pub join_over : max_record + 2 < length a + length b → join a b ≡ refused 3
  join_over l =
      let k : max_record < length (join_of a b) = omega (arith, long) in
      let z : refused 3 ≡ within_limit max_record (length (join_of a b)) = search rules in
      rw (size_is ∙ sym z) refl

  -- the joined body is a body, of both lists' items
  pub join_items : length a + length b ≤ max_record + 2 → items_of (join_of a b) ≡ items_of a ++ items_of b
  unfolding join_of
  join_items l = items_of_body (items_of a ++ items_of b) (filled_append (items_of a) (items_of b) (items_filled a m first) (items_filled b n second)) (omega (arith, long))

  pub join_reads : length a + length b ≤ max_record + 2 → read_body (join_of a b) ≡ done (length (items_of a ++ items_of b))
  unfolding join_of
  join_reads l = read_of_written (items_of a ++ items_of b) (filled_append (items_of a) (items_of b) (items_filled a m first) (items_filled b n second)) (omega (arith, long))

  -- what is 3 behind the joined body is 3, whether the two fit or not
  over_then : (f : List ℕ → Answer (List ℕ)) → (length a + length b ≤ max_record + 2 → f (join_of a b) ≡ refused 3) → and_then (join a b) f ≡ refused 3
  over_then f k = ⊎_elim (λ g. rw (join_over g) refl) (λ g. then_done _ _ (join_of a b) (join_is g) ∙ k g) (below_or (max_record + 2) (length a + length b))

-- ---- the join of two lists' bodies is the body of the lists end to end
module _ (xs ys : List (List ℕ)) (fx : Filled xs) (fy : Filled ys) where
  pub join_of_bodies : length (body_of xs) + length (body_of ys) ≤ max_record + 2 → join (body_of xs) (body_of ys) ≡ done (body_of (xs ++ ys))
  unfolding join_of
  join_of_bodies l =
      let sx : length (body_of xs) ≤ max_record = omega (arith, length_body ys) in
      let sy : length (body_of ys) ≤ max_record = omega (arith, length_body xs) in
      let j : join_of (body_of xs) (body_of ys) ≡ body_of (xs ++ ys) = both sx sy in
      join_is (body_of xs) (body_of ys) (length xs) (length ys) (read_of_written xs fx sx) (read_of_written ys fy sy) l ∙ ap done j
    where
      both : length (body_of xs) ≤ max_record → length (body_of ys) ≤ max_record → join_of (body_of xs) (body_of ys) ≡ body_of (xs ++ ys)
      both sx sy = rw (items_of_body xs fx sx, items_of_body ys fy sy) refl

-- ---- grouping: of three accepted bodies, first two or last two first, the answer is one; 3 where they do not fit
pub join_grouping : (a b c : List ℕ) (l m n : ℕ) → read_body a ≡ done l → read_body b ≡ done m → read_body c ≡ done n
    → and_then (join a b) (λ p. join p c) ≡ and_then (join b c) (λ q. join a q)
unfolding join_of
join_grouping a b c l m n ra rb rc = ⊎_elim (λ h. fits h) (λ h. over_it h) (below_or (length a + length b + length c) (max_record + 5))
  where
    la : 2 ≤ length a
    la = omega (arith, (accepted a l ra).table)

    lc : 2 ≤ length c
    lc = omega (arith, (accepted c n rc).table)

    lb : 2 ≤ length b
    lb = omega (arith, (accepted b m rb).table)

    left_long : length (join_of a b) ≡ length a + length b - 2
    left_long = join_length a b l m (accepted a l ra) (accepted b m rb)

    right_long : length (join_of b c) ≡ length b + length c - 2
    right_long = join_length b c m n (accepted b m rb) (accepted c n rc)

    fits : length a + length b + length c < max_record + 5 → and_then (join a b) (λ p. join p c) ≡ and_then (join b c) (λ q. join a q)
    fits h =
        let hab : length a + length b ≤ max_record + 2 = omega (arith, lc) in
        let hbc : length b + length c ≤ max_record + 2 = omega (arith, la) in
        let p : read_body (join_of a b) ≡ done (length (items_of a ++ items_of b)) = join_reads a b l m ra rb hab in
        let q : read_body (join_of b c) ≡ done (length (items_of b ++ items_of c)) = join_reads b c m n rb rc hbc in
        then_done _ _ (join_of a b) (join_is a b l m ra rb hab)
        ∙ join_is (join_of a b) c (length (items_of a ++ items_of b)) n p rc (omega (arith, left_long, la, lb))
        ∙ ap done (regroup hab hbc)
        ∙ sym (join_is a (join_of b c) l (length (items_of b ++ items_of c)) ra q (omega (arith, right_long, lb, lc)))
        ∙ sym (then_done _ _ (join_of b c) (join_is b c m n rb rc hbc))
      where
        regroup : length a + length b ≤ max_record + 2 → length b + length c ≤ max_record + 2 → join_of (join_of a b) c ≡ join_of a (join_of b c)
        regroup hab hbc =
            ap (λ (xs : List (List ℕ)). body_of (xs ++ items_of c)) (join_items a b l m ra rb hab)
            ∙ ap body_of (append_assoc (items_of a) (items_of b) (items_of c))
            ∙ ap (λ (xs : List (List ℕ)). body_of (items_of a ++ xs)) (sym (join_items b c m n rb rc hbc))

    over_left : max_record + 5 ≤ length a + length b + length c → and_then (join a b) (λ p. join p c) ≡ refused 3
    over_left h = over_then a b l m ra rb (λ p. join p c) (λ g. join_over (join_of a b) c (length (items_of a ++ items_of b)) n (join_reads a b l m ra rb g) rc (omega (arith, left_long, la, lb)))

    over_right : max_record + 5 ≤ length a + length b + length c → and_then (join b c) (λ q. join a q) ≡ refused 3
    over_right h = over_then b c m n rb rc (λ q. join a q) (λ g. join_over a (join_of b c) l (length (items_of b ++ items_of c)) ra (join_reads b c m n rb rc g) (omega (arith, right_long, lb, lc)))

    over_it : max_record + 5 ≤ length a + length b + length c → and_then (join a b) (λ p. join p c) ≡ and_then (join b c) (λ q. join a q)
    over_it h = over_left h ∙ sym (over_right h)

-- ---- unit: the empty body on either side gives the body back
empty_reads : read_body (body_of []) ≡ done 0
empty_reads = read_of_written [] tt (omega (arith, length_body []))

empty_items : items_of (body_of []) ≡ []
empty_items = items_of_body [] tt (omega (arith, length_body []))

module _ (s : List ℕ) (n : ℕ) (b : Bytes s) (h : read_body s ≡ done n) where
  pub join_empty_left : join (body_of []) s ≡ done s
  unfolding join_of
  join_empty_left = join_is (body_of []) s 0 n empty_reads h (omega (arith, length_body [], (accepted s n h).small)) ∙ ap done back
    where
      back : join_of (body_of []) s ≡ s
      back = ap (λ (xs : List (List ℕ)). body_of (xs ++ items_of s)) empty_items ∙ written_of_read s n b h

  pub join_empty_right : join s (body_of []) ≡ done s
  unfolding join_of
  join_empty_right = join_is s (body_of []) n 0 h empty_reads (omega (arith, length_body [], (accepted s n h).small)) ∙ ap done back
    where
      back : join_of s (body_of []) ≡ s
      back =
          ap (λ (xs : List (List ℕ)). body_of (items_of s ++ xs)) empty_items
          ∙ ap body_of (append-nil (items_of s))
          ∙ written_of_read s n b h
