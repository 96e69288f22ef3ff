-- The data of a Multiple Service Packet: its bytes, and what its writer judges. CIP Volume 1, Appendix A-4.10 (Multiple_Service_Packet): the
-- number of services in two bytes, an offset in two bytes for each, counted from that number's first byte, and the services end to end.
-- Rules and numbers from document 01, "Bodies". Assumes nothing: these are definitions.
use Rattle.std.specs.Prelude.{ℕ, ◌+◌, ◌*◌, ◌-◌, List, [], ◌∷◌, ◌++◌, map, length, take, drop}
use Rattle.wire.specs.Numbers.{low_first}
use Rattle.wire.specs.Folds.{joined}
use Rattle.wire.specs.Answers.{Answer, done, under, over, judged, and_then, plus, within_limit}
use Rattle.connection.specs.Limits.{max_record}

-- ---- the bytes

-- where the table of n offsets ends: the first item's place
abbrev pub table_end : ℕ → ℕ
table_end n = 2 + 2 * n

-- where items of these lengths start, the first at a place
abbrev pub starts : ℕ → List ℕ → List ℕ
starts at [] = []
starts at (n ∷ ns) = at ∷ starts (at + n) ns

abbrev pub two_bytes : ℕ → List ℕ
two_bytes v = low_first 2 v

-- items end to end
abbrev pub flat : List (List ℕ) → List ℕ
flat xs = joined (λ (x : List ℕ). x) xs

-- the body of a list of items
unfoldable pub body_of : List (List ℕ) → List ℕ
body_of xs = joined two_bytes (length xs ∷ starts (table_end (length xs)) (map length xs)) ++ flat xs

-- ---- the writer: items lent end to end, and their lengths

-- the items
abbrev pub cut : List ℕ → List ℕ → List (List ℕ)
cut [] s = []
cut (n ∷ ns) s = take n s ∷ cut ns (drop n s)

abbrev pub sum_of : List ℕ → ℕ
sum_of [] = 0
sum_of (n ∷ ns) = n + sum_of ns

-- how many bytes they have, where so many are lent: first to last, 11 past the lent end, 7 for length 0
unfoldable pub items_size : ℕ → List ℕ → Answer ℕ
items_size lent [] = done 0
items_size lent (n ∷ ns) = judged (over n lent 11 ∷ under n 1 7 ∷ []) (plus (done n) (items_size (lent - n) ns))

-- how many bytes their body has
unfoldable pub body_size : ℕ → List ℕ → Answer ℕ
body_size lent ns = and_then (items_size lent ns) (λ n. within_limit max_record (table_end (length ns) + n))
