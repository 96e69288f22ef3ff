-- Two bodies joined: the body of the first's items and then the second's. The standard has no such service; what a body is, and what its items
-- are, is CIP Volume 1, Appendix A-4.10 (Multiple_Service_Packet); the order of judging is document 01's, "Bodies". Assumes nothing: these are
-- definitions.
use Rattle.std.specs.Prelude.{ℕ, zero, suc, ◌+◌, ◌*◌, ◌-◌, ◌≤◌, ◌<◌, ◌≡◌, List, [], ◌∷◌, ◌++◌, map, length}
use Rattle.wire.specs.Answers.{Answer, done, and_then, within_limit}
use Rattle.connection.specs.Limits.{max_record}
use Rattle.body_sizes.specs.Bodies.{body_of}
use Rattle.body_read.specs.Reads.{count_at, offset_at, read_body}
use Rattle.body_items.specs.Items.{items_of}

-- the bytes
unfoldable pub join_of : List ℕ → List ℕ → List ℕ
join_of a b = body_of (items_of a ++ items_of b)

-- how many: the first body's refusal, the second's, then the limit
unfoldable pub join_size : List ℕ → List ℕ → Answer ℕ
join_size a b = and_then (read_body a) (λ m. and_then (read_body b) (λ n. within_limit max_record (length (join_of a b))))

-- ---- what the parts of the writer are told

-- m offsets of a body, from offset k on
abbrev pub offsets_from : ℕ → List ℕ → ℕ → List ℕ
offsets_from zero s k = []
offsets_from (suc m) s k = offset_at s k ∷ offsets_from m s (k + 1)

-- each moved on
abbrev pub raised : ℕ → List ℕ → List ℕ
raised by vs = map (λ (v : ℕ). v + by) vs

-- count and offsets of the joined body
abbrev pub table_of : List ℕ → List ℕ → List ℕ
table_of a b = (count_at a + count_at b) ∷ (raised (2 * count_at b) (offsets_from (count_at a) a 0) ++ raised (length a - 2) (offsets_from (count_at b) b 0))

-- no sum is more than two bytes hold
pub record Raisable (s : List ℕ) (n by at : ℕ) : Type 0 where
  pub few : n ≤ max_record
  pub near : at ≤ max_record
  pub each : (k : ℕ) → k < n → offset_at s k + by ≤ max_record

-- both were accepted, and so was the joined length
pub record Joinable (a b : List ℕ) : Type 0 where
  pub first : read_body a ≡ done (count_at a)
  pub second : read_body b ≡ done (count_at b)
  pub small : length a + length b ≤ max_record + 2
