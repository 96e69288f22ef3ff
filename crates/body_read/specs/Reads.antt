-- The reader of a body, executable: fields in wire order, the first broken rule refuses. CIP Volume 1, Appendix A-4.10 (Multiple_Service_Packet);
-- rules and numbers from document 01, "Bodies". Assumes nothing: these are definitions.
use Rattle.std.specs.Prelude.{ℕ, zero, suc, ◌+◌, ◌*◌, ◌≤◌, ◌≡◌, List, [], ◌∷◌, length, drop}
use Rattle.wire.specs.Numbers.{value_of}
use Rattle.wire.specs.Answers.{Answer, done, Rule, under, over, other, judged}
use Rattle.connection.specs.Limits.{max_record}
use Rattle.body_sizes.specs.Bodies.{table_end}

-- the count, and offset k, where they stand
abbrev pub count_at : List ℕ → ℕ
count_at s = value_of 2 s

abbrev pub offset_at : List ℕ → ℕ → ℕ
offset_at s k = value_of 2 (drop (2 + 2 * k) s)

-- the m offsets that follow offset k: each is there (1), is larger than the one before it, and less than the length (7)
abbrev pub later_rules : ℕ → List ℕ → ℕ → List Rule
later_rules zero s k = []
later_rules (suc m) s k =
    under (length s) (6 + 2 * k) 1
    ∷ under (offset_at s (k + 1)) (offset_at s k + 1) 7
    ∷ under (length s) (offset_at s (k + 1) + 1) 7
    ∷ later_rules m s (k + 1)

-- a body of no item has no more than its count (8); else the first offset is where the table ends
abbrev pub table_rules : ℕ → List ℕ → List Rule
table_rules zero s = over (length s) 2 8 ∷ []
table_rules (suc m) s =
    under (length s) 4 1
    ∷ other (offset_at s 0) (table_end (suc m)) 7
    ∷ under (length s) (offset_at s 0 + 1) 7
    ∷ later_rules m s 0

-- where offset 0 was judged, and there is one
pub record FirstAt (s : List ℕ) (n first : ℕ) : Type 0 where
  pub some : 1 ≤ n
  pub few : n ≤ max_record
  pub is : first ≡ offset_at s 0

-- how many items there are
unfoldable pub read_body : List ℕ → Answer ℕ
read_body s = judged (over (length s) max_record 3 ∷ under (length s) 2 1 ∷ []) (judged (table_rules (count_at s) s) (done (count_at s)))
