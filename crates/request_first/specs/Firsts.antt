-- The first byte of a Connection Manager's request, and rules judged alone, executable: the first broken rule refuses. Rules and numbers from
-- document 01, "Requests". Assumes nothing: these are definitions.
use Rattle.std.specs.Prelude.{ℕ, List, [], ◌∷◌, length, get_or}
use Rattle.wire.specs.Answers.{Answer, done, Rule, under, over, judged}
use Rattle.connection.specs.Limits.{max_record}

-- the first byte of a Connection Manager's request: tick time in the low four bits; those above have to be 0 (in the standard they are priority, of
-- which 1 is reserved, and reserved bits)
abbrev pub most_ticks : ℕ
most_ticks = 15

abbrev pub first_rules : List ℕ → List Rule
first_rules s = over (length s) max_record 3 ∷ under (length s) 1 1 ∷ over (get_or s 0 0) most_ticks 5 ∷ []

-- rules alone
abbrev pub verdict : List Rule → Answer (Unit {0})
verdict rs = judged rs (done tt)
