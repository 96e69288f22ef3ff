-- The items of a body. CIP Volume 1, Appendix A-4.10 (Multiple_Service_Packet); rules and numbers from document 01, "Bodies": each item begins at
-- its own offset and ends where the next one begins, the last where the body ends. Assumes nothing: these are definitions.
use Rattle.std.specs.Prelude.{ℕ, zero, suc, ◌+◌, ◌-◌, List, [], ◌∷◌, length, ltb}
use Rattle.wire.specs.Choice.{pick}
use Rattle.wire.specs.Parts.{part}
use Rattle.wire.specs.Answers.{Answer, done, Rule, under, over, judged, and_then}
use Rattle.connection.specs.Limits.{max_record}
use Rattle.body_sizes.specs.Bodies.{table_end}
use Rattle.body_read.specs.Reads.{count_at, offset_at, read_body}
use Rattle.body_items.specs.declared.Item.{Item}

-- where item k of n ends
abbrev pub stop_at : List ℕ → ℕ → ℕ → ℕ
stop_at s n k = pick (ltb (k + 1) n) (offset_at s (k + 1)) (length s)

abbrev pub item_at : List ℕ → ℕ → ℕ → Item
item_at s n k = record { start = offset_at s k; len = stop_at s n k - offset_at s k }

-- item k: the body's own refusal, then 11
unfoldable pub body_item : List ℕ → ℕ → Answer Item
body_item s k = and_then (read_body s) (λ n. judged (under n (k + 1) 11 ∷ []) (done (item_at s n k)))

-- ---- one item, where the count is told and no other offset is judged

abbrev pub walk_rules : List ℕ → ℕ → ℕ → List Rule
walk_rules s n k =
    over (length s) max_record 3
    ∷ under (length s) (table_end n) 1
    ∷ under n (k + 1) 11
    ∷ under (offset_at s k) (table_end n) 7
    ∷ under (stop_at s n k) (offset_at s k + 1) 7
    ∷ over (stop_at s n k) (length s) 7
    ∷ []

unfoldable pub walk_item : List ℕ → ℕ → ℕ → Answer Item
walk_item s n k = judged (walk_rules s n k) (done (item_at s n k))

-- ---- the items themselves

abbrev pub bytes_in : List ℕ → Item → List ℕ
bytes_in s i = part s i.start i.len

-- m items of n, from item k on
abbrev pub items_from : ℕ → List ℕ → ℕ → ℕ → List (List ℕ)
items_from zero s n k = []
items_from (suc m) s n k = bytes_in s (item_at s n k) ∷ items_from m s n (k + 1)

unfoldable pub items_of : List ℕ → List (List ℕ)
items_of s = items_from (count_at s) s (count_at s) 0
