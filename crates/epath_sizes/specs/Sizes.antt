-- What the sizes answer. Document 01, "Refusal numbers": the count, then segments first to last, 11 before 3 in each.
-- Assumes nothing: these are definitions.
use Rattle.std.specs.Prelude.{ℕ, ◌-◌, List, [], ◌∷◌, length}
use Rattle.wire.specs.Answers.{Answer, done, Rule, over, judged, KeepsAll}
use Rattle.wire.specs.Folds.{sizes}
use Rattle.epath_sizes.specs.Limits.{max_segments, max_symbol, max_link}
use Rattle.epath_sizes.specs.Segments.{encode_seg}
use Rattle.epath_sizes.specs.Lists.{meaning, slots_of}
use Rattle.epath_sizes.specs.declared.Segment.{Segment}
use Rattle.epath_sizes.specs.declared.Segment.TheVariants.{Symbol, Class, Instance, Attribute, Element, Port}
use Rattle.epath_sizes.specs.declared.Slot.{Slot}
use Rattle.epath_sizes.specs.declared.Path.{Path}

-- a part lies in a pool of n bytes, a start past its end is outside even with length 0; and it has at most `limit` bytes
abbrev pub part_rules : ℕ → ℕ → ℕ → ℕ → List Rule
part_rules limit n start len = over start n 11 ∷ over len (n - start) 11 ∷ over len limit 3 ∷ []

abbrev pub segment_rules : ℕ → Segment → List Rule
segment_rules n (Symbol y) = part_rules max_symbol n y.start y.len
segment_rules n (Class v) = []
segment_rules n (Instance v) = []
segment_rules n (Attribute v) = []
segment_rules n (Element v) = []
segment_rules n (Port q) = part_rules max_link n q.start q.len

-- a segment's refusal, or how many bytes its encoding has
unfoldable pub segment_size : List ℕ → Segment → Answer ℕ
segment_size pool s = judged (segment_rules (length pool) s) (done (length (encode_seg (meaning pool s))))

-- a list's: its count, then each segment
unfoldable pub path_size : List ℕ → Path → Answer ℕ
path_size pool p = judged (over p.count max_segments 3 ∷ []) (sizes (λ (x : Slot). segment_size pool x.segment) (slots_of p))

-- ---- what was judged, for the writer's own parts

abbrev pub Good : List ℕ → Segment → Type 0
Good pool s = KeepsAll (segment_rules (length pool) s)

abbrev pub AllGoodIn : List ℕ → List Slot → Type 0
AllGoodIn pool [] = Unit {0}
AllGoodIn pool (x ∷ l) = Good pool x.segment × AllGoodIn pool l

abbrev pub AllGood : List ℕ → Path → Type 0
AllGood pool p = AllGoodIn pool (slots_of p)
