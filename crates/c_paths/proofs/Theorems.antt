-- What a user may rely on of rows: those of a list of segments say that list, and are judged and sized as it is. Assumes nothing.
use Prim.Native.Nat.{ℕ, ◌/◌, ◌≤◌}
use mathlib.Core.Path.{◌≡◌, refl, sym, ap, ◌∙◌}
use mathlib.Core.List.{List, [], ◌∷◌}
use native.Mathlib.Omega.{arith}
use lib.ListN.{length}
use Rattle.wire.specs.Answers.{with_room, written}
use Rattle.wire.specs.Folds.{sizes}
use Rattle.wire.proofs.Rules.{all_keep}
use Rattle.epath_sizes.specs.Segments.{encode}
use Rattle.epath_sizes.specs.Lists.{slots_of as listed, segs, segs_of}
use Rattle.epath_sizes.specs.Sizes.{segment_size, path_size}
use Rattle.epath_sizes.specs.declared.Segment.{Segment}
use Rattle.epath_sizes.specs.declared.Segment.TheVariants.{Symbol, Class, Instance, Attribute, Element, Port}
use Rattle.epath_sizes.specs.declared.Slot.{Slot}
use Rattle.epath_sizes.specs.declared.Path.{Path}
use Rattle.c_paths.specs.Kinds.{port_kind, short_number, long_number, row_numbers}
use Rattle.c_paths.specs.Rows.{rows_of, row_rules, most_of, segment_of, segment_row_size, slots_in, rows_size, segment_row, rows_for}
use Rattle.c_paths.proofs.RowLaws.{rows_long}

-- a segment's row says that segment
pub row_says : (x : Segment) → segment_of (segment_row x) ≡ x
unfolding segment_of
row_says (Symbol y) = refl
row_says (Class v) = refl
row_says (Instance v) = refl
row_says (Attribute v) = refl
row_says (Element v) = refl
row_says (Port q) = refl

-- a list's rows say that list
pub rows_say : (l : List Slot) → slots_in (rows_for l) ≡ l
rows_say [] = refl
rows_say (x ∷ l) = rw (row_says x.segment, rows_say l)

-- a number as the code's types hold it
abbrev pub NumberFits : Segment → Type 0
NumberFits (Symbol y) = Unit {0}
NumberFits (Class v) = v ≤ short_number
NumberFits (Instance v) = v ≤ short_number
NumberFits (Attribute v) = v ≤ short_number
NumberFits (Element v) = v ≤ long_number
NumberFits (Port q) = q.port ≤ short_number

abbrev pub NumbersFit : List Slot → Type 0
NumbersFit [] = Unit {0}
NumbersFit (x ∷ l) = NumberFits x.segment × NumbersFit l

row_fits : (x : Segment) → NumberFits x → ((segment_row x).kind ≤ port_kind) × ((segment_row x).number ≤ most_of (segment_row x).kind)
row_fits (Symbol y) h = (omega arith, omega arith)
row_fits (Class v) h = (omega arith, h)
row_fits (Instance v) h = (omega arith, h)
row_fits (Attribute v) h = (omega arith, h)
row_fits (Element v) h = (omega arith, omega arith)
row_fits (Port q) h = (omega arith, h)

row_size_lem : (pool : List ℕ) (x : Segment) → NumberFits x → segment_row_size pool (segment_row x) ≡ segment_size pool x
unfolding segment_row_size
row_size_lem pool x h =
    all_keep (row_rules (segment_row x)) (segment_size pool (segment_of (segment_row x))) ((row_fits x h).0, ((row_fits x h).1, tt))
    ∙ ap (segment_size pool) (row_says x)

rows_sum : (pool : List ℕ) (l : List Slot) → NumbersFit l → sizes (segment_row_size pool) (rows_of (rows_for l)) ≡ sizes (λ (x : Slot). segment_size pool x.segment) l
rows_sum pool [] h = refl
rows_sum pool (x ∷ l) h = rw (row_size_lem pool x.segment h.0, rows_sum pool l h.1)

rows_count : (l : List Slot) → length (rows_of (rows_for l)) ≡ length l
rows_count [] = refl
rows_count (x ∷ l) = omega (arith, rows_count l)

-- what bark_path_size answers of a list's rows is what path_size answers of the list
pub rows_size_lem : (pool : List ℕ) (p : Path) → p.count ≡ length (listed p) → NumbersFit (listed p) → rows_size pool (rows_for (listed p)) ≡ path_size pool p
unfolding rows_size path_size
rows_size_lem pool p c h =
    let n : length (rows_for (listed p)) / row_numbers ≡ p.count = sym (rows_long (rows_for (listed p))) ∙ rows_count (listed p) ∙ sym c in
    rw (n, rows_sum pool (listed p) h)

-- and what bark_write_path leaves of out is what write_path leaves of it
pub rows_written : (pool : List ℕ) (p : Path) (old : List ℕ) → p.count ≡ length (listed p) → NumbersFit (listed p)
    → written (with_room (rows_size pool (rows_for (listed p))) (length old)) (encode (segs pool (slots_in (rows_for (listed p))))) old
    ≡ written (with_room (path_size pool p) (length old)) (encode (segs_of pool p)) old
rows_written pool p old c h = rw (rows_size_lem pool p c h, rows_say (listed p))
