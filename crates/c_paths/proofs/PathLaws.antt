-- The loops over rows: one adds up sizes, one stores segments. Assumes nothing.
use Prim.Native.Nat.{ℕ, ◌+◌, ◌-◌, ◌*◌, ◌/◌, ◌^◌, ◌≤◌, ◌<◌}
use mathlib.Core.Path.{◌≡◌, refl, sym, ap, ◌∙◌}
use mathlib.Core.List.{List, [], ◌∷◌, ◌++◌}
use native.Mathlib.Omega.{arith}
use lib.ListN.{length, take, drop}
use lib.Seq.{sets}
use mir.Val.{Fits}
use mir.Syntax.{w64}
use Rattle.std.specs.Prelude.{Result, Ok, Err}
use Rattle.wire.specs.Answers.{Answer, done, refused, paper, over, with_room, written, Put}
use Rattle.wire.specs.Folds.{sizes, joined}
use Rattle.wire.specs.declared.Refusal.{Refusal}
use Rattle.wire.proofs.Rules.{rules, never, all_keep, all_were}
use Rattle.wire.proofs.Answers.{Parts, plus_parts, room_kept}
use Rattle.wire.proofs.Stores.{sets_overlay, length_lent}
use Rattle.wire.proofs.Folds.{Adding, adding_first, adding_more, adding_stops, adding_ends, sizes_joined, Storing, storing_first, storing_fits, storing_more, storing_ends}
use Rattle.epath_sizes.specs.Limits.{max_segments, most_bytes}
use Rattle.epath_sizes.specs.Segments.{encode_seg, encode}
use Rattle.epath_sizes.specs.Lists.{meaning, segs}
use Rattle.epath_sizes.specs.Sizes.{segment_size}
use Rattle.epath_sizes.specs.declared.Segment.{Segment}
use Rattle.c_paths.specs.Kinds.{row_numbers}
use Rattle.c_paths.specs.Rows.{segment_row_at, rows_of, most_of, segment_of, segment_row_size, rows_size, segment_row_bytes, slots_of_rows, slots_in, RowReady, RowsReady}
use Rattle.c_paths.specs.declared.SegmentRow.{SegmentRow}
use Rattle.c_paths.proofs.RowLaws.{RowSized, row_was, row_short, rows_next, rows_past}

-- ---- adding sizes
abbrev pub Summing : List ℕ → List ℕ → ℕ → ℕ → Type 0
Summing pool s total i = Adding (segment_row_size pool) most_bytes (row_short pool) (rows_of s) total i

module _ (pool s : List ℕ) where
  pub rows_many : max_segments < length s / row_numbers → refused 3 ≡ rows_size pool s
  unfolding rows_size
  rows_many h = search rules

  counted : length s / row_numbers ≤ max_segments → {z : Answer ℕ} → z ≡ sizes (segment_row_size pool) (rows_of s) → z ≡ rows_size pool s
  unfolding rows_size
  counted h e = e ∙ sym (all_keep (over (length s / row_numbers) max_segments 3 ∷ []) (sizes (segment_row_size pool) (rows_of s)) (h, tt))

  pub summing_first : Summing pool s 0 0
  summing_first = adding_first (segment_row_size pool) most_bytes (row_short pool) (rows_of s)

  module _ (total i : ℕ) (m : Summing pool s total i) (few : length s / row_numbers ≤ max_segments) where
    pub summing_ends : length s / row_numbers ≤ i → done total ≡ rows_size pool s
    summing_ends h = counted few (adding_ends (segment_row_size pool) most_bytes (row_short pool) (rows_of s) m (rows_past s i h))

    module _ (h : i < length s / row_numbers) (x : SegmentRow) (at : x ≡ segment_row_at s (row_numbers * i)) where
      sizes_here : {y : Answer ℕ} → y ≡ segment_row_size pool x → segment_row_size pool (segment_row_at s (row_numbers * i)) ≡ y
      sizes_here e = ap (segment_row_size pool) (sym at) ∙ sym e

      pub summing_stops : (k : ℕ) → refused k ≡ segment_row_size pool x → refused k ≡ rows_size pool s
      summing_stops k e = counted few (adding_stops (segment_row_size pool) most_bytes (row_short pool) (rows_of s) m (rows_next s i h) k (sizes_here e))

      module _ (n : ℕ) (e : done n ≡ segment_row_size pool x) where
        pub summing_more : Summing pool s (total + n) (i + 1)
        summing_more = adding_more (segment_row_size pool) most_bytes (row_short pool) (rows_of s) m (rows_next s i h) n (sizes_here e)

        pub summing_fits : Fits w64 (total + n)
        summing_fits = record { fits = omega (arith, summing_more.small) }

pub ruleset summing_laws = (rows_many, summing_first, summing_ends, summing_stops, summing_more, summing_fits)

-- ---- a row that was sized is stored
module _ (pool : List ℕ) (r : SegmentRow) (old : List ℕ) (a : RowReady pool r (length old)) where
  was : RowSized pool r a.size
  was = row_was pool r a.size a.sized

  pub ready_within : r.number ≤ most_of r.kind
  ready_within = was.within

  module _ (x : Segment) (e : x ≡ segment_of r) (w : Result ℕ Refusal) (new : List ℕ) (is : paper w ≡ with_room (segment_size pool x) (length old)) where
    kept : with_room (segment_size pool x) (length old) ≡ done a.size
    kept = room_kept (segment_size pool x) (length old) a.size (ap (segment_size pool) e ∙ was.is) a.fits

    pub ready_put : (n : ℕ) → w ≡ Ok n → new ≡ written (with_room (segment_size pool x) (length old)) (encode_seg (meaning pool x)) old → Put (segment_row_bytes pool r) old n new
    ready_put n h b =
        let d : done n ≡ done a.size = sym (ap paper h) ∙ is ∙ kept in
        let q : n ≡ a.size = cc in
        let bytes : encode_seg (meaning pool x) ≡ segment_row_bytes pool r = ap (λ (y : Segment). encode_seg (meaning pool y)) e in
        record {
          size = q ∙ was.size;
          stored =
              b
              ∙ ap (λ (y : Answer ℕ). written y (encode_seg (meaning pool x)) old) kept
              ∙ sym (sets_overlay old (encode_seg (meaning pool x)) (omega (arith, ap length bytes, was.size, a.fits)))
              ∙ ap (sets old 0) bytes;
        }

    pub ready_never : (f : Refusal) → w ≡ Err f → ⊥
    ready_never f h = never (sym (ap paper h) ∙ is ∙ kept)

pub ruleset ready_laws = (ready_within, ready_put, ready_never)

-- ---- the loop that stores segments

-- the rows' bytes are those of the segments that they mean
joined_rows : (pool : List ℕ) (l : List SegmentRow) → joined (segment_row_bytes pool) l ≡ encode (segs pool (slots_of_rows l))
joined_rows pool [] = refl
joined_rows pool (r ∷ l) = ap (λ (t : List ℕ). segment_row_bytes pool r ++ t) (joined_rows pool l)

all_sized : (pool : List ℕ) (l : List SegmentRow) (n : ℕ) → sizes (segment_row_size pool) l ≡ done n → n ≡ length (joined (segment_row_bytes pool) l)
all_sized pool l n h = sizes_joined (segment_row_size pool) (segment_row_bytes pool) (λ r k e. (row_was pool r k e).size) l n h

pub record Filing (pool s old out : List ℕ) (at i : ℕ) : Type 0 where
  pub stores : Storing (segment_row_bytes pool) (rows_of s) old out at i
  pub left : ℕ
  pub sized : sizes (segment_row_size pool) (drop i (rows_of s)) ≡ done left

module _ (pool s : List ℕ) where
  pub filing_first : (out : List ℕ) → RowsReady pool s (length out) → Filing pool s out out 0 0
  filing_first out a =
      record {
        stores = storing_first (segment_row_bytes pool) (rows_of s) out (omega (arith, all_sized pool (rows_of s) a.size a.sized, a.fits));
        left = a.size;
        sized = a.sized;
      }

  module _ (old out : List ℕ) (at i : ℕ) (f : Filing pool s old out at i) where
    pub filing_at : at ≤ length out
    filing_at = omega (arith, f.stores.room)

    pub filing_same : length out ≡ length old
    filing_same = f.stores.same

    pub filing_ends : length s / row_numbers ≤ i → out ≡ sets old 0 (encode (segs pool (slots_in s)))
    filing_ends h =
        storing_ends (segment_row_bytes pool) (rows_of s) f.stores (rows_past s i h)
        ∙ ap (sets old 0) (joined_rows pool (rows_of s))

    module _ (h : i < length s / row_numbers) (x : SegmentRow) (is : x ≡ segment_row_at s (row_numbers * i)) where
      here : drop i (rows_of s) ≡ x ∷ drop (i + 1) (rows_of s)
      here = rows_next s i h ∙ ap (λ (r : SegmentRow). r ∷ drop (i + 1) (rows_of s)) (sym is)

      parts : Parts (segment_row_size pool x) (sizes (segment_row_size pool) (drop (i + 1) (rows_of s))) f.left
      parts = plus_parts (segment_row_size pool x) (sizes (segment_row_size pool) (drop (i + 1) (rows_of s))) f.left (sym (ap (sizes (segment_row_size pool)) here) ∙ f.sized)

      pub filing_asks : RowReady pool x (length (take (length out - at) (drop at out)))
      filing_asks =
          record {
            size = parts.first;
            sized = parts.first_is;
            fits = rw (length_lent out at) (omega (arith, storing_fits (segment_row_bytes pool) (rows_of s) f.stores here, (row_was pool x parts.first parts.first_is).size));
          }

      module _ (n : ℕ) (new : List ℕ) (t : Put (segment_row_bytes pool x) (take (length out - at) (drop at out)) n new) where
        pub filing_fits : length old < 2 ^ 64 → Fits w64 (at + n)
        filing_fits g = record { fits = omega (arith, storing_fits (segment_row_bytes pool) (rows_of s) f.stores here, t.size, f.stores.same) }

        pub filing_more : Filing pool s old (take at out ++ (new ++ drop (length out - at) (drop at out))) (at + n) (i + 1)
        filing_more = record { stores = storing_more (segment_row_bytes pool) (rows_of s) f.stores here t; left = parts.second; sized = parts.second_is }

pub ruleset filing_laws = (filing_first, filing_at, filing_same, filing_ends, filing_asks, filing_fits, filing_more)

-- ---- rows that were sized are stored
module _ (pool s : List ℕ) (n : ℕ) (e : done n ≡ rows_size pool s) where
  summed : sizes (segment_row_size pool) (rows_of s) ≡ done n
  unfolding rows_size
  summed = (all_were (over (length s / row_numbers) max_segments 3 ∷ []) (sizes (segment_row_size pool) (rows_of s)) n (sym e)).1

  pub rows_length : n ≡ length (encode (segs pool (slots_in s)))
  rows_length = all_sized pool (rows_of s) n summed ∙ ap length (joined_rows pool (rows_of s))

  pub rows_ready : (room : ℕ) → n ≤ room → RowsReady pool s room
  rows_ready room l = record { size = n; sized = summed; fits = l }

pub ruleset rows_laws = (rows_length, rows_ready)
