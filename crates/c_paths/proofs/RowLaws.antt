-- Rows: a row's segment and its size, each end as a law with plain conditions. Assumes nothing.
use Prim.Native.Nat.{ℕ, zero, suc, ◌+◌, ◌*◌, ◌/◌, ◌≤◌, ◌<◌}
use mathlib.Core.Path.{◌≡◌, refl, sym, ap, ◌∙◌}
use mathlib.Core.List.{List, [], ◌∷◌}
use native.Mathlib.Nat.{add-zero}
use native.Mathlib.Omega.{arith}
use lib.ListN.{length, drop, length-drop}
use lib.Seq.{drop-drop, get_or-drop}
use mir.Val.{Fits}
use mir.Syntax.{w16}
use borrow.Author.Tests.{eq-eqb, ne_eqb}
use Rattle.wire.specs.Answers.{Answer, done, refused}
use Rattle.wire.proofs.Rules.{rules, all_keep, all_were}
use Rattle.epath_sizes.specs.Limits.{most_bytes}
use Rattle.epath_sizes.specs.Sizes.{segment_size}
use Rattle.epath_sizes.specs.declared.Segment.{Segment}
use Rattle.epath_sizes.specs.declared.Segment.TheVariants.{Symbol, Class, Instance, Attribute, Element, Port}
use Rattle.epath_sizes.proofs.PathLaws.{size_short}
use Rattle.epath_sizes.proofs.SizeLaws.{sized}
use Rattle.c_paths.specs.Kinds.{symbol_kind, class_kind, instance_kind, attribute_kind, element_kind, port_kind, short_number, row_numbers}
use Rattle.c_paths.specs.Rows.{segment_row_at, rows_of, most_of, row_rules, segment_of, segment_row_size, segment_row_bytes}
use Rattle.c_paths.specs.declared.SegmentRow.{SegmentRow}

-- ---- a row's segment, by its kind
module _ (r : SegmentRow) where
  pub of_symbol : r.kind ≡ symbol_kind → Symbol (record { start = r.start; len = r.len }) ≡ segment_of r
  unfolding segment_of
  of_symbol h = simp (eq-eqb r.kind symbol_kind h)

  module _ (s : r.kind ≡ symbol_kind → ⊥) where
    pub of_element : r.kind ≡ element_kind → Element r.number ≡ segment_of r
    unfolding segment_of
    of_element h = simp (ne_eqb r.kind symbol_kind s, eq-eqb r.kind element_kind h)

    module _ (e : r.kind ≡ element_kind → ⊥) where
      pub short_fits : r.number ≤ most_of r.kind → Fits w16 r.number
      short_fits l =
          let m : r.number ≤ short_number = simp (ne_eqb r.kind symbol_kind s, ne_eqb r.kind element_kind e) at l in
          record { fits = omega arith }

      pub of_class : r.kind ≡ class_kind → Class r.number ≡ segment_of r
      unfolding segment_of
      of_class h = simp (ne_eqb r.kind symbol_kind s, ne_eqb r.kind element_kind e, eq-eqb r.kind class_kind h)

      module _ (c : r.kind ≡ class_kind → ⊥) where
        pub of_instance : r.kind ≡ instance_kind → Instance r.number ≡ segment_of r
        unfolding segment_of
        of_instance h =
            simp (ne_eqb r.kind symbol_kind s, ne_eqb r.kind element_kind e, ne_eqb r.kind class_kind c, eq-eqb r.kind instance_kind h)

        module _ (i : r.kind ≡ instance_kind → ⊥) where
          pub of_attribute : r.kind ≡ attribute_kind → Attribute r.number ≡ segment_of r
          unfolding segment_of
          of_attribute h =
              simp (ne_eqb r.kind symbol_kind s, ne_eqb r.kind element_kind e, ne_eqb r.kind class_kind c, ne_eqb r.kind instance_kind i, eq-eqb r.kind attribute_kind h)

          pub of_port : (r.kind ≡ attribute_kind → ⊥) → Port (record { port = r.number; start = r.start; len = r.len }) ≡ segment_of r
          unfolding segment_of
          of_port a =
              simp (ne_eqb r.kind symbol_kind s, ne_eqb r.kind element_kind e, ne_eqb r.kind class_kind c, ne_eqb r.kind instance_kind i, ne_eqb r.kind attribute_kind a)

pub ruleset kind_laws = (of_symbol, of_element, short_fits, of_class, of_instance, of_attribute, of_port)

-- ---- a row's size
module _ (pool : List ℕ) (r : SegmentRow) where
  pub row_unknown : port_kind < r.kind → refused 4 ≡ segment_row_size pool r
  unfolding segment_row_size
  row_unknown h = search rules

  module _ (m : ℕ) (is : m ≡ most_of r.kind) where
    pub row_large : r.kind ≤ port_kind → m < r.number → refused 3 ≡ segment_row_size pool r
    unfolding segment_row_size
    row_large h l = let g : most_of r.kind < r.number = omega (arith, is) in search rules

    pub row_within : r.number ≤ m → r.number ≤ most_of r.kind
    row_within l = omega (arith, is)

    pub row_sized : (x : Segment) (z : Answer ℕ) → r.kind ≤ port_kind → r.number ≤ m → x ≡ segment_of r → z ≡ segment_size pool x → z ≡ segment_row_size pool r
    unfolding segment_row_size
    row_sized x z h l e f =
        f
        ∙ ap (segment_size pool) e
        ∙ sym (all_keep (row_rules r) (segment_size pool (segment_of r)) (h, (row_within l, tt)))

pub ruleset row_laws = (row_unknown, row_large, row_within, row_sized)

-- what a row's size says of it
pub record RowSized (pool : List ℕ) (r : SegmentRow) (n : ℕ) : Type 0 where
  pub within : r.number ≤ most_of r.kind
  pub is : segment_size pool (segment_of r) ≡ done n
  pub size : n ≡ length (segment_row_bytes pool r)
  pub short : n ≤ most_bytes

pub row_was : (pool : List ℕ) (r : SegmentRow) (n : ℕ) → segment_row_size pool r ≡ done n → RowSized pool r n
unfolding segment_row_size
row_was pool r n h =
    let w = all_were (row_rules r) (segment_size pool (segment_of r)) n h in
    record {
      within = w.0.1.0;
      is = w.1;
      size = (sized pool (segment_of r) n w.1).size;
      short = size_short pool (record { segment = segment_of r }) n w.1;
    }

pub row_short : (pool : List ℕ) (r : SegmentRow) (n : ℕ) → segment_row_size pool r ≡ done n → n ≤ most_bytes
row_short pool r n h = (row_was pool r n h).short

-- ---- the rows of a run: the row at i, and those behind it

rows_drop : (i : ℕ) (s : List ℕ) → drop i (rows_of s) ≡ rows_of (drop (4 * i) s)
rows_drop zero s = refl
rows_drop (suc i) [] = let e : 4 * suc i ≡ suc (3 + 4 * i) = omega arith in rw e
rows_drop (suc i) (k ∷ []) = let e : 4 * suc i ≡ suc (suc (suc (suc (4 * i)))) = omega arith in rw e
rows_drop (suc i) (k ∷ n ∷ []) = let e : 4 * suc i ≡ suc (suc (suc (suc (4 * i)))) = omega arith in rw e
rows_drop (suc i) (k ∷ n ∷ a ∷ []) = let e : 4 * suc i ≡ suc (suc (suc (suc (4 * i)))) = omega arith in rw e
rows_drop (suc i) (k ∷ n ∷ a ∷ l ∷ s) =
    let e : 4 * suc i ≡ suc (suc (suc (suc (4 * i)))) = omega arith in
    rw e (rows_drop i s)

rows_front : (t : List ℕ) → 4 ≤ length t → rows_of t ≡ segment_row_at t 0 ∷ rows_of (drop 4 t)
rows_front [] h = absurd (omega arith)
rows_front (k ∷ []) h = absurd (omega arith)
rows_front (k ∷ n ∷ []) h = absurd (omega arith)
rows_front (k ∷ n ∷ a ∷ []) h = absurd (omega arith)
rows_front (k ∷ n ∷ a ∷ l ∷ s) h = refl

row_place : (s : List ℕ) (at : ℕ) → segment_row_at (drop at s) 0 ≡ segment_row_at s at
row_place s at = rw (get_or-drop at s 0 0, get_or-drop at s 1 0, get_or-drop at s 2 0, get_or-drop at s 3 0, add-zero at)

pub rows_long : (s : List ℕ) → length (rows_of s) ≡ length s / row_numbers
rows_long [] = refl
rows_long (k ∷ []) = refl
rows_long (k ∷ n ∷ []) = refl
rows_long (k ∷ n ∷ a ∷ []) = refl
rows_long (k ∷ n ∷ a ∷ l ∷ s) = omega (arith, rows_long s)

pub rows_next : (s : List ℕ) (i : ℕ) → i < length s / row_numbers → drop i (rows_of s) ≡ segment_row_at s (row_numbers * i) ∷ drop (i + 1) (rows_of s)
rows_next s i h =
    let e : 4 * i + 4 ≡ 4 * (i + 1) = omega arith in
    rows_drop i s
    ∙ rows_front (drop (4 * i) s) (simp length-drop (omega arith))
    ∙ ap (λ (r : SegmentRow). r ∷ rows_of (drop 4 (drop (4 * i) s))) (row_place s (4 * i))
    ∙ ap (λ (t : List ℕ). segment_row_at s (row_numbers * i) ∷ rows_of t) (drop-drop 4 (4 * i) s ∙ ap (λ (k : ℕ). drop k s) e)
    ∙ ap (λ (t : List SegmentRow). segment_row_at s (row_numbers * i) ∷ t) (sym (rows_drop (i + 1) s))

pub rows_past : (s : List ℕ) (i : ℕ) → length s / row_numbers ≤ i → length (rows_of s) ≤ i
rows_past s i h = omega (arith, rows_long s)
