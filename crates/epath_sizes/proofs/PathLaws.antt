-- The loop over a list's slots that adds up sizes, and what a list's size says of it. Assumes nothing.
use Prim.Native.Nat.{ℕ, zero, suc, ◌+◌, ◌%◌, ◌≤◌, ◌<◌}
use mathlib.Core.Path.{◌≡◌, refl, sym, ap, ◌∙◌}
use mathlib.Core.List.{List, [], ◌∷◌, ◌++◌}
use native.Mathlib.Numerals.{add-one}
use native.Mathlib.Omega.{arith}
use lib.ListN.{length, length-append, take, drop, get_or}
use lib.Seq.{drop-cons, length-take-le}
use mir.Val.{Fits}
use mir.Syntax.{w64}
use Rattle.wire.specs.Answers.{Answer, done, refused}
use Rattle.wire.specs.Folds.{sizes, joined}
use Rattle.wire.proofs.Rules.{rules, all_were, all_keep}
use Rattle.wire.proofs.Answers.{Parts, plus_parts}
use Rattle.wire.proofs.Stores.{part_length}
use Rattle.wire.proofs.Folds.{Adding, adding_first, adding_more, adding_stops, adding_ends, sizes_joined}
use Rattle.epath_sizes.specs.Limits.{max_segments, max_symbol, max_link, most_bytes, symbol_code, class_code, instance_code, attribute_code, element_code}
use Rattle.epath_sizes.specs.Segments.{logical, pad_of, padded, port_head, encode_seg, encode}
use Rattle.epath_sizes.specs.Lists.{meaning, slots_of, segs, segs_of}
use Rattle.epath_sizes.specs.Sizes.{segment_size, path_size, Good, AllGoodIn, AllGood}
use Rattle.epath_sizes.specs.declared.Segment.{Segment}
use Rattle.epath_sizes.specs.declared.Segment.TheVariants.{Symbol, Class, Instance, Attribute, Element, Port}
use Rattle.epath_sizes.specs.declared.Slot.{Slot}
use Rattle.epath_sizes.specs.declared.Path.{Path}
use Rattle.epath_sizes.proofs.Forms.{logical_each}
use Rattle.epath_sizes.proofs.SizeLaws.{Sized, sized, keeps_inside, head_most, length_padded}

-- what the code's rules give past the end of an array of slots
abbrev pub none : Slot
none = record { segment = Symbol (record { start = 0; len = 0 }) }

abbrev pub size_in : List ℕ → Slot → Answer ℕ
size_in pool x = segment_size pool x.segment

-- ---- no segment takes more than `most_bytes`

pad_short : (r : ℕ) → length (pad_of r) ≤ 1
pad_short zero = omega arith
pad_short (suc r) = omega arith

padded_short : (xs : List ℕ) (m : ℕ) → length xs ≤ m → length (padded xs) ≤ m + 1
padded_short xs m h = rw (length_padded xs) (omega (arith, pad_short (length xs % 2)))

logical_short : (code v : ℕ) → length (logical code v) ≤ 6
logical_short code v = logical_each code v (λ l. length l ≤ 6) (omega arith) (omega arith) (omega arith)

good_short : (pool : List ℕ) (s : Segment) → Good pool s → length (encode_seg (meaning pool s)) ≤ most_bytes
good_short pool (Symbol y) g =
    let i = keeps_inside max_symbol (length pool) y.start y.len g in
    let bs : List ℕ = take y.len (drop y.start pool) in
    let l : length bs ≡ y.len = part_length pool y.start y.len i.ends in
    omega (arith, padded_short (symbol_code ∷ length bs ∷ bs) (2 + max_symbol) (omega (arith, i.short)))
good_short pool (Class v) g = omega (arith, logical_short class_code v)
good_short pool (Instance v) g = omega (arith, logical_short instance_code v)
good_short pool (Attribute v) g = omega (arith, logical_short attribute_code v)
good_short pool (Element v) g = omega (arith, logical_short element_code v)
good_short pool (Port q) g =
    let i = keeps_inside max_link (length pool) q.start q.len g in
    let bs : List ℕ = take q.len (drop q.start pool) in
    let l : length bs ≡ q.len = part_length pool q.start q.len i.ends in
    let h : List ℕ = port_head q.port (length bs) in
    omega (arith, padded_short (h ++ bs) (4 + max_link) (omega (arith, i.short, head_most q.port (length bs), length-append h bs)))

pub size_short : (pool : List ℕ) (x : Slot) (n : ℕ) → size_in pool x ≡ done n → n ≤ most_bytes
size_short pool x n h =
    let w : Sized pool x.segment n = sized pool x.segment n h in
    omega (arith, w.size, good_short pool x.segment w.good)

-- ---- the list from i on is the slot at i and the list from i + 1 on
pub next : (l : List Slot) (i : ℕ) → i < length l → drop i l ≡ get_or l i none ∷ drop (i + 1) l
next l i h = drop-cons l i none h ∙ ap (λ (k : ℕ). get_or l i none ∷ drop k l) (sym (add-one i))

-- ---- adding sizes
abbrev pub Summing : List ℕ → Path → ℕ → ℕ → Type 0
Summing pool p total i = Adding (size_in pool) most_bytes (size_short pool) (slots_of p) total i

module _ (pool : List ℕ) (p : Path) where
  pub path_many : max_segments < p.count → refused 3 ≡ path_size pool p
  unfolding path_size
  path_many h = search rules

  counted : p.count ≤ max_segments → {z : Answer ℕ} → z ≡ sizes (size_in pool) (slots_of p) → z ≡ path_size pool p
  unfolding path_size
  counted h e = e ∙ sym (all_keep _ _ (h, tt))

  pub summing_first : Summing pool p 0 0
  summing_first = adding_first (size_in pool) most_bytes (size_short pool) (slots_of p)

  module _ (total i : ℕ) (m : Summing pool p total i) where
    pub summing_ends : p.count ≤ max_segments → length (slots_of p) ≤ i → done total ≡ path_size pool p
    summing_ends few h = counted few (adding_ends (size_in pool) most_bytes (size_short pool) (slots_of p) m h)

    module _ (h : i < length (slots_of p)) where
      pub summing_stops : p.count ≤ max_segments → (k : ℕ) → refused k ≡ size_in pool (get_or (slots_of p) i none) → refused k ≡ path_size pool p
      summing_stops few k e = counted few (adding_stops (size_in pool) most_bytes (size_short pool) (slots_of p) m (next (slots_of p) i h) k (sym e))

      module _ (n : ℕ) (e : done n ≡ size_in pool (get_or (slots_of p) i none)) where
        pub summing_more : Summing pool p (total + n) (i + 1)
        summing_more = adding_more (size_in pool) most_bytes (size_short pool) (slots_of p) m (next (slots_of p) i h) n (sym e)

        pub summing_fits : p.count ≤ max_segments → length p.slots ≡ max_segments → Fits w64 (total + n)
        summing_fits few g = record { fits = omega (arith, summing_more.small, length-take-le p.count p.slots) }

pub ruleset summing_laws = (path_many, summing_first, summing_ends, summing_stops, summing_more, summing_fits)

-- ---- what a list's size says of it

goods : (pool : List ℕ) (l : List Slot) (n : ℕ) → sizes (size_in pool) l ≡ done n → AllGoodIn pool l
goods pool [] n h = tt
goods pool (x ∷ l) n h =
    let w : Parts (size_in pool x) (sizes (size_in pool) l) n = plus_parts (size_in pool x) (sizes (size_in pool) l) n h in
    ((sized pool x.segment w.first w.first_is).good, goods pool l w.second w.second_is)

-- the slots' bytes are those of what they mean
pub joined_segs : (pool : List ℕ) (l : List Slot) → joined (λ (x : Slot). encode_seg (meaning pool x.segment)) l ≡ encode (segs pool l)
joined_segs pool [] = refl
joined_segs pool (x ∷ l) = ap (λ (t : List ℕ). encode_seg (meaning pool x.segment) ++ t) (joined_segs pool l)

pub record PathSized (pool : List ℕ) (p : Path) (n : ℕ) : Type 0 where
  pub few : p.count ≤ max_segments
  pub sum : sizes (size_in pool) (slots_of p) ≡ done n
  pub good : AllGood pool p
  pub size : n ≡ length (encode (segs_of pool p))

pub path_sized : (pool : List ℕ) (p : Path) (n : ℕ) → path_size pool p ≡ done n → PathSized pool p n
unfolding path_size
path_sized pool p n h =
    let w = all_were _ _ n h in
    record {
      few = w.0.0;
      sum = w.1;
      good = goods pool (slots_of p) n w.1;
      size =
          sizes_joined (size_in pool) (λ (x : Slot). encode_seg (meaning pool x.segment)) (λ x k e. (sized pool x.segment k e).size) (slots_of p) n w.1
          ∙ ap length (joined_segs pool (slots_of p));
    }

module _ (pool : List ℕ) (p : Path) (n : ℕ) (e : done n ≡ path_size pool p) where
  pub path_few : p.count ≤ max_segments
  path_few = (path_sized pool p n (sym e)).few

  pub path_good : AllGood pool p
  path_good = (path_sized pool p n (sym e)).good

  pub path_length : n ≡ length (encode (segs_of pool p))
  path_length = (path_sized pool p n (sym e)).size

  pub path_room : (room : ℕ) → n ≤ room → length (encode (segs_of pool p)) ≤ room
  path_room room l = omega (arith, path_length)

pub ruleset path_laws = (path_few, path_good, path_length, path_room)
