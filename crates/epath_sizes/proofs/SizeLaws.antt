-- Each end of the sizes, as a law with plain conditions. Assumes nothing.
use Prim.Native.Nat.{ℕ, ◌+◌, ◌-◌, ◌≤◌, ◌<◌}
use mathlib.Core.Path.{◌≡◌, refl, sym, ap, ◌∙◌}
use mathlib.Core.List.{List, [], ◌∷◌, ◌++◌}
use mathlib.Core.Logic.{⊎_elim}
use native.Mathlib.Omega.{arith}
use lib.ListN.{length, length-append}
use lib.Dec.{leb}
use mir.Val.{Fits}
use mir.Syntax.{w64}
use borrow.Author.Tests.{le-leb, lt-leb}
use Rattle.std.specs.Prelude.{Result, Ok, Err}
use Rattle.wire.specs.Parts.{part}
use Rattle.wire.specs.Refusals.{number}
use Rattle.wire.specs.Answers.{Answer, done, refused, paper, Rule, judged, KeepsAll}
use Rattle.wire.specs.declared.Refusal.{Refusal}
use Rattle.wire.proofs.Rules.{done_same, all_were, all_keep, same_refusal}
use Rattle.wire.proofs.Numbers.{below_or}
use Rattle.wire.proofs.Stores.{part_length}
use Rattle.epath_sizes.specs.Limits.{max_symbol, max_link, near_port, class_code, instance_code, attribute_code, element_code, symbol_code}
use Rattle.epath_sizes.specs.Segments.{logical, pad, padded, port_head, encode_seg}
use Rattle.epath_sizes.specs.Lists.{meaning}
use Rattle.epath_sizes.specs.Sizes.{part_rules, segment_rules, segment_size, Good}
use Rattle.epath_sizes.specs.declared.Segment.{Segment}
use Rattle.epath_sizes.specs.declared.Segment.TheVariants.{Symbol, Class, Instance, Attribute, Element, Port}
use Rattle.epath_sizes.specs.declared.PortSegment.{PortSegment}
use Rattle.epath_sizes.specs.declared.SymbolSegment.{SymbolSegment}
use Rattle.epath_sizes.proofs.Forms.{pick_each}

-- ---- logical segments
pub logical_narrow : (code v : ℕ) → v ≤ 255 → 2 ≡ length (logical code v)
logical_narrow code v h = simp (le-leb v 255 h)

pub logical_wide : (code v : ℕ) → 255 < v → v ≤ 65535 → 4 ≡ length (logical code v)
logical_wide code v h l = simp (lt-leb v 255 h, le-leb v 65535 l)

pub logical_widest : (code v : ℕ) → 65535 < v → 6 ≡ length (logical code v)
logical_widest code v h = simp (lt-leb v 255 (omega arith), lt-leb v 65535 h)

-- the size does not depend on the code
pub logical_any : (code v : ℕ) → length (logical 0 v) ≡ length (logical code v)
logical_any code v = ⊎_elim
    (λ (h : 255 < v). ⊎_elim
    (λ (l : 65535 < v). sym (logical_widest 0 v l) ∙ logical_widest code v l)
    (λ (l : v ≤ 65535). sym (logical_wide 0 v h l) ∙ logical_wide code v h l)
    (below_or 65535 v))
    (λ (h : v ≤ 255). sym (logical_narrow 0 v h) ∙ logical_narrow code v h)
    (below_or 255 v)

-- ---- pads and heads
module _ (p n : ℕ) where
  -- a head has at most four bytes
  pub head_most : length (port_head p n) ≤ 4
  head_most =
      let P : List ℕ → Type 0 = λ l. length l ≤ 4 in
      pick_each P (leb p near_port) _ _ (pick_each P (leb n 1) _ _ (omega arith) (omega arith)) (pick_each P (leb n 1) _ _ (omega arith) (omega arith))

pub length_padded : (xs : List ℕ) → length (padded xs) ≡ length xs + length (pad (length xs))
unfolding padded
length_padded xs = length-append xs (pad (length xs))

-- ---- a part of a pool
pub record Inside (limit n start len : ℕ) : Type 0 where
  pub starts : start ≤ n
  pub ends : len ≤ n - start
  pub short : len ≤ limit

pub keeps_inside : (limit n start len : ℕ) → KeepsAll (part_rules limit n start len) → Inside limit n start len
keeps_inside limit n start len k = record { starts = k.0; ends = k.1.0; short = k.1.1.0 }

-- ---- a segment that holds a part: a head, the part, a pad. The first rule that the part breaks refuses it
module _ (pool : List ℕ) (t : Segment) (limit start len : ℕ) (same : segment_rules (length pool) t ≡ part_rules limit (length pool) start len)
    (r : Result ℕ Refusal) (is : paper r ≡ judged (part_rules limit (length pool) start len) (done len)) where
  part_refused : (e : Refusal) → r ≡ Err e → refused (number e) ≡ segment_size pool t
  unfolding segment_size
  part_refused e h =
      sym (same_refusal _ len (done (length (encode_seg (meaning pool t)))) (number e) (sym is ∙ ap paper h))
      ∙ ap (λ (rs : List Rule). judged rs (done (length (encode_seg (meaning pool t))))) (sym same)

  module _ (n : ℕ) (h : r ≡ Ok n) where
    inside : Inside limit (length pool) start len × (n ≡ len)
    inside = let w = all_were _ _ n (sym is ∙ ap paper h) in (keeps_inside _ _ _ _ w.0, sym (done_same w.1))

    long : n ≡ length (part pool start len)
    long = inside.1 ∙ sym (part_length pool start len inside.0.ends)

    part_sized : (hd : List ℕ) (k m : ℕ) → k ≡ length hd → encode_seg (meaning pool t) ≡ padded (hd ++ part pool start len) → m ≡ k + n + length (pad (k + n))
        → done m ≡ segment_size pool t
    unfolding segment_size
    part_sized hd k m l bytes g =
        let bs : List ℕ = hd ++ part pool start len in
        let e : k + n ≡ length bs = omega (arith, long, length-append hd (part pool start len)) in
        ap done (g ∙ ap (λ (x : ℕ). x + length (pad x)) e ∙ sym (length_padded bs) ∙ ap length (sym bytes))
        ∙ sym (all_keep _ _ (rw same (inside.0.starts, (inside.0.ends, (inside.0.short, tt)))))

module _ (pool : List ℕ) (y : SymbolSegment) (r : Result ℕ Refusal) (is : paper r ≡ judged (part_rules max_symbol (length pool) y.start y.len) (done y.len)) where
  pub symbol_refused : (e : Refusal) → r ≡ Err e → refused (number e) ≡ segment_size pool (Symbol y)
  symbol_refused = part_refused pool (Symbol y) max_symbol y.start y.len refl r is

  module _ (n : ℕ) (h : r ≡ Ok n) where
    pub symbol_small : 2 + n < 1000
    symbol_small = let i = inside pool (Symbol y) max_symbol y.start y.len refl r is n h in omega (arith, i.0.short, i.1)

    pub symbol_fits : Fits w64 (2 + n)
    symbol_fits = record { fits = omega (arith, symbol_small) }

    pub symbol_sized : (m : ℕ) → m ≡ 2 + n + length (pad (2 + n)) → done m ≡ segment_size pool (Symbol y)
    symbol_sized m = part_sized pool (Symbol y) max_symbol y.start y.len refl r is n h (symbol_code ∷ length (part pool y.start y.len) ∷ []) 2 m refl refl

module _ (pool : List ℕ) (q : PortSegment) (r : Result ℕ Refusal) (is : paper r ≡ judged (part_rules max_link (length pool) q.start q.len) (done q.len)) where
  pub port_refused : (e : Refusal) → r ≡ Err e → refused (number e) ≡ segment_size pool (Port q)
  port_refused = part_refused pool (Port q) max_link q.start q.len refl r is

  module _ (n : ℕ) (h : r ≡ Ok n) (k : ℕ) (hd : k ≡ length (port_head q.port n)) where
    pub port_small : k + n < 1000
    port_small = let i = inside pool (Port q) max_link q.start q.len refl r is n h in omega (arith, i.0.short, i.1, head_most q.port n)

    pub port_fits : Fits w64 (k + n)
    port_fits = record { fits = omega (arith, port_small) }

    pub port_sized : (m : ℕ) → m ≡ k + n + length (pad (k + n)) → done m ≡ segment_size pool (Port q)
    port_sized m =
        part_sized pool (Port q) max_link q.start q.len refl r is n h (port_head q.port (length (part pool q.start q.len))) k m
        (hd ∙ ap (λ (x : ℕ). length (port_head q.port x)) (long pool (Port q) max_link q.start q.len refl r is n h)) refl

pub ruleset part_laws = (symbol_refused, symbol_small, symbol_fits, symbol_sized, port_refused, port_small, port_fits, port_sized)

-- ---- a segment
module _ (pool : List ℕ) (s : Segment) where
  pub size_as : (t : Segment) (z : Answer ℕ) → s ≡ t → z ≡ segment_size pool t → z ≡ segment_size pool s
  size_as t z h e = e ∙ ap (segment_size pool) (sym h)

  module _ (v n : ℕ) (e : n ≡ length (logical 0 v)) where
    logical_sized : (t : Segment) (code : ℕ) → encode_seg (meaning pool t) ≡ logical code v → segment_rules (length pool) t ≡ [] → s ≡ t → done n ≡ segment_size pool s
    unfolding segment_size
    logical_sized t code is free h =
        ap done (e ∙ logical_any code v ∙ ap length (sym is))
        ∙ sym (all_keep [] (done (length (encode_seg (meaning pool t)))) tt)
        ∙ ap (λ (rs : List Rule). judged rs (done (length (encode_seg (meaning pool t))))) (sym free)
        ∙ ap (segment_size pool) (sym h)

    pub size_class : s ≡ Class v → done n ≡ segment_size pool s
    size_class h = logical_sized (Class v) class_code refl refl h

    pub size_instance : s ≡ Instance v → done n ≡ segment_size pool s
    size_instance h = logical_sized (Instance v) instance_code refl refl h

    pub size_attribute : s ≡ Attribute v → done n ≡ segment_size pool s
    size_attribute h = logical_sized (Attribute v) attribute_code refl refl h

    pub size_element : s ≡ Element v → done n ≡ segment_size pool s
    size_element h = logical_sized (Element v) element_code refl refl h

pub ruleset segment_laws = (size_as, size_class, size_instance, size_attribute, size_element)

-- ---- what a size says of its segment
pub record Sized (pool : List ℕ) (s : Segment) (n : ℕ) : Type 0 where
  pub good : Good pool s
  pub size : n ≡ length (encode_seg (meaning pool s))

pub sized : (pool : List ℕ) (s : Segment) (n : ℕ) → segment_size pool s ≡ done n → Sized pool s n
unfolding segment_size
sized pool s n h =
    let w = all_were _ _ n h in
    record { good = w.0; size = sym (done_same w.1) }
